-- A yes that is told is of the entries of a way; so its ends are all.
use Rattle.std.proofs.Common.{◌≡◌, ℕ, List, Option, None, Some, length, reverse, inl, inr, refl, subst}
use Rattle.packets.specs.Packet.{Recorded}
use Rattle.streams.specs.Choice.{IsAnswered}
use Rattle.streams.specs.Connections.{numbered}
use Rattle.streams.specs.Passed.{Segment}
use Rattle.streams.specs.declared.connection.Connection.{Connection}
use Rattle.bgp_open.specs.declared.config.Config.{Config}
use Rattle.bgp_machine.specs.Run.{End}
use Rattle.bgp_recording.specs.declared.entry.Entry.{Entry}
use Rattle.bgp_recording.specs.declared.framing.Framings.{Framings}
use Rattle.bgp_recording.specs.declared.framing.Unshown.{Unshown}
use Rattle.bgp_recording.specs.declared.message.Message.{Message}
use Rattle.bgp_recording.specs.declared.ordering.Exchange.{Exchange}
use Rattle.bgp_recording.specs.Changes.{opened_state}
use Rattle.bgp_recording.specs.Gathered.{IsClocked}
use Rattle.bgp_recording.specs.Pieces.{framings_of}
use Rattle.bgp_recording.specs.Recorded.{IsRecorded}
use Rattle.bgp_judge.specs.Verdict.{Yes, No, Unfinished}
use Rattle.bgp_orders.specs.WholeWays.{AreOfAWayOver}
use Rattle.bgp_orders.proofs.Ways.{opened_either}
use Rattle.bgp_explain.specs.declared.report.Report.{Report}
use Rattle.bgp_import.specs.Selecting.{AreTaken}
use Rattle.bgp_import.specs.declared.importing.Import.{Import}
use Rattle.bgp_import.proofs.InOrder.{in_order}
use Rattle.bgp_import.proofs.Telling.{is_clocked}
use Rattle.bgp_way_ends.specs.EveryEnd.{WayYesListsEveryEnd}
use Rattle.bgp_way_ends.specs.Starts.{TwoStartsEndAll}
use Rattle.bgp_recording_tool.specs.Connections.{IsReported, IsTold, IsYesOfAnother}
use Rattle.bgp_recording_tool.specs.Found.{Found, Nothing}
use Rattle.bgp_recording_tool.specs.Told.{Told, Judged, NoOrder, InAnotherOrder, Refused, UnfinishedOverAll}
use Rattle.bgp_recording_tool.specs.declared.remark.Remark.{Remark}
use Rattle.bgp_order_laws.specs.AllEnds.{AreAllEnds, ends_told}

-- what packets tell of the connection, with these of its messages
abbrev exchange_with : Connection → List Message → List Message → Exchange
exchange_with connection rs ss = record {
  opened_by = connection.opened_by;
  packet = connection.packet;
  second = connection.second;
  micro = connection.micro;
  received = record { ref_ptr = (0, 0); now = rs };
  sent = record { ref_ptr = (0, 0); now = ss };
  end = connection.end;
}

-- the made entries are those of a way
pub made_of_way : (within : ℕ) (framings : Framings) (connection : Connection) (entries : List Entry) (received sent : Unshown) → IsRecorded framings within connection entries received sent
    → AreOfAWayOver framings within connection entries received sent
made_of_way within framings connection entries received sent recorded = record {
  exchange = exchange_with connection recorded.received recorded.sent;
  tells = record {
    received = recorded.received;
    sent = recorded.sent;
    received_unshown = received;
    sent_unshown = sent;
    heard = recorded.heard;
    said = recorded.said;
    is = record { opened_by = refl; packet = refl; second = refl; micro = refl; received = refl; sent = refl; end = refl };
  };
  received_unshown = refl;
  sent_unshown = refl;
  of = record {
    start = opened_state connection.opened_by;
    events = recorded.tells.events;
    way = record {
      starts = (opened_either connection.opened_by, λ none none_sent. refl);
      allowed = recorded.tells.allowed;
      timed = recorded.tells.timed;
    };
    numbered = recorded.tells.shown;
  };
}

-- ---- what is listed

abbrev nothing : Option (List End)
nothing = None

pub listed_is : (xs ys : List End) → Some xs ≡ Some ys → xs ≡ ys
listed_is xs ys e = cc

pub none_listed : (ys : List End) → nothing ≡ Some ys → ⊥
none_listed ys e = cc

-- a connection that is answered goes by a clock
pub goes_by_clock : (wanted : Import) (packets : List Recorded) (segments : List Segment) (number : Option ℕ) (connection : Connection) → AreTaken wanted.selection 0 packets segments
    → IsAnswered number (length packets) (numbered (reverse segments)) connection → IsClocked connection
goes_by_clock wanted packets segments number connection taken chosen =
    is_clocked (reverse segments) number (length packets) connection (in_order wanted.selection packets segments taken) chosen

module _ (config : Config) (report : Report) (wanted : Import) (packets : List Recorded) (segments : List Segment) (number named : Option ℕ) where
  -- that of the made entries
  pub made_yes : (ends : List End) (found : Found) (more : List ℕ) (remarks : List Remark) → IsReported config report wanted packets segments number named (Yes ends) found more remarks
      → (entries : List Entry) × IsYesOfAnother config wanted packets segments number entries ends
  made_yes ends found more remarks is =
      let judged = is.judged in (
        judged.entries,
        record {
          connection = judged.connection;
          chosen = judged.chosen;
          yes = record {
            received = judged.notes.received;
            sent = judged.notes.sent;
            of = made_of_way wanted.within (framings_of wanted.selection.session) judged.connection judged.entries judged.notes.received judged.notes.sent judged.made.recorded.told;
            is = judged.is;
          };
        },
      )

  pub yes_told : (told : Told) (ends : List End) (remarks : List Remark) → IsTold config report wanted packets segments number named told remarks → ends_told told ≡ Some ends
      → (entries : List Entry) × IsYesOfAnother config wanted packets segments number entries ends
  yes_told (Judged (Yes mine) more) ends remarks (inl is) e =
      let same = listed_is mine ends e in
      let yes = made_yes mine Nothing more remarks is in
      (yes.0, subst (λ (v : List End). IsYesOfAnother config wanted packets segments number yes.0 v) same yes.1)
  yes_told (Judged (Yes mine) more) ends remarks (inr is) e = absurd (is.judged.is_found.0 mine refl)
  yes_told (Judged (No count) more) ends remarks is e = absurd (none_listed ends e)
  yes_told (Judged Unfinished more) ends remarks is e = absurd (none_listed ends e)
  yes_told (NoOrder u more) ends remarks is e = absurd (none_listed ends e)
  yes_told (InAnotherOrder mine more) ends remarks (verdict, is) e =
      let same = listed_is mine ends e in
      (is.judged.others, subst (λ (v : List End). IsYesOfAnother config wanted packets segments number is.judged.others v) same is.judged.is_found.1)
  yes_told (UnfinishedOverAll more) ends remarks is e = absurd (none_listed ends e)
  yes_told (Refused refusal) ends remarks is e = absurd (none_listed ends e)

pub all_ends : WayYesListsEveryEnd → TwoStartsEndAll → (config : Config) (wanted : Import) (packets : List Recorded) (segments : List Segment) (number : Option ℕ) (entries : List Entry)
    (ends : List End) → AreTaken wanted.selection 0 packets segments → IsYesOfAnother config wanted packets segments number entries ends
    → AreAllEnds config wanted packets segments number ends
all_ends law starts config wanted packets segments number entries ends taken one =
    let yes = one.yes in
    let framings = framings_of wanted.selection.session in
    let clocked = goes_by_clock wanted packets segments number one.connection taken one.chosen in
    let each = λ (e : End). law config wanted.within framings one.connection entries yes.received yes.sent ends e clocked yes.of yes.is.1 yes.is.0 in
    record {
      connection = one.connection;
      chosen = one.chosen;
      some = yes.is.0;
      none_twice = yes.is.1.none_twice;
      by_ways = each;
      from_any = λ e. (
        λ can.
            let whole = (starts config wanted.within framings one.connection can.exchange e can.tells).0 can.whole in
            (each e).0 (record { exchange = can.exchange; tells = can.tells; whole = whole }),
        λ has.
            let can = (each e).1 has in
            record {
              exchange = can.exchange;
              tells = can.tells;
              whole = (starts config wanted.within framings one.connection can.exchange e can.tells).1 can.whole;
            },
      );
    }
