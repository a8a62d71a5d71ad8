-- What is printed of a connection is the verdict over all orders, unless there are too many.
use Rattle.std.proofs.Common.{◌≡◌, ◌⊎◌, ◌++◌, ℕ, List, Option, inl, inr, refl}
use Rattle.std.specs.List.{flat_map}
use Rattle.packets.specs.Packet.{Recorded}
use Rattle.streams.specs.Passed.{Segment}
use Rattle.bgp_open.specs.declared.config.Config.{Config}
use Rattle.bgp_machine.specs.Run.{End}
use Rattle.bgp_judge.specs.Verdict.{Yes, No, Unfinished}
use Rattle.bgp_tool.specs.VerdictText.{end_text}
use Rattle.bgp_recording.specs.Captured.{records_of}
use Rattle.bgp_recording.specs.Pieces.{framings_of}
use Rattle.bgp_recording.specs.declared.entry.Entry.{Entry}
use Rattle.bgp_orders.specs.Entries.{RunsOfEntriesAreWhole}
use Rattle.bgp_orders.specs.declared.connection.OverOrders.{OverOrders}
use Rattle.bgp_orders.specs.declared.connection.OverOrders.TheVariants as over
use Rattle.bgp_explain.specs.declared.report.Report.{Report}
use Rattle.bgp_import.specs.Refusals.{refusal_line}
use Rattle.bgp_import.specs.declared.importing.Import.{Import}
use Rattle.bgp_import.specs.declared.refusal.Refusal.{Refusal}
use Rattle.bgp_recording_tool.specs.Connections.{IsNotJudged, IsOverAll, IsTold, IsYesOfAnother}
use Rattle.bgp_recording_tool.specs.Found.{TooMany}
use Rattle.bgp_recording_tool.specs.Headline.{IsPrintedOver, PrintsVerdictOverAll}
use Rattle.bgp_recording_tool.specs.Told.{Told, Judged, NoOrder, InAnotherOrder, Refused, UnfinishedOverAll, refused_status, told_status, told_text}
use Rattle.bgp_recording_tool.specs.declared.remark.Remark.{Remark}
use Rattle.bgp_recording_tool.proofs.FoundNothing.{made_verdict, no_nothing, unfinished_nothing}
use Rattle.bgp_recording_tool.proofs.MadeOverAll.{yes_over, yes_shown}

module _ (law : RunsOfEntriesAreWhole) (config : Config) (report : Report) (wanted : Import) (packets : List Recorded) (segments : List Segment) (number named : Option ℕ) where
  -- the yes of another order
  another_over : (entries : List Entry) (ends : List End) → IsYesOfAnother config wanted packets segments number entries ends → IsOverAll config wanted packets segments number over.Yes
  another_over entries ends another =
      let way = another.yes.of in
      let show = yes_shown config (records_of entries) ends another.yes.is in record {
        connection = another.connection;
        chosen = another.chosen;
        over_all = record {
          exchange = way.exchange;
          tells = way.tells;
          holds = (show.0, law config wanted.within way.exchange entries show.0 way.of show.1);
        };
      }

  by_told : (text : List ℕ) (status : ℕ) (remarks : List Remark) (told : Told) → IsTold config report wanted packets segments number named told remarks
      → text ≡ told_text told → status ≡ told_status told
      → ((verdict : OverOrders) × IsOverAll config wanted packets segments number verdict × IsPrintedOver config wanted packets segments number verdict text status)
      ⊎ ((refusal : Refusal) × IsNotJudged config wanted packets segments number named refusal remarks × (text ≡ refusal_line refusal) × (status ≡ refused_status refusal))
  by_told text status remarks (Judged (Yes ends) more) (inl is) prints tells =
      let judged = is.judged in
      let over_all = yes_over config wanted.within (framings_of wanted.selection.session) judged.connection judged.entries judged.notes.received judged.notes.sent ends judged.made.recorded.told
      judged.is in
      inl (over.Yes, record { connection = judged.connection; chosen = judged.chosen; over_all = over_all }, (flat_map end_text ends ++ more, prints, tells))
  by_told text status remarks (Judged (Yes ends) more) (inr is) prints tells = absurd (is.judged.is_found.0 ends refl)
  by_told text status remarks (Judged (No count) more) (inl is) prints tells =
      absurd (no_nothing config wanted packets segments number count is.judged.is_found)
  by_told text status remarks (Judged (No count) more) (inr is) prints tells =
      let judged = is.judged in
      let made = made_verdict config wanted packets segments number named (No count) TooMany remarks judged in
      inl (over.TooMany, judged.is_found.1, (judged.entries, No count, made, judged.is_found.0, (more, prints, tells)))
  by_told text status remarks (Judged Unfinished more) (inl is) prints tells =
      inl (over.Unfinished, unfinished_nothing config wanted packets segments number is.judged.is_found, (more, prints, tells))
  by_told text status remarks (Judged Unfinished more) (inr is) prints tells =
      let judged = is.judged in
      let made = made_verdict config wanted packets segments number named Unfinished TooMany remarks judged in
      inl (over.TooMany, judged.is_found.1, (judged.entries, Unfinished, made, judged.is_found.0, (more, prints, tells)))
  by_told text status remarks (NoOrder u more) (verdict, instead, reported) prints tells =
      inl (over.No u, reported.judged.is_found.1, (more, prints, tells))
  by_told text status remarks (InAnotherOrder ends more) (verdict, reported) prints tells =
      inl (over.Yes, another_over reported.judged.others ends reported.judged.is_found.1, (flat_map end_text ends ++ more, prints, tells))
  by_told text status remarks (UnfinishedOverAll more) (verdict, reported) prints tells =
      inl (over.Unfinished, reported.judged.is_found.1, (more, prints, tells))
  by_told text status remarks (Refused refusal) is prints tells = inr (refusal, is, prints, tells)

pub over_all : RunsOfEntriesAreWhole → PrintsVerdictOverAll
over_all law config report wanted packets segments number named text status remarks told =
    by_told law config report wanted packets segments number named text status remarks told.told told.is_told told.prints told.tells
