-- What the verdict on the made records says of all orders, and what is found over them beside it.
use Rattle.std.proofs.Common.{◌≡◌, ◌∙◌, ◌+◌, ◌<◌, ℕ, List, [], ◌∷◌, inl, inr, refl, sym, ap, subst, arith, append-nil, length, map}
use Rattle.bgp_prefix.specs.Shown.{ShownRecord}
use Rattle.streams.specs.declared.connection.Connection.{Connection}
use Rattle.bgp_open.specs.declared.config.Config.{Config}
use Rattle.bgp_machine.specs.Run.{Begins, End, IsComplete, Run}
use Rattle.bgp_machine.specs.State.{fresh_state}
use Rattle.bgp_judge.specs.Verdict.{HasVerdict, VerdictValue, Yes, No, Unfinished}
use Rattle.bgp_judge.proofs.OneVerdict.{no_other}
use Rattle.bgp_recording.specs.declared.entry.Entry.{Entry}
use Rattle.bgp_recording.specs.declared.framing.Framings.{Framings}
use Rattle.bgp_recording.specs.declared.framing.Unshown.{Unshown}
use Rattle.bgp_recording.specs.declared.message.Message.{Message}
use Rattle.bgp_recording.specs.declared.ordering.Exchange.{Exchange}
use Rattle.bgp_recording.specs.declared.state.State.{State}
use Rattle.bgp_recording.specs.Captured.{records_of}
use Rattle.bgp_recording.specs.Changes.{opened_state}
use Rattle.bgp_recording.specs.Gathered.{IsClocked}
use Rattle.bgp_recording.specs.Once.{TellTheSame}
use Rattle.bgp_recording.specs.Recorded.{IsRecorded}
use Rattle.bgp_recording.specs.Tells.{Event, numbered_of}
use Rattle.bgp_orders.specs.Connections.{IsOverOrders, TellsConnection}
use Rattle.bgp_orders.specs.Explained.{IsExplained, ShowARun}
use Rattle.bgp_orders.specs.WholeWays.{NoneIsFoundOver}
use Rattle.bgp_orders.specs.Ways.{IsWay, records_of_way}
use Rattle.bgp_orders.specs.declared.connection.OverOrders.TheVariants as over
use Rattle.bgp_orders.specs.declared.connection.Unexplained.{Unexplained}
use Rattle.bgp_orders.proofs.Over.{at_most_explained}
use Rattle.bgp_orders.proofs.Ways.{made_is_a_way}
use Rattle.bgp_recording_tool.specs.Found.{IsNo, IsNoYes, IsYes}
use Rattle.bgp_recording_tool.proofs.SameVerdict.{records_by}
use Rattle.bgp_recording_tool.proofs.SameWays.{same_as_itself, way_there, whole_there}

-- ---- of records that some run shows

complete_begins : (config : Config) (records : List ShownRecord) (e : End) → IsComplete config records e → Begins config records
complete_begins config records e (s, run, is) =
    ([], s, subst (λ (v : List ShownRecord). Run config fresh_state v s) (sym (append-nil records)) run)

-- the verdict is a yes
pub shown_yes : (config : Config) (records : List ShownRecord) (verdict : VerdictValue) → ShowARun config records → HasVerdict config records verdict → IsYes verdict
shown_yes config records (Yes ends) show is = refl
shown_yes config records (No count) (e, complete) is = absurd (no_other config records count is (complete_begins config records e complete))
shown_yes config records Unfinished (e, complete) is = absurd (is.1 e complete)

-- and of a yes some run shows them
pub yes_shown : (config : Config) (records : List ShownRecord) (ends : List End) → HasVerdict config records (Yes ends) → ShowARun config records
yes_shown config records [] is = absurd (is.0 refl)
yes_shown config records (e ∷ ends) is = (e, is.1.each.0)

-- ---- if some order is whole, none is found only for too many nodes

pub found_or_many : (config : Config) (within : ℕ) (framings : Framings) (connection : Connection) → IsClocked connection
    → IsOverOrders config within framings connection over.Yes → NoneIsFoundOver config within framings connection
    → IsOverOrders config within framings connection over.TooMany
found_or_many config within framings connection clocked some (inr many) = many
found_or_many config within framings connection clocked some (inl none) =
    absurd (none.none some.holds.0
    (whole_there config within framings connection connection some.exchange none.exchange some.holds.0 (same_as_itself connection) clocked some.tells none.tells some.holds.1))

-- ---- the made records are those of a way

-- what packets tell of the connection, with these of its messages
abbrev exchange_with : Connection → List Message → List Message → Exchange
exchange_with connection rs ss = record {
  opened_by = connection.opened_by;
  packet = connection.packet;
  second = connection.second;
  micro = connection.micro;
  received = record { ref_ptr = (0, 0); now = rs };
  sent = record { ref_ptr = (0, 0); now = ss };
  end = connection.end;
}

record IsMadeWay (within : ℕ) (framings : Framings) (connection : Connection) (entries : List Entry) : Type 0 where
  pub exchange : Exchange
  pub tells : TellsConnection framings connection exchange
  pub start : State
  pub events : List Event
  pub way : IsWay within exchange start events
  pub records : records_of entries ≡ records_of_way exchange.second start events

made_way : (within : ℕ) (framings : Framings) (connection : Connection) (entries : List Entry) (received sent : Unshown) → IsRecorded framings within connection entries received sent
    → IsMadeWay within framings connection entries
made_way within framings connection entries received sent recorded =
    let exchange = exchange_with connection recorded.received recorded.sent in
    let made = made_is_a_way within exchange (map numbered_of entries) recorded.tells in
    record {
      exchange = exchange;
      tells = record {
        received = recorded.received;
        sent = recorded.sent;
        received_unshown = received;
        sent_unshown = sent;
        heard = recorded.heard;
        said = recorded.said;
        is = record { opened_by = refl; packet = refl; second = refl; micro = refl; received = refl; sent = refl; end = refl };
      };
      start = opened_state connection.opened_by;
      events = made.0;
      way = made.1;
      records = records_by entries ∙ made.2;
    }

-- if they are a yes, it is the verdict over all orders
pub yes_over : (config : Config) (within : ℕ) (framings : Framings) (connection : Connection) (entries : List Entry) (received sent : Unshown) (ends : List End)
    → IsRecorded framings within connection entries received sent → HasVerdict config (records_of entries) (Yes ends)
    → IsOverOrders config within framings connection over.Yes
yes_over config within framings connection entries received sent ends recorded is =
    let made = made_way within framings connection entries received sent recorded in
    let show = yes_shown config (records_of entries) ends is in
    record {
      exchange = made.exchange;
      tells = made.tells;
      holds = (
        show.0,
        record {
          start = made.start;
          events = made.events;
          way = made.way;
          complete = subst (λ (rs : List ShownRecord). IsComplete config rs show.0) made.records show.1;
        },
      );
    }

-- if they are unfinished, some order explains all that was sent
unfinished_no_no : (config : Config) (within : ℕ) (framings : Framings) (one other : Connection) (entries : List Entry) (received sent : Unshown) (u : Unexplained)
    → TellTheSame one other → IsClocked one → IsRecorded framings within one entries received sent → HasVerdict config (records_of entries) Unfinished
    → IsOverOrders config within framings other (over.No u) → ⊥
unfinished_no_no config within framings one other entries received sent u same clocked recorded is denied =
    let made = made_way within framings one entries received sent recorded in
    let exchange = denied.exchange in
    let (front, is_way, records) = way_there within framings one other made.exchange exchange made.start made.events same clocked made.tells denied.tells made.way in
    let all : IsExplained config within exchange (length exchange.sent.now) = record {
      start = made.start;
      front = front;
      later = [];
      way = subst (λ (v : List Event). IsWay within exchange made.start v) (sym (append-nil front)) is_way;
      counts = ap length is_way.allowed.of_sent;
      begins = subst (λ (rs : List ShownRecord). Begins config rs) (made.records ∙ records) is.0;
    } in
    let few : u.before < length exchange.sent.now = denied.holds.0.0 in
    denied.holds.0.2 (at_most_explained config within exchange (u.before + 1) (length exchange.sent.now) (omega (arith, few)) all)

-- so a no over all orders is one of theirs, if they are no yes
pub no_over : (config : Config) (within : ℕ) (framings : Framings) (one other : Connection) (entries : List Entry) (received sent : Unshown) (verdict : VerdictValue) (u : Unexplained)
    → TellTheSame one other → IsClocked one → IsRecorded framings within one entries received sent → HasVerdict config (records_of entries) verdict → IsNoYes verdict
    → IsOverOrders config within framings other (over.No u) → IsNo verdict
no_over config within framings one other entries received sent (Yes ends) u same clocked recorded is other_than denied = absurd (other_than ends refl)
no_over config within framings one other entries received sent (No count) u same clocked recorded is other_than denied = (count, refl)
no_over config within framings one other entries received sent Unfinished u same clocked recorded is other_than denied =
    absurd (unfinished_no_no config within framings one other entries received sent u same clocked recorded is denied)
