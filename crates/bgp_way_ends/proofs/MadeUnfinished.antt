-- What it says of all orders that the made one is unfinished.
use Rattle.std.proofs.Common.{◌≡◌, ◌∙◌, ◌+◌, ◌<◌, ℕ, List, [], Option, inl, inr, refl, sym, ap, subst, arith, append-nil, length, map}
use Rattle.bgp_prefix.specs.Shown.{ShownRecord}
use Rattle.streams.specs.declared.connection.Connection.{Connection}
use Rattle.streams.specs.declared.connection.End.{End}
use Rattle.streams.specs.declared.passed.Side.{Side}
use Rattle.bgp_machine.specs.Run.{Begins}
use Rattle.bgp_recording.specs.declared.message.Message.{Message}
use Rattle.bgp_recording.specs.declared.ordering.Exchange.{Exchange}
use Rattle.bgp_recording.specs.declared.pending.Moment.{Moment}
use Rattle.bgp_recording.specs.Captured.{records_of}
use Rattle.bgp_recording.specs.Changes.{opened_state}
use Rattle.bgp_recording.specs.Moments.{first_moment, opening_moment}
use Rattle.bgp_recording.specs.Recorded.{IsExchangeOf}
use Rattle.bgp_recording.specs.Tells.{Event, Numbered, Tells, numbered_of}
use Rattle.bgp_orders.specs.Explained.{IsExplained, No, Unfinished, Yes}
use Rattle.bgp_orders.specs.Ways.{IsWay, records_of_way}
use Rattle.bgp_orders.proofs.Over.{at_most_explained}
use Rattle.bgp_orders.proofs.Ways.{made_is_a_way}
use Rattle.bgp_way_ends.specs.MadeUnfinished.{MadeUnfinishedIsNoNo}
use Rattle.bgp_way_ends.proofs.Connections.{map_map}

-- what tells the connection tells its exchange
exchange_told : (within : ℕ) (connection : Connection) (rs ss : List Message) (exchange : Exchange) (numbered : List Numbered) → IsExchangeOf connection rs ss exchange
    → Tells within connection.opened_by (first_moment connection) rs ss connection.end numbered
    → Tells within exchange.opened_by (opening_moment exchange) exchange.received.now exchange.sent.now exchange.end numbered
exchange_told within connection rs ss exchange numbered is tells =
    let moment : opening_moment exchange ≡ first_moment connection = λ i. record { packet = is.packet i; second = is.second i; micro = is.micro i } in
    subst (λ (v : Side). Tells within v (opening_moment exchange) exchange.received.now exchange.sent.now exchange.end numbered) (sym is.opened_by)
    (subst (λ (v : Moment). Tells within connection.opened_by v exchange.received.now exchange.sent.now exchange.end numbered) (sym moment)
    (subst (λ (v : List Message). Tells within connection.opened_by (first_moment connection) v exchange.sent.now exchange.end numbered) (sym is.received)
    (subst (λ (v : List Message). Tells within connection.opened_by (first_moment connection) rs v exchange.end numbered) (sym is.sent)
    (subst (λ (v : Option End). Tells within connection.opened_by (first_moment connection) rs ss v numbered) (sym is.end) tells))))

pub made_unfinished : MadeUnfinishedIsNoNo
made_unfinished config within framings connection entries received sent exchange Yes recorded is unfinished holds = inl refl
made_unfinished config within framings connection entries received sent exchange Unfinished recorded is unfinished holds = inr refl
made_unfinished config within framings connection entries received sent exchange (No count) recorded is unfinished holds =
    let tells = exchange_told within connection recorded.received recorded.sent exchange (map numbered_of entries) is recorded.tells in
    let made = made_is_a_way within exchange (map numbered_of entries) tells in
    let start = opened_state exchange.opened_by in
    let events : List Event = made.0 in
    let same : records_of entries ≡ records_of_way exchange.second start events = sym (map_map entries) ∙ made.2 in
    let all : IsExplained config within exchange (length exchange.sent.now) = record {
      start = start;
      front = events;
      later = [];
      way = subst (λ (v : List Event). IsWay within exchange start v) (sym (append-nil events)) made.1;
      counts = ap length made.1.allowed.of_sent;
      begins = subst (λ (rs : List ShownRecord). Begins config rs) same unfinished.0;
    } in
    let few : count < length exchange.sent.now = holds.0 in
    absurd (holds.2 (at_most_explained config within exchange (count + 1) (length exchange.sent.now) (omega (arith, few)) all))
