-- What explains the records of a front leads from node to node.
use Rattle.std.proofs.Common.{◌≡◌, ◌++◌, ℕ, List, [], ◌∷◌, Option, None, max, refl, sym, ap, subst, ◌∙◌}
use Rattle.bgp_prefix.specs.Shown.{ShownRecord}
use Rattle.streams.specs.declared.connection.End.{End}
use Rattle.bgp_open.specs.declared.config.Config.{Config}
use Rattle.bgp_recording.specs.declared.message.Message.{Message}
use Rattle.bgp_recording.specs.declared.standing.Before.TheVariants.{Other}
use Rattle.bgp_recording.specs.Allowed.{Item, Received, Sent, Ended, received_in, sent_in}
use Rattle.bgp_recording.specs.Changes.{led_by_received, is_answered_before_open, just_received, just_sent, are_left, state_then}
use Rattle.bgp_recording.specs.Tells.{Event, Passed, AreTimed, items_in}
use Rattle.bgp_judge.specs.Chains.{BareReaches}
use Rattle.bgp_judge.specs.Member.{Member}
use Rattle.bgp_orders.specs.Nodes.{Node, led_out, after_received, after_sent, after_end, Goes}
use Rattle.bgp_orders.specs.Walks.{IsWalk}
use Rattle.bgp_orders.specs.Ways.{received_records, sent_records, end_records, state_after_end, records_in}
use Rattle.bgp_orders.proofs.Ways.{part}

pub walk_received : (within : ℕ) (rs ss : List Message) (end : Option End) (order : List Item) → IsWalk within rs ss end order → received_in order ≡ rs
walk_received within rs ss end [] w = sym w.0
walk_received within rs ss end (Received m ∷ later) w = ap (λ xs. m ∷ xs) (walk_received within w.0 ss end later w.3) ∙ sym w.1
walk_received within rs ss end (Sent m ∷ later) w = walk_received within rs w.0 end later w.3
walk_received within rs ss end (Ended e ∷ later) w = walk_received within rs ss None later w.3

pub walk_sent : (within : ℕ) (rs ss : List Message) (end : Option End) (order : List Item) → IsWalk within rs ss end order → sent_in order ≡ ss
walk_sent within rs ss end [] w = sym w.1
walk_sent within rs ss end (Received m ∷ later) w = walk_sent within w.0 ss end later w.3
walk_sent within rs ss end (Sent m ∷ later) w = ap (λ xs. m ∷ xs) (walk_sent within rs w.0 end later w.3) ∙ sym w.1
walk_sent within rs ss end (Ended e ∷ later) w = walk_sent within rs ss None later w.3

-- the records of a front from a node on, by the second of its first item and what it looks at behind that
abbrev pub by_received : Node → Message → List Event → List Event → ℕ → List Message → List ShownRecord
by_received n x front later t ss =
    received_records t n.state (led_by_received n.state x.kind (is_answered_before_open x.kind ss)) x
    ++ records_in (state_then n.state (led_by_received n.state x.kind (is_answered_before_open x.kind ss))) (just_received x.kind) front later

abbrev pub by_sent : Node → Message → List Event → List Event → ℕ → List ShownRecord
by_sent n x front later t =
    sent_records t n.state (led_out n x) x ++ records_in (state_then n.state (led_out n x)) (just_sent n.state x.kind n.before) front later

abbrev pub by_end : Node → List Event → List Event → ℕ → List Message → List ShownRecord
by_end n front later t rs =
    end_records t n.state (are_left rs) ++ records_in (state_after_end n.state (are_left rs)) Other front later

pub by_front : (config : Config) (within : ℕ) (front later : List Event) (n : Node) (last : Member) → IsWalk within n.received n.sent n.end (items_in (front ++ later))
    → AreTimed n.last (front ++ later) → BareReaches config n.member (records_in n.state n.before front later) last
    → (n2 : Node) × Goes config within n (items_in front) n2 × (n2.member ≡ last) × IsWalk within n2.received n2.sent n2.end (items_in later)
by_front config within [] later n last w timed k = (n, refl, k, w)
by_front config within (Passed second (Received x) ∷ front) later n last w timed k =
    let Then : ℕ → List Message → Type 0 = λ t ss. BareReaches config n.member (by_received n x front later t ss) last in
    let k2 : Then (max x.second n.last) n.sent =
    subst (λ (t : ℕ). Then t n.sent) timed.1 (subst (λ (v : List Message). Then second v) (walk_sent within w.0 n.sent n.end (items_in (front ++ later)) w.3) k) in
    let led = led_by_received n.state x.kind (is_answered_before_open x.kind n.sent) in
    let p = part config n.member last (received_records (max x.second n.last) n.state led x) (records_in (state_then n.state led) (just_received x.kind) front later) k2 in
    let mid : Node = after_received n x w.0 p.0 in
    let rest = by_front config within front later mid last w.3 (subst (λ (t : ℕ). AreTimed t (front ++ later)) timed.1 timed.2) p.2 in
    (rest.0, (mid, (w.0, w.1, w.2, p.0, p.1, refl), rest.1), rest.2, rest.3)
by_front config within (Passed second (Sent x) ∷ front) later n last w timed k =
    let Then : ℕ → Type 0 = λ t. BareReaches config n.member (by_sent n x front later t) last in
    let k2 : Then x.second = subst Then timed.1 k in
    let led = led_out n x in
    let p = part config n.member last (sent_records x.second n.state led x) (records_in (state_then n.state led) (just_sent n.state x.kind n.before) front later) k2 in
    let mid : Node = after_sent n x w.0 p.0 in
    let rest = by_front config within front later mid last w.3 (subst (λ (t : ℕ). AreTimed t (front ++ later)) timed.1 timed.2) p.2 in
    (rest.0, (mid, (w.0, w.1, w.2, p.0, p.1, refl), rest.1), rest.2, rest.3)
by_front config within (Passed second (Ended e) ∷ front) later n last w timed k =
    let Then : ℕ → List Message → Type 0 = λ t rs. BareReaches config n.member (by_end n front later t rs) last in
    let k2 : Then (max e.second n.last) n.received =
    subst (λ (t : ℕ). Then t n.received) timed.1 (subst (λ (v : List Message). Then second v) (walk_received within n.received n.sent None (items_in (front ++ later)) w.3) k) in
    let left = are_left n.received in
    let p = part config n.member last (end_records (max e.second n.last) n.state left) (records_in (state_after_end n.state left) Other front later) k2 in
    let mid : Node = after_end n e p.0 in
    let rest = by_front config within front later mid last w.3 (subst (λ (t : ℕ). AreTimed t (front ++ later)) timed.1 timed.2) p.2 in
    (rest.0, (mid, (w.0, w.1, w.2, p.0, p.1, refl), rest.1), rest.2, rest.3)
