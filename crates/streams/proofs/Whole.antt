-- Half a connection is never answered.
use Rattle.std.proofs.Common.{◌≡◌, ◌∙◌, ℕ, Some, None, Option, Bool, true, cond, List, [], ◌∷◌, refl, sym, ap, min}
use Rattle.std.specs.Option.{option_or, is_some, is_none}
use Rattle.std.specs.List.{AllByRecursion}
use Rattle.std.proofs.lemmas.Option.{none-some}
use Rattle.streams.specs.declared.connection.Connection.{Connection}
use Rattle.streams.specs.declared.fault.Fault.TheVariants as faults
use Rattle.streams.specs.declared.passed.Side.{Side}
use Rattle.streams.specs.declared.passed.Side.TheVariants.{Local, Peer}
use Rattle.streams.specs.Passed.{Segment, other_side}
use Rattle.streams.specs.History.{start_of}
use Rattle.streams.specs.Refusals.{first_fault, half_of}
use Rattle.streams.specs.Sent.{acknowledges, first_acknowledged, half_shown}
use Rattle.streams.specs.Choice.{refusal_of, numbered_one, IsAnswered}
use Rattle.streams.specs.Wholeness.{AreWhole}
use Rattle.streams.proofs.Histories.{not_other_side, acknowledged_more}
use Rattle.streams.proofs.Moments.{neither}

none_half : (received sent : Option ℕ) → half_of received sent ≡ None → (received ≡ None) × (sent ≡ None)
none_half None None h = (refl, refl)
none_half (Some p) None h = absurd (none-some (faults.NoStart p) (sym h))
none_half None (Some q) h = absurd (none-some (faults.NoStart q) (sym h))
none_half (Some p) (Some q) h = absurd (none-some (faults.NoStart (min p q)) (sym h))

-- a side that is acknowledged has its SYN
started : (start acknowledged : Option ℕ) → cond (is_none start) acknowledged None ≡ None → (acknowledged ≡ None → ⊥) → is_some start ≡ true
started None acknowledged h some = absurd (some h)
started (Some x) acknowledged h some = refl

some_last : (o : Option ℕ) (p : ℕ) → option_or o (Some p) ≡ None → ⊥
some_last None p h = none-some p (sym h)
some_last (Some x) p h = none-some x (sym h)

-- one segment of the other side acknowledges it
acknowledged_here : (s : Segment) (before : List Segment) → acknowledges s ≡ true → first_acknowledged (other_side s.sender) (s ∷ before) ≡ None → ⊥
acknowledged_here s before acks none =
    let side = other_side s.sender in
    some_last (first_acknowledged side before) s.packet
    (sym (acknowledged_more s side before (not_other_side s.sender) ∙ ap (λ (t : Bool). option_or (first_acknowledged side before) (cond t (Some s.packet) None)) acks) ∙ none)

-- each side is acknowledged only where it has a SYN
abbrev AreStarted : List Segment → List Segment → Type 0
AreStarted all segments = AllByRecursion
    (λ (s : Segment). acknowledges s ≡ true → is_some (start_of (other_side s.sender) all) ≡ true)
    segments

are_started : (all segments : List Segment) → ((side : Side) → (first_acknowledged side segments ≡ None → ⊥) → is_some (start_of side all) ≡ true) → AreStarted all segments
are_started all [] each = tt
are_started all (s ∷ before) each = (
  λ acks. each (other_side s.sender) (acknowledged_here s before acks),
  are_started all before (λ side some. each side (λ none. some (neither (first_acknowledged side before) _ none).0)),
)

side_started : (segments : List Segment) → half_shown Peer segments ≡ None → half_shown Local segments ≡ None → (side : Side) → (first_acknowledged side segments ≡ None → ⊥) → is_some (start_of side segments) ≡ true
side_started segments peer local Peer some = started (start_of Peer segments) (first_acknowledged Peer segments) peer some
side_started segments peer local Local some = started (start_of Local segments) (first_acknowledged Local segments) local some

whole : (segments : List Segment) → refusal_of segments ≡ None → AreWhole segments
whole segments fine =
    let end = neither (first_fault segments) _ fine in
    let halves = none_half (half_shown Peer segments) (half_shown Local segments) (neither (half_of (half_shown Peer segments) (half_shown Local segments)) _ end.1).0 in
    are_started segments segments (side_started segments halves.0 halves.1)

pub answered_is_whole : (number : Option ℕ) (last_packet : ℕ) (connections : List (List Segment)) (connection : Connection) → IsAnswered number last_packet connections connection → AreWhole (numbered_one connections connection.number)
answered_is_whole number last_packet connections connection answered = whole (numbered_one connections connection.number) answered.fine
