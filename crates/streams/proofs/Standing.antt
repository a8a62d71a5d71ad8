-- What stands in a stream in which all segments' octets stand.
use Rattle.std.proofs.Common.{◌≡◌, ◌<◌, ◌≤◌, ◌+◌, ◌-◌, ◌∙◌, ℕ, Some, None, Option, Bool, true, false, cond, nat_lt, List, [], ◌∷◌, ◌++◌, sym, ap, arith, inl, inr, length, ◌||◌}
use Rattle.std.specs.List.{slice_get}
use Rattle.std.specs.Option.{option_or, is_some}
use Rattle.std.proofs.lemmas.Bool.{cases_lt, cases_Bool, lt-ltb, le-ltb}
use Rattle.std.proofs.lemmas.List.{ext_get_or}
use Rattle.std.proofs.lemmas.Option.{none-some, same_Some, slice_get_within, get_or_from_slice_get}
use Rattle.streams.specs.declared.gathered.Given.{Given}
use Rattle.streams.specs.declared.passed.Side.{Side}
use Rattle.streams.specs.Passed.{Segment, giver_of}
use Rattle.streams.specs.Places.{Piece, after}
use Rattle.streams.specs.History.{start_of, given_of, next_of, placed, fin_of}
use Rattle.streams.specs.Places.{shown_by_acknowledgment}
use Rattle.streams.specs.Sent.{first_shown}
use Rattle.streams.specs.Directions.{shown_by_own}
use Rattle.streams.specs.Spelling.{Stands, AllStand, AcknowledgeBelow, Spell}
use Rattle.streams.proofs.Histories.{given_other, fin_other, shown_other}
use Rattle.streams.proofs.Moments.{cases_side, nothing, no_fin, none_shown, own_given, own_fin, own_shown, either_gives, some_is, IsOfPiece, of_piece}

-- an octet of the segment
piece_stands : (stream : List ℕ) (s : Segment) (before : List Segment) (place : ℕ) (given : Given) → Stands stream s before
    → IsOfPiece (placed s before).first (placed s before).octets (giver_of s) place given → slice_get stream place ≡ Some given.octet
piece_stands stream s before place given stands of =
    let first = (placed s before).first in
    let octets = (placed s before).octets in
    let i = place - first in
    let ge : first ≤ place = of.ge in
    let lt : place < first + length octets = of.lt in
    let at : first + i ≡ place = omega arith in
    sym (ap (slice_get stream) at) ∙ stands.octets i (omega arith) ∙ ap (λ (g : Given). Some g.octet) (sym of.is)

-- each octet given stands at its place
pub given_stands : (side : Side) (segments : List Segment) (stream : List ℕ) (place : ℕ) (given : Given) → AllStand side segments stream → given_of side segments place ≡ Some given → slice_get stream place ≡ Some given.octet
given_stands side [] stream place given stand h = absurd (none-some given (sym (nothing side place) ∙ h))
given_stands side (s ∷ before) stream place given stand h = elim (cases_side s.sender side) [
  | inl own ↦ elim (either_gives _ _ given (sym (own_given s side before place own) ∙ h)) [
    | inl earlier ↦ given_stands side before stream place given stand.1 earlier
    | inr now ↦ piece_stands stream s before place given (stand.0 own) (of_piece _ _ _ place given now.1)
  ]
  | inr other ↦ given_stands side before stream place given stand.1 (sym (given_other s side before place other) ∙ h)
]

pub given_within : (side : Side) (segments : List Segment) (stream : List ℕ) (place : ℕ) → AllStand side segments stream → is_some (given_of side segments place) ≡ true → place < length stream
given_within side segments stream place stand h =
    let given = some_is (given_of side segments place) h in
    slice_get_within stream place given.0.octet (given_stands side segments stream place given.0 stand given.1)

-- so does the FIN, right after the stream
pub fin_stands : (side : Side) (segments : List Segment) (stream : List ℕ) (fin : ℕ) → AllStand side segments stream → fin_of side segments ≡ Some fin → fin ≡ length stream
fin_stands side [] stream fin stand h = absurd (none-some fin (sym (no_fin side) ∙ h))
fin_stands side (s ∷ before) stream fin stand h = elim (cases_side s.sender side) [
  | inr other ↦ fin_stands side before stream fin stand.1 (sym (fin_other s side before other) ∙ h)
  | inl own ↦ elim (either_gives _ _ fin (sym (own_fin s side before own) ∙ h)) [
    | inl earlier ↦ fin_stands side before stream fin stand.1 earlier
    | inr now ↦ elim (cases_Bool s.fin) [
      | inl has ↦
          let at : Some (after (placed s before)) ≡ Some fin = sym (ap (λ (t : Bool). cond t (Some (after (placed s before))) None) has) ∙ now.1 in
          sym (same_Some (after (placed s before)) fin at) ∙ (stand.0 own).fin has
      | inr lacks ↦ absurd (none-some fin (sym (ap (λ (t : Bool). cond t (Some (after (placed s before))) None) lacks) ∙ now.1))
    ]
  ]
]

-- a stream is no longer than another one
no_longer : (side : Side) (segments : List Segment) (one other : List ℕ) → Spell side segments one → Spell side segments other → length one ≤ length other
no_longer side segments one other a b = elim (cases_lt (length other) (length one)) [
  | inr le ↦ le
  | inl lt ↦
      let within : length other < length other = given_within side segments other (length other) b.stand (a.given (length other) lt) in
      absurd (omega arith)
]

pub at_most_one : (side : Side) (segments : List Segment) (one other : List ℕ) → Spell side segments one → Spell side segments other → one ≡ other
at_most_one side segments one other a b =
    let some = no_longer side segments one other a b in
    let less = no_longer side segments other one b a in
    ext_get_or 0 one other (omega (arith, some, less)) (λ i lt.
    let given = some_is (given_of side segments i) (a.given i lt) in
    get_or_from_slice_get one i given.0.octet 0 (given_stands side segments one i given.0 a.stand given.1)
    ∙ sym (get_or_from_slice_get other i given.0.octet 0 (given_stands side segments other i given.0 b.stand given.1)))

-- nothing after the stream is shown to have been sent
own_shown_within : (stream : List ℕ) (s : Segment) (before : List Segment) → Stands stream s before → shown_by_own s (placed s before) ≤ length stream
own_shown_within stream s before stands =
    let piece : Piece = placed s before in
    let shown = λ (t u : Bool). cond (t || u) (cond u (after piece) (after piece - 1)) 0 in
    elim (cases_Bool s.fin) [
      | inl has ↦
          let at : after piece ≡ length stream = stands.fin has in
          let is : shown_by_own s piece ≡ shown (nat_lt 0 (length piece.octets)) true = ap (shown (nat_lt 0 (length piece.octets))) has in
          elim (cases_Bool (nat_lt 0 (length piece.octets))) [
            | inl t ↦ omega (arith, is ∙ ap (λ (v : Bool). shown v true) t, at)
            | inr t ↦ omega (arith, is ∙ ap (λ (v : Bool). shown v true) t, at)
          ]
      | inr lacks ↦
          let is : shown_by_own s piece ≡ shown (nat_lt 0 (length piece.octets)) false = ap (shown (nat_lt 0 (length piece.octets))) lacks in
          elim (cases_lt 0 (length piece.octets)) [
            | inl some ↦
                let last = stands.octets (length piece.octets - 1) (omega arith) in
                let within = slice_get_within stream _ _ last in
                omega (arith, is ∙ ap (λ (v : Bool). shown v false) (lt-ltb 0 (length piece.octets) some), within)
            | inr none ↦ omega (arith, is ∙ ap (λ (v : Bool). shown v false) (le-ltb 0 (length piece.octets) none))
          ]
    ]

pub nothing_shown : (side : Side) (segments : List Segment) (stream : List ℕ) (q : ℕ) → AllStand side segments stream → AcknowledgeBelow side segments q → length stream ≤ q → first_shown side segments q ≡ None
nothing_shown side [] stream q stand acks le = none_shown side q
nothing_shown side (s ∷ before) stream q stand acks le =
    let rest = nothing_shown side before stream q stand.1 acks.1 le in
    elim (cases_side s.sender side) [
      | inl own ↦
          let past : nat_lt q (shown_by_own s (placed s before)) ≡ false = le-ltb q (shown_by_own s (placed s before)) (omega (arith, le, own_shown_within stream s before (stand.0 own))) in
          own_shown s side before q own
          ∙ ap (λ (o : Option ℕ). option_or o (cond (nat_lt q (shown_by_own s (placed s before))) (Some s.packet) None)) rest
          ∙ ap (λ (t : Bool). cond t (Some s.packet) None) past
      | inr other ↦
          let shown = shown_by_acknowledgment (start_of side before) (next_of side before) s.acknowledgment s.rst in
          let past : nat_lt q shown ≡ false = le-ltb q shown (acks.0 other) in
          shown_other s side before q other
          ∙ ap (λ (o : Option ℕ). option_or o (cond (nat_lt q shown) (Some s.packet) None)) rest
          ∙ ap (λ (t : Bool). cond t (Some s.packet) None) past
    ]

-- the segments that were taken first stand, too
pub earlier_stand : (side : Side) (later segments : List Segment) (stream : List ℕ) → AllStand side (later ++ segments) stream → AllStand side segments stream
earlier_stand side [] segments stream stand = stand
earlier_stand side (s ∷ later) segments stream stand = earlier_stand side later segments stream stand.1
