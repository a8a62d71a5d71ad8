-- What is given, once a segment more has passed, of its own side and of the other.
use Rattle.std.proofs.Common.{◌≡◌, ◌<◌, ◌≤◌, ◌+◌, ◌-◌, ◌∙◌, ℕ, Some, None, Option, Bool, true, false, cond, nat_lt, List, [], ◌∷◌, refl, sym, ap, arith, inl, inr, ◌⊎◌, length, get_or, max, subst}
use Rattle.std.specs.Option.{option_or, is_some}
use Rattle.std.proofs.lemmas.Bool.{cases_lt}
use Rattle.std.proofs.lemmas.Option.{none-some, same_Some}
use Rattle.streams.specs.declared.gathered.Given.{Given}
use Rattle.streams.specs.declared.gathered.Giver.{Giver}
use Rattle.streams.specs.declared.passed.Side.{Side}
use Rattle.streams.specs.declared.passed.Side.TheVariants.{Local, Peer}
use Rattle.streams.specs.Given.{piece_at}
use Rattle.streams.specs.Passed.{Segment, giver_of, is_side}
use Rattle.streams.specs.Places.{after}
use Rattle.streams.specs.History.{count_of, given_of, placed, end_in, end_of, fin_of}
use Rattle.streams.specs.Sent.{first_shown}
use Rattle.streams.specs.Directions.{shown_by_own}
use Rattle.streams.proofs.Pieces.{piece_before, piece_past, piece_within}
use Rattle.streams.proofs.Histories.{own_side, given_more, given_other, end_more, fin_more, fin_other, shown_more}

pub cases_side : (a b : Side) → (a ≡ b) ⊎ (is_side a b ≡ false)
cases_side Local Local = inl refl
cases_side Local Peer = inr refl
cases_side Peer Local = inr refl
cases_side Peer Peer = inl refl

pub nothing : (side : Side) (p : ℕ) → given_of side [] p ≡ None
unfolding given_of
nothing side p = refl

pub no_end : (side : Side) → end_of side [] ≡ 0
unfolding end_of
no_end side = refl

pub no_fin : (side : Side) → fin_of side [] ≡ None
unfolding fin_of
no_fin side = refl

pub none_shown : (side : Side) (p : ℕ) → first_shown side [] p ≡ None
unfolding first_shown
none_shown side p = refl

-- a segment of the side
pub own_given : (s : Segment) (side : Side) (before : List Segment) (place : ℕ) → s.sender ≡ side → given_of side (s ∷ before) place ≡ option_or (given_of side before place) (piece_at (placed s before).first (placed s before).octets (giver_of s) place)
own_given s side before place e =
    subst (λ (t : Side). given_of t (s ∷ before) place ≡ option_or (given_of t before place) (piece_at (placed s before).first (placed s before).octets (giver_of s) place)) e
    (given_more s before place)

pub own_end : (s : Segment) (side : Side) (before : List Segment) → s.sender ≡ side → end_of side (s ∷ before) ≡ max (end_of side before) (end_in (placed s before))
own_end s side before e = subst (λ (t : Side). end_of t (s ∷ before) ≡ max (end_of t before) (end_in (placed s before))) e (end_more s before)

pub own_fin : (s : Segment) (side : Side) (before : List Segment) → s.sender ≡ side → fin_of side (s ∷ before) ≡ option_or (fin_of side before) (cond s.fin (Some (after (placed s before))) None)
own_fin s side before e = subst (λ (t : Side). fin_of t (s ∷ before) ≡ option_or (fin_of t before) (cond s.fin (Some (after (placed s before))) None)) e (fin_more s before)

pub own_shown : (s : Segment) (side : Side) (before : List Segment) (place : ℕ) → s.sender ≡ side → first_shown side (s ∷ before) place ≡ option_or (first_shown side before place) (cond (nat_lt place (shown_by_own s (placed s before))) (Some s.packet) None)
own_shown s side before place e = subst (λ (t : Side). first_shown t (s ∷ before) place ≡ option_or (first_shown t before place) (cond (nat_lt place (shown_by_own s (placed s before))) (Some s.packet) None)) e (shown_more s before place)

pub own_count : (s : Segment) (side : Side) (before : List Segment) → s.sender ≡ side → count_of side (s ∷ before) ≡ count_of side before + length s.octets
own_count s side before e =
    subst (λ (t : Side). count_of t (s ∷ before) ≡ count_of t before + length s.octets) e
    (ap (λ (t : Bool). count_of s.sender before + cond t (length s.octets) 0) (own_side s.sender))

pub other_count : (s : Segment) (side : Side) (before : List Segment) → is_side s.sender side ≡ false → count_of side (s ∷ before) ≡ count_of side before + 0
other_count s side before e = ap (λ (t : Bool). count_of side before + cond t (length s.octets) 0) e

-- one of two alternatives
pub either_gives : {X : Type 0} (o p : Option X) (x : X) → option_or o p ≡ Some x → (o ≡ Some x) ⊎ ((o ≡ None) × (p ≡ Some x))
either_gives None p x h = inr (refl, h)
either_gives (Some y) p x h = inl h

pub neither : {X : Type 0} (o p : Option X) → option_or o p ≡ None → (o ≡ None) × (p ≡ None)
neither None p h = (refl, h)
neither (Some y) p h = absurd (none-some y (sym h))

pub some_or_none : {X : Type 0} (o : Option X) → (o ≡ None) ⊎ ((x : X) × (o ≡ Some x))
some_or_none None = inl refl
some_or_none (Some x) = inr (x, refl)

pub some_is : {X : Type 0} (o : Option X) → is_some o ≡ true → (x : X) × (o ≡ Some x)
some_is None h = absurd (grind arith)
some_is (Some x) h = (x, refl)

-- an octet that a piece gives
pub record IsOfPiece (first : ℕ) (octets : List ℕ) (giver : Giver) (place : ℕ) (given : Given) : Type 0 where
  pub ge : first ≤ place
  pub lt : place < first + length octets
  pub is : given ≡ record { octet = get_or octets (place - first) 0; giver = giver }

pub of_piece : (first : ℕ) (octets : List ℕ) (giver : Giver) (place : ℕ) (given : Given) → piece_at first octets giver place ≡ Some given → IsOfPiece first octets giver place given
of_piece first octets giver place given h = elim (cases_lt place first) [
  | inl before ↦ absurd (none-some given (sym (piece_before first octets giver place before) ∙ h))
  | inr ge ↦ elim (cases_lt place (first + length octets)) [
    | inl lt ↦ record { ge = ge; lt = lt; is = same_Some given (record { octet = get_or octets (place - first) 0; giver = giver }) (sym h ∙ piece_within first octets giver place ge lt) }
    | inr past ↦ absurd (none-some given (sym (piece_past first octets giver place past) ∙ h))
  ]
]

-- what was given stays
pub given_kept : (s : Segment) (side : Side) (before : List Segment) (place : ℕ) (given : Given) → given_of side before place ≡ Some given → given_of side (s ∷ before) place ≡ Some given
given_kept s side before place given h = elim (cases_side s.sender side) [
  | inl own ↦ own_given s side before place own ∙ ap (λ o. option_or o (piece_at (placed s before).first (placed s before).octets (giver_of s) place)) h
  | inr other ↦ given_other s side before place other ∙ h
]

pub fin_kept : (s : Segment) (side : Side) (before : List Segment) (fin : ℕ) → fin_of side before ≡ Some fin → fin_of side (s ∷ before) ≡ Some fin
fin_kept s side before fin h = elim (cases_side s.sender side) [
  | inl own ↦ own_fin s side before own ∙ ap (λ o. option_or o (cond s.fin (Some (after (placed s before))) None)) h
  | inr other ↦ fin_other s side before other ∙ h
]
