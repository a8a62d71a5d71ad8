-- What a direction holds is what the connection's segments tell of it.
use Rattle.std.proofs.Common.{◌≡◌, ◌<◌, ◌≤◌, ◌+◌, ◌∙◌, ℕ, Some, None, Option, Bool, true, false, cond, nat_lt, List, [], ◌∷◌, refl, sym, ap, arith, zero, suc, inl, inr, length, max, not, ◌||◌, ◌&&◌, subst}
use Rattle.std.specs.Option.{option_or, is_some, is_none}
use Rattle.std.proofs.lemmas.Bool.{cases_lt}
use Rattle.streams.specs.declared.passed.Side.{Side}
use Rattle.streams.specs.declared.passed.Side.TheVariants.{Local, Peer}
use Rattle.streams.specs.declared.gathered.Given.{Given}
use Rattle.streams.specs.declared.gathered.Gathered.{Gathered}
use Rattle.streams.specs.declared.direction.Direction.{Direction}
use Rattle.streams.specs.Given.{given_at, piece_at, size, first_conflict, first_new, contradicts, octet_of}
use Rattle.streams.specs.Islands.{IsSound}
use Rattle.streams.specs.Passed.{Segment, giver_of, is_side, other_side}
use Rattle.streams.specs.Places.{Piece, after}
use Rattle.streams.specs.History.{start_of, count_of, first_hole, given_by, given_of, acknowledged_of, next_of, piece_in, placed, end_in, end_of, fin_of, has_rst}
use Rattle.streams.specs.Refusals.{octet_conflict, fin_conflict, after_reset, conflict_at}
use Rattle.streams.specs.Places.{shown_by_acknowledgment}
use Rattle.streams.specs.Sent.{first_shown, acknowledges, first_acknowledged}
use Rattle.streams.specs.Directions.{Adds, Acknowledges, Holds, piece_faults, fin_faults, rst_faults, shown_by_own}
use Rattle.streams.proofs.Places.{known_is_given, held}
use Rattle.streams.proofs.Islands.{free_is}

-- the first hole
pub hole_is : (given : ℕ → Option Given) (place limit n : ℕ) → place ≤ n → n ≤ place + limit → ((p : ℕ) → place ≤ p → p < n → is_some (given p) ≡ true) → given n ≡ None → first_hole given place limit ≡ n
hole_is given place zero n ge le all hole = omega arith
hole_is given place (suc limit) n ge le all hole = elim (cases_lt place n) [
  | inl lt ↦
      ap (λ (t : Bool). cond t (first_hole given (place + 1) limit) place) (all place (omega arith) lt)
      ∙ hole_is given (place + 1) limit n (omega arith) (omega arith) (λ p h k. all p (omega (arith, h)) k) hole
  | inr past ↦
      let same : n ≡ place = omega arith in
      let none : is_some (given place) ≡ false = ap is_some (ap given (sym same) ∙ hole) in
      ap (λ (t : Bool). cond t (first_hole given (place + 1) limit) place) none ∙ sym same
]

pub same_hole : (f g : ℕ → Option Given) (place limit : ℕ) → ((p : ℕ) → f p ≡ g p) → first_hole f place limit ≡ first_hole g place limit
same_hole f g place zero same = refl
same_hole f g place (suc limit) same =
    ap (λ (o : Option Given). cond (is_some o) (first_hole f (place + 1) limit) place) (same place)
    ∙ ap (λ (n : ℕ). cond (is_some (g place)) n place) (same_hole f g (place + 1) limit same)

pub next_is : {Z : Type 0} (side : Side) (segments : List Segment) (d : Direction Z) → Holds side segments d → length d.gathered.known.octets.items ≡ next_of side segments
next_is side segments d holds =
    let n = length d.gathered.known.octets.items in
    let hole : given_at d.gathered n ≡ None =
    held d.gathered n (omega arith) ∙ free_is d.gathered.islands holds.sound.islands.ordered n (λ end island is. inr (holds.sound.hole end island is)) in
    sym (sym (same_hole (given_at d.gathered) (given_of side segments) 0 (count_of side segments) holds.given)
    ∙ hole_is (given_at d.gathered) 0 (count_of side segments) n (omega arith) (omega (arith, holds.size))
    (λ p h lt. known_is_given d.gathered p holds.sound.covered lt) hole)

same_conflict : (f g : ℕ → Option Given) (fin : Option ℕ) (place : ℕ) (octets : List ℕ) → ((p : ℕ) → f p ≡ g p) → first_conflict f fin place octets ≡ first_conflict g fin place octets
same_conflict f g fin place [] same = refl
same_conflict f g fin place (octet ∷ octets) same =
    ap (λ (o : Option Given). cond (contradicts (octet_of o) fin place octet) (Some place) (first_conflict f fin (place + 1) octets)) (same place)
    ∙ ap (λ (r : Option ℕ). cond (contradicts (octet_of (g place)) fin place octet) (Some place) r) (same_conflict f g fin (place + 1) octets same)

same_new : (f g : ℕ → Option Given) (place : ℕ) (octets : List ℕ) → ((p : ℕ) → f p ≡ g p) → first_new f place octets ≡ first_new g place octets
same_new f g place [] same = refl
same_new f g place (octet ∷ octets) same =
    ap (λ (o : Option Given). cond (is_none o) (Some place) (first_new f (place + 1) octets)) (same place)
    ∙ ap (λ (r : Option ℕ). cond (is_none (g place)) (Some place) r) (same_new f g (place + 1) octets same)

pub own_side : (side : Side) → is_side side side ≡ true
own_side Local = refl
own_side Peer = refl

pub not_other_side : (side : Side) → is_side side (other_side side) ≡ false
not_other_side Local = refl
not_other_side Peer = refl

pub none_more : {X : Type 0} (o : Option X) → option_or o None ≡ o
none_more None = refl
none_more (Some x) = refl

max_zero : (n : ℕ) → max n 0 ≡ n
max_zero n = omega arith

own_size : (s : Segment) (before : List Segment) (new old : ℕ) → new ≤ old + length s.octets → old ≤ count_of s.sender before → new ≤ count_of s.sender (s ∷ before)
own_size s before new old h k =
    let e : count_of s.sender (s ∷ before) ≡ count_of s.sender before + length s.octets = ap (λ (t : Bool). count_of s.sender before + cond t (length s.octets) 0) (own_side s.sender) in
    omega (arith, e, h, k)

other_size : (s : Segment) (side : Side) (before : List Segment) (new old : ℕ) → is_side s.sender side ≡ false → new ≡ old → old ≤ count_of side before → new ≤ count_of side (s ∷ before)
other_size s side before new old apart h k =
    let e : count_of side (s ∷ before) ≡ count_of side before + 0 = ap (λ (t : Bool). count_of side before + cond t (length s.octets) 0) apart in
    omega (arith, e, h, k)

or_none : (t : Bool) → (t || false) ≡ t
or_none true = refl
or_none false = refl

rst_other : (s : Segment) (side : Side) (before : List Segment) → is_side s.sender side ≡ false → has_rst side (s ∷ before) ≡ has_rst side before
rst_other s side before e = ap (λ (t : Bool). has_rst side before || (t && s.rst)) e ∙ or_none (has_rst side before)

-- one segment more, in the direction of its side
pub given_more : (s : Segment) (before : List Segment) (place : ℕ) → given_of s.sender (s ∷ before) place ≡ option_or (given_of s.sender before place) (given_by s (start_of s.sender (s ∷ before)) (next_of s.sender before) (acknowledged_of s.sender before) place)
unfolding given_of
given_more s before place = ap (λ (t : Bool). option_or (given_of s.sender before place) (cond t (given_by s (start_of s.sender (s ∷ before)) (next_of s.sender before) (acknowledged_of s.sender before) place) None)) (own_side s.sender)

pub bound_own : (s : Segment) (before : List Segment) → acknowledged_of s.sender (s ∷ before) ≡ acknowledged_of s.sender before
unfolding given_of
bound_own s before = ap (λ (t : Bool). max (acknowledged_of s.sender before) (cond t 0 (shown_by_acknowledgment (start_of s.sender before) (next_of s.sender before) s.acknowledgment s.rst))) (own_side s.sender) ∙ max_zero (acknowledged_of s.sender before)

pub bound_other : (s : Segment) (side : Side) (before : List Segment) → is_side s.sender side ≡ false → acknowledged_of side (s ∷ before) ≡ max (acknowledged_of side before) (shown_by_acknowledgment (start_of side before) (next_of side before) s.acknowledgment s.rst)
unfolding given_of
bound_other s side before e = ap (λ (t : Bool). max (acknowledged_of side before) (cond t 0 (shown_by_acknowledgment (start_of side before) (next_of side before) s.acknowledgment s.rst))) e

pub end_more : (s : Segment) (before : List Segment) → end_of s.sender (s ∷ before) ≡ max (end_of s.sender before) (end_in (placed s before))
unfolding end_of
end_more s before = ap (λ (t : Bool). max (end_of s.sender before) (cond t (end_in (placed s before)) 0)) (own_side s.sender)

pub fin_more : (s : Segment) (before : List Segment) → fin_of s.sender (s ∷ before) ≡ option_or (fin_of s.sender before) (cond s.fin (Some (after (placed s before))) None)
unfolding fin_of
fin_more s before = ap (λ (t : Bool). option_or (fin_of s.sender before) (cond (t && s.fin) (Some (after (placed s before))) None)) (own_side s.sender)

pub shown_more : (s : Segment) (before : List Segment) (place : ℕ) → first_shown s.sender (s ∷ before) place ≡ option_or (first_shown s.sender before place) (cond (nat_lt place (shown_by_own s (placed s before))) (Some s.packet) None)
unfolding first_shown
shown_more s before place = ap (λ (t : Bool). option_or (first_shown s.sender before place) (cond (nat_lt place (cond t (shown_by_own s (placed s before)) (shown_by_acknowledgment (start_of s.sender before) (next_of s.sender before) s.acknowledgment s.rst))) (Some s.packet) None)) (own_side s.sender)

-- one segment more, of the other side
pub given_other : (s : Segment) (side : Side) (before : List Segment) (place : ℕ) → is_side s.sender side ≡ false → given_of side (s ∷ before) place ≡ given_of side before place
unfolding given_of
given_other s side before place e = ap (λ (t : Bool). option_or (given_of side before place) (cond t (given_by s (start_of side (s ∷ before)) (next_of side before) (acknowledged_of side before) place) None)) e ∙ none_more (given_of side before place)

pub end_other : (s : Segment) (side : Side) (before : List Segment) → is_side s.sender side ≡ false → end_of side (s ∷ before) ≡ end_of side before
unfolding end_of
end_other s side before e = ap (λ (t : Bool). max (end_of side before) (cond t (end_in (placed s before)) 0)) e ∙ max_zero (end_of side before)

pub fin_other : (s : Segment) (side : Side) (before : List Segment) → is_side s.sender side ≡ false → fin_of side (s ∷ before) ≡ fin_of side before
unfolding fin_of
fin_other s side before e = ap (λ (t : Bool). option_or (fin_of side before) (cond (t && s.fin) (Some (after (placed s before))) None)) e ∙ none_more (fin_of side before)

pub shown_other : (s : Segment) (side : Side) (before : List Segment) (place : ℕ) → is_side s.sender side ≡ false → first_shown side (s ∷ before) place ≡ option_or (first_shown side before place) (cond (nat_lt place (shown_by_acknowledgment (start_of side before) (next_of side before) s.acknowledgment s.rst)) (Some s.packet) None)
unfolding first_shown
shown_other s side before place e = ap (λ (t : Bool). option_or (first_shown side before place) (cond (nat_lt place (cond t (shown_by_own s (placed s before)) (shown_by_acknowledgment (start_of side before) (next_of side before) s.acknowledgment s.rst))) (Some s.packet) None)) e

-- what is acknowledged of a side, once a segment of it, and one of the other side has come
acknowledged_own : (s : Segment) (before : List Segment) → first_acknowledged s.sender (s ∷ before) ≡ first_acknowledged s.sender before
acknowledged_own s before =
    ap (λ (t : Bool). option_or (first_acknowledged s.sender before) (cond (not t && acknowledges s) (Some s.packet) None)) (own_side s.sender)
    ∙ none_more (first_acknowledged s.sender before)

pub acknowledged_more : (s : Segment) (side : Side) (before : List Segment) → is_side s.sender side ≡ false → first_acknowledged side (s ∷ before) ≡ option_or (first_acknowledged side before) (cond (acknowledges s) (Some s.packet) None)
acknowledged_more s side before e = ap (λ (t : Bool). option_or (first_acknowledged side before) (cond (not t && acknowledges s) (Some s.packet) None)) e

-- a direction that has taken a segment of its side
pub added : {Z : Type 0} (s : Segment) (before : List Segment) (old new : Direction Z) → Holds s.sender before old
    → Adds s (piece_in s (start_of s.sender (s ∷ before)) (length old.gathered.known.octets.items) old.acknowledged) old new
    → Holds s.sender (s ∷ before) new
added s before old new holds adds =
    let start = start_of s.sender (s ∷ before) in
    let n = next_is s.sender before old holds in
    let piece : piece_in s start (length old.gathered.known.octets.items) old.acknowledged ≡ placed s before =
    ap (λ (k : ℕ). piece_in s start k old.acknowledged) n ∙ ap (piece_in s start (next_of s.sender before)) holds.acknowledged in
    record {
      sound = adds.sound;
      given = λ place.
          adds.given place
          ∙ ap (λ o. option_or o (piece_at (piece_in s start (length old.gathered.known.octets.items) old.acknowledged).first (piece_in s start (length old.gathered.known.octets.items) old.acknowledged).octets (giver_of s) place)) (holds.given place)
          ∙ ap (λ (p : Piece). option_or (given_of s.sender before place) (piece_at p.first p.octets (giver_of s) place)) piece
          ∙ sym (given_more s before place);
      size = own_size s before (size new.gathered) (size old.gathered) adds.size holds.size;
      end = adds.end ∙ ap (λ (k : ℕ). max k (end_in (piece_in s start (length old.gathered.known.octets.items) old.acknowledged))) holds.end
          ∙ ap (λ (p : Piece). max (end_of s.sender before) (end_in p)) piece ∙ sym (end_more s before);
      fin = adds.fin ∙ ap (λ o. option_or o (cond s.fin (Some (after (piece_in s start (length old.gathered.known.octets.items) old.acknowledged))) None)) holds.fin
          ∙ ap (λ (p : Piece). option_or (fin_of s.sender before) (cond s.fin (Some (after p)) None)) piece ∙ sym (fin_more s before);
      rst = adds.rst ∙ ap (λ (t : Bool). t || s.rst) holds.rst ∙ sym (ap (λ (t : Bool). has_rst s.sender before || (t && s.rst)) (own_side s.sender));
      shown = λ place.
          adds.shown place
          ∙ ap (λ o. option_or o (cond (nat_lt place (shown_by_own s (piece_in s start (length old.gathered.known.octets.items) old.acknowledged))) (Some s.packet) None)) (holds.shown place)
          ∙ ap (λ (p : Piece). option_or (first_shown s.sender before place) (cond (nat_lt place (shown_by_own s p)) (Some s.packet) None)) piece
          ∙ sym (shown_more s before place);
      acknowledged = adds.acknowledged ∙ holds.acknowledged ∙ sym (bound_own s before);
      acknowledged_by = adds.acknowledged_by ∙ holds.acknowledged_by ∙ sym (acknowledged_own s before);
    }

-- a direction that has taken what a segment of the other side acknowledges
pub acknowledged : {Z : Type 0} (s : Segment) (side : Side) (before : List Segment) (old new : Direction Z) → is_side s.sender side ≡ false → Holds side before old
    → Acknowledges s (shown_by_acknowledgment (start_of side before) (length old.gathered.known.octets.items) s.acknowledgment s.rst) old new
    → Holds side (s ∷ before) new
acknowledged s side before old new e holds acks =
    let n = next_is side before old holds in
    record {
      sound = subst (λ (g : Gathered _). IsSound g) (sym acks.gathered) holds.sound;
      given = λ place. ap (λ g. given_at g place) acks.gathered ∙ holds.given place ∙ sym (given_other s side before place e);
      size = other_size s side before (size new.gathered) (size old.gathered) e (ap size acks.gathered) holds.size;
      end = acks.end ∙ holds.end ∙ sym (end_other s side before e);
      fin = acks.fin ∙ holds.fin ∙ sym (fin_other s side before e);
      rst = acks.rst ∙ holds.rst ∙ sym (rst_other s side before e);
      shown = λ place.
          acks.shown place
          ∙ ap (λ o. option_or o (cond (nat_lt place (shown_by_acknowledgment (start_of side before) (length old.gathered.known.octets.items) s.acknowledgment s.rst)) (Some s.packet) None)) (holds.shown place)
          ∙ ap (λ (k : ℕ). option_or (first_shown side before place) (cond (nat_lt place (shown_by_acknowledgment (start_of side before) k s.acknowledgment s.rst)) (Some s.packet) None)) n
          ∙ sym (shown_other s side before place e);
      acknowledged = acks.acknowledged
          ∙ ap (λ (k : ℕ). max k (shown_by_acknowledgment (start_of side before) (length old.gathered.known.octets.items) s.acknowledgment s.rst)) holds.acknowledged
          ∙ ap (λ (k : ℕ). max (acknowledged_of side before) (shown_by_acknowledgment (start_of side before) k s.acknowledgment s.rst)) n
          ∙ sym (bound_other s side before e);
      acknowledged_by = acks.acknowledged_by ∙ ap (λ o. option_or o (cond (acknowledges s) (Some s.packet) None)) holds.acknowledged_by ∙ sym (acknowledged_more s side before e);
    }

-- the first refusal of a segment's piece
pub faults : {Z : Type 0} (s : Segment) (before : List Segment) (d : Direction Z) → Holds s.sender before d
    → piece_faults s (piece_in s (start_of s.sender (s ∷ before)) (length d.gathered.known.octets.items) d.acknowledged) (given_at d.gathered) d.fin d.end d.has_rst
    ≡ option_or (octet_conflict s before) (option_or (fin_conflict s before) (after_reset s before))
faults s before d holds =
    let start = start_of s.sender (s ∷ before) in
    let given = given_at d.gathered in
    let told = given_of s.sender before in
    let fin = fin_of s.sender before in
    let end = end_of s.sender before in
    let piece : piece_in s start (length d.gathered.known.octets.items) d.acknowledged ≡ placed s before =
    ap (λ (k : ℕ). piece_in s start k d.acknowledged) (next_is s.sender before d holds) ∙ ap (piece_in s start (next_of s.sender before)) holds.acknowledged in
    let p : Piece = placed s before in
    ap (λ (q : Piece). piece_faults s q given d.fin d.end d.has_rst) piece
    ∙ ap (λ (f : Option ℕ). piece_faults s p given f d.end d.has_rst) holds.fin
    ∙ ap (λ (e : ℕ). piece_faults s p given fin e d.has_rst) holds.end
    ∙ ap (λ (r : Bool). piece_faults s p given fin end r) holds.rst
    ∙ ap (λ (c : Option ℕ). option_or (conflict_at s c) (option_or (fin_faults s (after p) fin (max end (end_in p))) (rst_faults s (has_rst s.sender before) (first_new given p.first p.octets))))
    (same_conflict given told fin p.first p.octets holds.given)
    ∙ ap (λ (n : Option ℕ). option_or (octet_conflict s before) (option_or (fin_faults s (after p) fin (max end (end_in p))) (rst_faults s (has_rst s.sender before) n)))
    (same_new given told p.first p.octets holds.given)
    ∙ ap (λ (e : ℕ). option_or (octet_conflict s before) (option_or (fin_faults s (after p) fin e) (after_reset s before))) (sym (end_more s before))
