-- The first packets of connections rise along their list.
use Rattle.std.proofs.Common.{◌≡◌, ◌<◌, ◌≤◌, ◌+◌, ◌++◌, ℕ, zero, suc, Bool, true, false, cond, List, [], ◌∷◌, Option, None, Some, length, filter, get_or, refl, ap, arith}
use Rattle.std.specs.Prelude.{slice_set}
use Rattle.std.specs.List.{AllByRecursion}
use Rattle.streams.specs.Choice.{first_packet}
use Rattle.streams.specs.Clock.{AreInOrder}
use Rattle.streams.specs.Connections.{begins, connections_of, first_in, has_octets, has_others, is_between, last_index, numbered, put_at}
use Rattle.streams.specs.History.{start_of}
use Rattle.streams.specs.Passed.{Segment}

-- the first segment of a connection is such
abbrev pub FirstIs : (Segment → Type 0) → List Segment → Type 0
FirstIs P [] = ⊥
FirstIs P (s ∷ before) = P (first_in s before)

-- the first packets rise, from `low` up to below `high`, and the first segments are such
abbrev pub RiseIn : (Segment → Type 0) → ℕ → ℕ → List (List Segment) → Type 0
RiseIn P low high [] = low ≤ high
RiseIn P low high (c ∷ cs) = FirstIs P c × (low ≤ first_packet c) × RiseIn P (first_packet c + 1) high cs

from_less : (P : Segment → Type 0) (less low high : ℕ) (cs : List (List Segment)) → less ≤ low → RiseIn P low high cs → RiseIn P less high cs
from_less P less low high [] le rise = omega (arith, le, rise)
from_less P less low high (c ∷ cs) le (is, at, rise) = (is, omega (arith, le, at), rise)

to_more : (P : Segment → Type 0) (low high more : ℕ) (cs : List (List Segment)) → high ≤ more → RiseIn P low high cs → RiseIn P low more cs
to_more P low high more [] le rise = omega (arith, le, rise)
to_more P low high more (c ∷ cs) le (is, at, rise) = (is, at, to_more P (first_packet c + 1) high more cs le rise)

-- a connection more, which begins at a later packet
appended : (P : Segment → Type 0) (low high : ℕ) (cs : List (List Segment)) (s : Segment) → P s → high ≤ s.packet → RiseIn P low high cs
    → RiseIn P low (s.packet + 1) (cs ++ (s ∷ []) ∷ [])
appended P low high [] s is le rise = (is, omega (arith, le, rise), omega arith)
appended P low high (c ∷ cs) s is le (first, at, rise) = (first, at, appended P (first_packet c + 1) high cs s is le rise)

-- a segment more of a connection
grown : (P : Segment → Type 0) (low high : ℕ) (cs : List (List Segment)) (i : ℕ) (s : Segment) → RiseIn P low high cs
    → RiseIn P low high (slice_set cs i (s ∷ get_or cs i []))
grown P low high [] i s rise = rise
grown P low high ([] ∷ cs) zero s (is, at, rise) = absurd is
grown P low high ((last ∷ before) ∷ cs) zero s (is, at, rise) = (is, at, rise)
grown P low high (c ∷ cs) (suc i) s (is, at, rise) = (is, at, grown P (first_packet c + 1) high cs i s rise)

put_rises : (P : Segment → Type 0) (high : ℕ) (cs : List (List Segment)) (place : Option ℕ) (s : Segment) → P s → high ≤ s.packet → RiseIn P 0 high cs
    → RiseIn P 0 (s.packet + 1) (put_at s cs place)
put_rises P high cs None s is le rise = appended P 0 high cs s is le rise
put_rises P high cs (Some i) s is le rise =
    by_case (begins s (start_of s.sender (get_or cs i [])) (has_others (get_or cs i []))) where
      by_case : (b : Bool) → RiseIn P 0 (s.packet + 1) (cond b (cs ++ (s ∷ []) ∷ []) (slice_set cs i (s ∷ get_or cs i [])))
      by_case true = appended P 0 high cs s is le rise
      by_case false = to_more P 0 high (s.packet + 1) _ (omega (arith, le)) (grown P 0 high cs i s rise)

pub connections_rise : (P : Segment → Type 0) (high : ℕ) (segments : List Segment) → AreInOrder segments → AllByRecursion P segments
    → AllByRecursion (λ (s : Segment). s.packet < high) segments → RiseIn P 0 high (connections_of segments)
unfolding connections_of
connections_rise P high [] order all below = omega arith
connections_rise P high (s ∷ before) order all below =
    to_more P 0 (s.packet + 1) high _ (omega (arith, below.0))
    (put_rises P s.packet (connections_of before) (last_index (is_between s) (connections_of before)) s all.0 (omega arith)
    (connections_rise P s.packet before order.1 all.1 order.0))

-- those that hold octets rise, too
filtered : (P : Segment → Type 0) (test : List Segment → Bool) (low high : ℕ) (cs : List (List Segment)) → RiseIn P low high cs → RiseIn P low high (filter test cs)
filtered P test low high [] rise = rise
filtered P test low high (c ∷ cs) (is, at, rise) = by_test (test c) (filtered P test (first_packet c + 1) high cs rise) where
  by_test : (b : Bool) → RiseIn P (first_packet c + 1) high (filter test cs) → RiseIn P low high (cond b (c ∷ filter test cs) (filter test cs))
  by_test true later = (is, at, later)
  by_test false later = from_less P low (first_packet c + 1) high (filter test cs) (omega (arith, at)) later

pub numbered_rise : (P : Segment → Type 0) (high : ℕ) (segments : List Segment) → AreInOrder segments → AllByRecursion P segments
    → AllByRecursion (λ (s : Segment). s.packet < high) segments → RiseIn P 0 high (numbered segments)
numbered_rise P high segments order all below = filtered P has_octets 0 high (connections_of segments) (connections_rise P high segments order all below)

-- ---- one at an index

at_least : (P : Segment → Type 0) (low high : ℕ) (cs : List (List Segment)) (i : ℕ) → RiseIn P low high cs → i < length cs → low ≤ first_packet (get_or cs i [])
at_least P low high [] i rise lt = absurd (omega (arith, lt))
at_least P low high (c ∷ cs) zero (is, at, rise) lt = at
at_least P low high (c ∷ cs) (suc i) (is, at, rise) lt = omega (arith, at, at_least P (first_packet c + 1) high cs i rise (omega (arith, lt)))

pub one_first : (P : Segment → Type 0) (low high : ℕ) (cs : List (List Segment)) (i j : ℕ) → RiseIn P low high cs → i < length cs → j < length cs
    → first_packet (get_or cs i []) ≡ first_packet (get_or cs j []) → i ≡ j
one_first P low high [] i j rise lt lt' same = absurd (omega (arith, lt))
one_first P low high (c ∷ cs) zero zero rise lt lt' same = refl
one_first P low high (c ∷ cs) zero (suc j) (is, at, rise) lt lt' same =
    absurd (omega (arith, same, at_least P (first_packet c + 1) high cs j rise (omega (arith, lt'))))
one_first P low high (c ∷ cs) (suc i) zero (is, at, rise) lt lt' same =
    absurd (omega (arith, same, at_least P (first_packet c + 1) high cs i rise (omega (arith, lt))))
one_first P low high (c ∷ cs) (suc i) (suc j) (is, at, rise) lt lt' same =
    ap suc (one_first P (first_packet c + 1) high cs i j rise (omega (arith, lt)) (omega (arith, lt')) same)

pub first_at : (P : Segment → Type 0) (low high : ℕ) (cs : List (List Segment)) (i : ℕ) → RiseIn P low high cs → i < length cs → FirstIs P (get_or cs i [])
first_at P low high [] i rise lt = absurd (omega (arith, lt))
first_at P low high (c ∷ cs) zero (is, at, rise) lt = is
first_at P low high (c ∷ cs) (suc i) (is, at, rise) lt = first_at P (first_packet c + 1) high cs i rise (omega (arith, lt))
