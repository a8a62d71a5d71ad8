-- Sets of sets of disabled families, by cases.
use Rattle.std.proofs.Common.{◌≡◌, ◌↔◌, ◌⊎◌, inl, inr, Bool, true, false, IsTrue, ◌||◌, not, refl, sym, ◌∙◌}
use Rattle.bgp_open.specs.declared.families.Families.{Families}
use Rattle.bgp_open.specs.Families.{union}
use Rattle.bgp_compact.specs.declared.disabled.DisabledSets.{DisabledSets}
use Rattle.bgp_compact.specs.Disabled.{holds, no_sets, only_none, shifted_by}

pub or_cases : (a b : Bool) → IsTrue (a || b) → IsTrue a ⊎ IsTrue b
or_cases true b h = inl h
or_cases false b h = inr h

pub or_left : (a b : Bool) → IsTrue a → IsTrue (a || b)
or_left true b h = h
or_left false b h = cc

pub or_right : (a b : Bool) → IsTrue b → IsTrue (a || b)
or_right true b h = refl
or_right false b h = h

abbrev set : Bool → Bool → Families
set a b = record { v4 = a; v6 = b }

flag_union : (a b r : Bool) → r ≡ a || b → IsTrue r ↔ (IsTrue a ⊎ IsTrue b)
flag_union a b r e = (
  λ h. or_cases a b (sym e ∙ h),
  λ h. elim h [ inl x ↦ e ∙ or_left a b x | inr y ↦ e ∙ or_right a b y ],
)

union_by : (a b r : DisabledSets) → r.none ≡ a.none || b.none → r.v4 ≡ a.v4 || b.v4 → r.v6 ≡ a.v6 || b.v6 → r.both ≡ a.both || b.both
    → (d1 d2 : Bool) → IsTrue (holds r (set d1 d2)) ↔ (IsTrue (holds a (set d1 d2)) ⊎ IsTrue (holds b (set d1 d2)))
union_by a b r e f g h false false = flag_union a.none b.none r.none e
union_by a b r e f g h true false = flag_union a.v4 b.v4 r.v4 f
union_by a b r e f g h false true = flag_union a.v6 b.v6 r.v6 g
union_by a b r e f g h true true = flag_union a.both b.both r.both h

pub union_holds : (a b r : DisabledSets) → r.none ≡ a.none || b.none → r.v4 ≡ a.v4 || b.v4 → r.v6 ≡ a.v6 || b.v6 → r.both ≡ a.both || b.both
    → (d : Families) → IsTrue (holds r d) ↔ (IsTrue (holds a d) ⊎ IsTrue (holds b d))
union_holds a b r e f g h d = union_by a b r e f g h d.v4 d.v6

none_by : (a b : Bool) → IsTrue (holds no_sets (set a b)) → ⊥
none_by true true h = cc
none_by true false h = cc
none_by false true h = cc
none_by false false h = cc

pub holds_none : (d : Families) → IsTrue (holds no_sets d) → ⊥
holds_none d h = none_by d.v4 d.v6 h

empty_by : (s : DisabledSets) → s.none ≡ false → s.v4 ≡ false → s.v6 ≡ false → s.both ≡ false → (a b : Bool) → IsTrue (holds s (set a b)) → ⊥
empty_by s e f g h false false k = cc
empty_by s e f g h true false k = cc
empty_by s e f g h false true k = cc
empty_by s e f g h true true k = cc

pub empty_holds : (s : DisabledSets) → s.none ≡ false → s.v4 ≡ false → s.v6 ≡ false → s.both ≡ false → (d : Families) → IsTrue (holds s d) → ⊥
empty_holds s e f g h d k = empty_by s e f g h d.v4 d.v6 k

only_by : (a b : Bool) → IsTrue (holds only_none (set a b)) → (a ≡ false) × (b ≡ false)
only_by true true h = cc
only_by true false h = cc
only_by false true h = cc
only_by false false h = (refl, refl)

pub only_is_none : (d : Families) → IsTrue (holds only_none d) → d ≡ record { v4 = false; v6 = false }
only_is_none d h = let k = only_by d.v4 d.v6 h in λ i. record { v4 = k.0 i; v6 = k.1 i }

-- ---- shifted sets

-- a set of which the shifted one is made
abbrev pub Joins : DisabledSets → Families → Families → Type 0
Joins sets families d = (f : Families) × IsTrue (holds sets f) × (d ≡ union f families)

from_by : (a : DisabledSets) (d1 d2 e1 e2 : Bool) → IsTrue (holds (shifted_by (set d1 d2) a) (set e1 e2)) → Joins a (set d1 d2) (set e1 e2)
from_by a false false false false h = (set false false, h, refl)
from_by a false false true false h = (set true false, h, refl)
from_by a false false false true h = (set false true, h, refl)
from_by a false false true true h = (set true true, h, refl)
from_by a true false false false h = cc
from_by a true false true false h = elim (or_cases a.none a.v4 h) [ inl x ↦ (set false false, x, refl) | inr x ↦ (set true false, x, refl) ]
from_by a true false false true h = cc
from_by a true false true true h = elim (or_cases a.v6 a.both h) [ inl x ↦ (set false true, x, refl) | inr x ↦ (set true true, x, refl) ]
from_by a false true false false h = cc
from_by a false true true false h = cc
from_by a false true false true h = elim (or_cases a.none a.v6 h) [ inl x ↦ (set false false, x, refl) | inr x ↦ (set false true, x, refl) ]
from_by a false true true true h = elim (or_cases a.v4 a.both h) [ inl x ↦ (set true false, x, refl) | inr x ↦ (set true true, x, refl) ]
from_by a true true false false h = cc
from_by a true true true false h = cc
from_by a true true false true h = cc
from_by a true true true true h = elim (or_cases (a.none || a.v4) (a.v6 || a.both) h) [ inl y ↦ elim (or_cases a.none a.v4 y) [ inl x ↦ (set false false, x, refl) | inr x ↦ (set true false, x, refl) ] | inr y ↦ elim (or_cases a.v6 a.both y) [ inl x ↦ (set false true, x, refl) | inr x ↦ (set true true, x, refl) ] ]

pub shifted_from : (a : DisabledSets) (families d : Families) → IsTrue (holds (shifted_by families a) d) → Joins a families d
shifted_from a families d h = from_by a families.v4 families.v6 d.v4 d.v6 h

to_by : (a : DisabledSets) (d1 d2 f1 f2 : Bool) → IsTrue (holds a (set f1 f2)) → IsTrue (holds (shifted_by (set d1 d2) a) (union (set f1 f2) (set d1 d2)))
to_by a false false false false h = h
to_by a false false true false h = h
to_by a false false false true h = h
to_by a false false true true h = h
to_by a true false false false h = or_left a.none a.v4 h
to_by a true false true false h = or_right a.none a.v4 h
to_by a true false false true h = or_left a.v6 a.both h
to_by a true false true true h = or_right a.v6 a.both h
to_by a false true false false h = or_left a.none a.v6 h
to_by a false true true false h = or_left a.v4 a.both h
to_by a false true false true h = or_right a.none a.v6 h
to_by a false true true true h = or_right a.v4 a.both h
to_by a true true false false h = or_left (a.none || a.v4) (a.v6 || a.both) (or_left a.none a.v4 h)
to_by a true true true false h = or_left (a.none || a.v4) (a.v6 || a.both) (or_right a.none a.v4 h)
to_by a true true false true h = or_right (a.none || a.v4) (a.v6 || a.both) (or_left a.v6 a.both h)
to_by a true true true true h = or_right (a.none || a.v4) (a.v6 || a.both) (or_right a.v6 a.both h)

pub shifted_to : (a : DisabledSets) (families f : Families) → IsTrue (holds a f) → IsTrue (holds (shifted_by families a) (union f families))
shifted_to a families f h = to_by a families.v4 families.v6 f.v4 f.v6 h

pub not_not : (b : Bool) → (IsTrue (not b) → ⊥) → IsTrue b
not_not true h = refl
not_not false h = absurd (h refl)

pub not_false : (b : Bool) → not b ≡ false → IsTrue b
not_false true h = refl
not_false false h = absurd (let k : ⊥ = cc in k)
