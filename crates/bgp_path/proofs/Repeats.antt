-- A list of large communities without the ones that repeat one before them.
use Rattle.std.proofs.Common.{◌≡◌, ◌↔◌, Bool, true, false, not, ◌&&◌, ◌||◌, if◌then◌else◌, List, [], ◌∷◌, ◌++◌, refl, sym, ap, subst, ◌∙◌, inl, inr, append_assoc, append-nil}
use Rattle.std.specs.List.{filter, IsDistinct, AllByRecursion}
use Rattle.std.proofs.lemmas.Bool.{cases_Bool}
use Rattle.std.proofs.lemmas.List.Elements.{filter-append}
use Rattle.std.proofs.lemmas.List.Folds.{list_any-append}
use Rattle.std.proofs.lemmas.Map.Keys.{IsDistinct-head, IsDistinct-tail, IsDistinct-cons}
use Rattle.bgp_path.specs.declared.large_community.LargeCommunity.{LargeCommunity}
use Rattle.bgp_path.specs.LargeCommunities.{same_large_community, has_large_community, without_repeats, KeepsTheFirst}
use Rattle.bgp_path.specs.SamePathLaws.{same_large_community_decides}

same_is : (c d : LargeCommunity) → same_large_community c d ≡ true → c ≡ d
same_is c d e = (same_large_community_decides c d).0 e

same_flips : (c d : LargeCommunity) → same_large_community c d ≡ same_large_community d c
same_flips c d = elim (cases_Bool (same_large_community c d)) [
  | inl e ↦ let same = same_is c d e in rw same refl
  | inr e ↦ elim (cases_Bool (same_large_community d c)) [
    | inl f ↦ let same = same_is d c f in rw same refl
    | inr f ↦ e ∙ sym f
  ]
]

or_none : (x y : Bool) → (x || y) ≡ false → (x ≡ false) × (y ≡ false)
or_none true y e = absurd cc
or_none false y e = (refl, e)

-- ---- one more at the end

abbrev differs : LargeCommunity → LargeCommunity → Bool
differs c d = not (same_large_community c d)

-- c is the next, and d stands before it
last_stays : (d c : LargeCommunity) (kept : List LargeCommunity) (same : Bool) → same_large_community d c ≡ same
    → d ∷ (filter (differs d) kept ++ filter (differs d) (c ∷ [])) ≡ (if same || false then d ∷ filter (differs d) kept else (d ∷ filter (differs d) kept) ++ c ∷ [])
last_stays d c kept true e = rw e (ap (λ (t : List LargeCommunity). d ∷ t) (append-nil (filter (differs d) kept)))
last_stays d c kept false e = rw e refl

keeps_by : (d c : LargeCommunity) (cs : List LargeCommunity) (has same : Bool) → has_large_community cs c ≡ has → same_large_community d c ≡ same
    → without_repeats (cs ++ c ∷ []) ≡ (if has then without_repeats cs else without_repeats cs ++ c ∷ [])
    → without_repeats (d ∷ cs ++ c ∷ []) ≡ (if same || has then without_repeats (d ∷ cs) else without_repeats (d ∷ cs) ++ c ∷ [])
keeps_by d c cs true true has same before = ap (λ (t : List LargeCommunity). d ∷ filter (differs d) t) before
keeps_by d c cs true false has same before = ap (λ (t : List LargeCommunity). d ∷ filter (differs d) t) before
keeps_by d c cs false same-is has same before =
    ap (λ (t : List LargeCommunity). d ∷ filter (differs d) t) before
    ∙ ap (λ (t : List LargeCommunity). d ∷ t) (filter-append (differs d) (without_repeats cs) (c ∷ []))
    ∙ last_stays d c (without_repeats cs) same-is same

pub keeps : KeepsTheFirst
keeps [] c = refl
keeps (d ∷ cs) c = keeps_by d c cs (has_large_community cs c) (same_large_community d c) refl refl (keeps cs c)

-- ---- reading one after the other

-- what is kept of a list of which some are kept and those are left
abbrev pub kept_with : List LargeCommunity → List LargeCommunity → List LargeCommunity
kept_with kept rest = kept ++ filter (λ d. not (has_large_community kept d)) (without_repeats rest)

filter_all : (cs : List LargeCommunity) → filter (λ _. true) cs ≡ cs
filter_all [] = refl
filter_all (c ∷ cs) = ap (λ (t : List LargeCommunity). c ∷ t) (filter_all cs)

filter_one : (p q r : LargeCommunity → Bool) (d : LargeCommunity) (cs : List LargeCommunity) (first second : Bool) → q d ≡ first → p d ≡ second → r d ≡ (q d && p d)
    → filter p (filter q cs) ≡ filter r cs → filter p (filter q (d ∷ cs)) ≡ filter r (d ∷ cs)
filter_one p q r d cs true true e f both more = rw (both, e, f) (ap (λ (t : List LargeCommunity). d ∷ t) more)
filter_one p q r d cs true false e f both more = rw (both, e, f) more
filter_one p q r d cs false second e f both more = rw (both, e) more

filter_both : (p q r : LargeCommunity → Bool) → ((d : LargeCommunity) → r d ≡ (q d && p d)) → (cs : List LargeCommunity) → filter p (filter q cs) ≡ filter r cs
filter_both p q r both [] = refl
filter_both p q r both (d ∷ cs) = filter_one p q r d cs (q d) (p d) refl refl (both d) (filter_both p q r both cs)

-- none is kept yet
pub none_kept : (rest : List LargeCommunity) → kept_with [] rest ≡ without_repeats rest
none_kept rest = filter_all (without_repeats rest)

-- none is left
pub all_kept : (kept : List LargeCommunity) → kept_with kept [] ≡ kept
all_kept kept = append-nil kept

repeat_is_out : (kept : List LargeCommunity) (c d : LargeCommunity) (same : Bool) → same_large_community c d ≡ same → has_large_community kept c ≡ true
    → not (has_large_community kept d) ≡ (not same && not (has_large_community kept d))
repeat_is_out kept c d true e has = ap not (sym (ap (has_large_community kept) (same_is c d e)) ∙ has)
repeat_is_out kept c d false e has = refl

-- the next is left out where it is among those that are kept
pub next_is_out : (kept : List LargeCommunity) (c : LargeCommunity) (rest : List LargeCommunity) → has_large_community kept c ≡ true
    → kept_with kept (c ∷ rest) ≡ kept_with kept rest
next_is_out kept c rest has =
    let old = λ (d : LargeCommunity). not (has_large_community kept d) in
    rw has (ap (λ (t : List LargeCommunity). kept ++ t)
    (filter_both old (differs c) old (λ d. repeat_is_out kept c d (same_large_community c d) refl has) (without_repeats rest)))

has_more : (kept : List LargeCommunity) (c d : LargeCommunity) → has_large_community (kept ++ c ∷ []) d ≡ (has_large_community kept d || (same_large_community c d || false))
has_more kept c d = list_any-append (λ x. same_large_community x d) kept (c ∷ [])

not_either : (old same : Bool) → not (old || (same || false)) ≡ (not same && not old)
not_either true true = refl
not_either true false = refl
not_either false true = refl
not_either false false = refl

new_is : (kept : List LargeCommunity) (c d : LargeCommunity) → not (has_large_community (kept ++ c ∷ []) d) ≡ (not (same_large_community c d) && not (has_large_community kept d))
new_is kept c d = ap not (has_more kept c d) ∙ not_either (has_large_community kept d) (same_large_community c d)

-- and it is kept where it isn't
pub next_is_kept : (kept : List LargeCommunity) (c : LargeCommunity) (rest : List LargeCommunity) → has_large_community kept c ≡ false
    → kept_with kept (c ∷ rest) ≡ kept_with (kept ++ c ∷ []) rest
next_is_kept kept c rest has =
    let old = λ (d : LargeCommunity). not (has_large_community kept d) in
    let new = λ (d : LargeCommunity). not (has_large_community (kept ++ c ∷ []) d) in
    rw has (ap (λ (t : List LargeCommunity). kept ++ c ∷ t)
    (filter_both old (differs c) new (new_is kept c) (without_repeats rest))
    ∙ sym (append_assoc kept (c ∷ []) (filter new (without_repeats rest))))

-- ---- distinct ones

all_differ : (c : LargeCommunity) (cs : List LargeCommunity) → AllByRecursion (λ d. same_large_community c d ≡ false) cs → filter (differs c) cs ≡ cs
all_differ c [] each = refl
all_differ c (d ∷ cs) each = rw each.0 (ap (λ (t : List LargeCommunity). d ∷ t) (all_differ c cs each.1))

-- where no two are equal all stay
pub distinct_stay : (cs : List LargeCommunity) → IsDistinct same_large_community cs → without_repeats cs ≡ cs
distinct_stay [] distinct = refl
distinct_stay (c ∷ cs) distinct =
    ap (λ (t : List LargeCommunity). c ∷ filter (differs c) t) (distinct_stay cs (IsDistinct-tail same_large_community c cs distinct))
    ∙ ap (λ (t : List LargeCommunity). c ∷ t) (all_differ c cs (IsDistinct-head same_large_community c cs distinct))

-- none of them is equal to c
pub none_is : (c : LargeCommunity) (cs : List LargeCommunity) → has_large_community cs c ≡ false → AllByRecursion (λ d. same_large_community c d ≡ false) cs
none_is c [] e = tt
none_is c (d ∷ cs) e = let h = or_none (same_large_community d c) (has_large_community cs c) e in (same_flips c d ∙ h.0, none_is c cs h.1)

pub none_has : (c : LargeCommunity) (cs : List LargeCommunity) → AllByRecursion (λ d. same_large_community c d ≡ false) cs → has_large_community cs c ≡ false
none_has c [] each = refl
none_has c (d ∷ cs) each = rw (same_flips d c, each.0) (none_has c cs each.1)

-- ---- looking at one after the other

true_is_false : true ≡ false → ⊥
true_is_false e = absurd cc

-- as far as all before differ from those after them, the rest is distinct where all are
pub rest_is_distinct : (c : LargeCommunity) (cs rest all : List LargeCommunity) → rest ≡ c ∷ cs → has_large_community cs c ≡ false
    → (IsDistinct same_large_community rest ↔ IsDistinct same_large_community all) → (IsDistinct same_large_community cs ↔ IsDistinct same_large_community all)
rest_is_distinct c cs rest all is none before = (
  λ distinct. before.0 (rw is (IsDistinct-cons same_large_community c cs (none_is c cs none) distinct)),
  λ distinct. IsDistinct-tail same_large_community c cs (subst (IsDistinct same_large_community) is (before.1 distinct)),
)

pub rest_has_repeats : (c : LargeCommunity) (cs rest all : List LargeCommunity) → rest ≡ c ∷ cs → has_large_community cs c ≡ true
    → (IsDistinct same_large_community rest ↔ IsDistinct same_large_community all) → IsDistinct same_large_community all → ⊥
rest_has_repeats c cs rest all is some before distinct =
    let none = none_has c cs (IsDistinct-head same_large_community c cs (subst (IsDistinct same_large_community) is (before.1 distinct))) in
    true_is_false (sym some ∙ none)

pub none_are_distinct : IsDistinct same_large_community []
unfolding IsDistinct
none_are_distinct = tt
