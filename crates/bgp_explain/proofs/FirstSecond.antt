-- The second of the first record, by the moments of a reason.
use Rattle.std.proofs.Common.{◌≡◌, ◌∙◌, ◌+◌, ◌++◌, ◌∷◌, ℕ, zero, suc, List, [], Option, None, Some, add-one, ap, arith, length, refl, sym, subst, take}
use Rattle.bgp_prefix.specs.Shown.{ShownRecord, second_of}
use Rattle.bgp_explain.specs.Moments.{IsSecondOf, first_number, first_second}
use Rattle.bgp_explain.specs.Text.{first_by}

-- the one with the number 1 is the first
the_first : (r : ShownRecord) (rs before : List ShownRecord) (shown : ShownRecord) (after : List ShownRecord) → r ∷ rs ≡ before ++ shown ∷ after → 1 ≡ length before + 1
    → second_of shown ≡ second_of r
the_first r rs [] shown after e one = let same : r ≡ shown = cc in ap second_of (sym same)
the_first r rs (x ∷ before) shown after e one = absurd (omega (arith, one))

named_first : (r : ShownRecord) (rs : List ShownRecord) (o : Option ℕ) → IsSecondOf (r ∷ rs) (Some 1) o → o ≡ Some (second_of r)
named_first r rs None is = absurd is
named_first r rs (Some second) is = ap (λ (s : ℕ). Some s) (is.second_is ∙ the_first r rs is.before is.shown is.after is.whole is.number_is)

-- where there is no next record
pub first_alone : (records : List ShownRecord) (o : Option ℕ) → IsSecondOf records (first_number records) o → first_by o None ≡ first_second records
first_alone [] o is = ap (λ (v : Option ℕ). first_by v None) is
first_alone (r ∷ rs) o is = ap (λ (v : Option ℕ). first_by v None) (named_first r rs o is)

-- and where there is one after these
pub first_next : (before : List ShownRecord) (shown : ShownRecord) (n : ℕ) (o : Option ℕ) → IsSecondOf before (first_number before) o
    → first_by o (Some (n, shown)) ≡ first_second (before ++ shown ∷ [])
first_next [] shown n o is = ap (λ (v : Option ℕ). first_by v (Some (n, shown))) is
first_next (r ∷ rs) shown n o is = ap (λ (v : Option ℕ). first_by v (Some (n, shown))) (named_first r rs o is)

-- some of the first records have the same first one
pub first_taken : (n : ℕ) (records : List ShownRecord) → first_second (take (n + 1) records) ≡ first_second records
first_taken n [] = ap (λ (k : ℕ). first_second (take k [])) (add-one n)
first_taken n (r ∷ rs) = ap (λ (k : ℕ). first_second (take k (r ∷ rs))) (add-one n)
