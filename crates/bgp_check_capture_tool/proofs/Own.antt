-- The own records of a stretch, with the one that leaves it, are those that are judged.
use Rattle.std.proofs.Common.{◌≡◌, ◌∙◌, ◌+◌, ◌-◌, ◌++◌, ℕ, List, [], ◌∷◌, Option, None, Some, ap, arith, length, refl, sym, take}
use Rattle.std.proofs.lemmas.List.{length-append}
use Rattle.std.proofs.Math.Seq.{take-append_seam}
use Rattle.bgp_prefix.specs.Shown.{ShownRecord}
use Rattle.bgp_prefix.specs.declared.session.Session.{Session}
use Rattle.bgp_check.specs.StretchTold.{IsStretchTold, ToldValue, with_leaving}
use Rattle.bgp_check_capture_tool.specs.StretchEnd.{own_records}

one_less : (n m : ℕ) → n ≡ m + 1 → n - 1 ≡ m
one_less n m is = omega (arith, is)

own_of : (records : List ShownRecord) (leaving : Option ShownRecord) → own_records (with_leaving records leaving) leaving ≡ records
own_of records None = refl
own_of records (Some shown) =
    ap (λ (n : ℕ). take n (records ++ shown ∷ [])) (one_less (length (records ++ shown ∷ [])) (length records) (length-append records (shown ∷ [])))
    ∙ take-append_seam records (shown ∷ [])

pub all_judged : (session : Session) (stretch : List ShownRecord) (all : ℕ) (leaving : Option ShownRecord) (told : ToldValue)
    → IsStretchTold session stretch all leaving told → with_leaving (own_records told.records leaving) leaving ≡ told.records
all_judged session stretch all leaving told is =
    ap (λ (records : List ShownRecord). with_leaving (own_records records leaving) leaving) is.are_records
    ∙ ap (λ (records : List ShownRecord). with_leaving records leaving) (own_of is.left.records leaving) ∙ sym is.are_records
