-- Refusals of which no two have one number: there is room for one more.
use Rattle.std.proofs.Common.{◌≡◌, ◌∙◌, ◌<◌, ◌++◌, ◌||◌, ℕ, Bool, true, false, List, [], ◌∷◌, Option, None, Some, length, map, refl, sym, ap, subst, arith, length-append}
use Rattle.std.proofs.lemmas.Bool.{eqb-true}
use Rattle.std.proofs.lemmas.Cmp.{nat_eq_equiv}
use Rattle.std.proofs.lemmas.List.{length-map, map-append}
use Rattle.std.proofs.lemmas.Map.Keys.{IsDistinct-push}
use Rattle.std.proofs.lemmas.Map.Steps.{length-le_from_distinct_below}
use Rattle.std.specs.Prelude.{eqb}
use Rattle.std.specs.List.{IsDistinct, list_any}
use Rattle.mrt.specs.Fault.{fault_number}
use Rattle.mrt.specs.declared.fault.CaptureFault.{CaptureFault}
use Rattle.mrt.specs.declared.fault.FaultKind.{FaultKind}
use Rattle.mrt.specs.declared.fault.FaultKind.TheVariants as kinds
use Rattle.bgp_check_capture_tool.specs.Firsts.{AreApart, has_number, number_in}

kind_below : (kind : FaultKind) → fault_number kind < 11
kind_below kinds.Truncated = omega arith
kind_below kinds.TooLong = omega arith
kind_below kinds.Body = omega arith
kind_below kinds.BadState = omega arith
kind_below kinds.NotAMessage = omega arith
kind_below kinds.TimeBack = omega arith
kind_below kinds.RouteRefresh = omega arith
kind_below kinds.AddPath = omega arith
kind_below kinds.Device = omega arith
kind_below kinds.Memory = omega arith

number_below : (fault : Option CaptureFault) → number_in fault < 11
number_below None = omega arith
number_below (Some fault) = kind_below fault.kind

any_number : (number : ℕ) (firsts : List (Option CaptureFault)) → list_any (eqb number) (map number_in firsts) ≡ has_number number firsts
any_number number [] = refl
any_number number (fault ∷ firsts) = ap (λ (b : Bool). eqb number (number_in fault) || b) (any_number number firsts)

false_true : false ≡ true → ⊥
false_true e = cc

below_by : (b : Bool) (number : ℕ) (fault : Option CaptureFault) (rest : Bool) → eqb number (number_in fault) ≡ b → (rest ≡ true → number < 11) → (b || rest) ≡ true → number < 11
below_by true number fault rest same later some = let below = number_below fault in omega (arith, eqb-true number (number_in fault) same, below)
below_by false number fault rest same later some = later some

each_below : (firsts : List (Option CaptureFault)) (number : ℕ) → list_any (eqb number) (map number_in firsts) ≡ true → number < 11
each_below [] number some = absurd (false_true some)
each_below (fault ∷ firsts) number some =
    below_by (eqb number (number_in fault)) number fault (list_any (eqb number) (map number_in firsts)) refl (each_below firsts number) some

module _ (firsts : List (Option CaptureFault)) (fault : Option CaptureFault) (apart : AreApart firsts) (none : has_number (number_in fault) firsts ≡ false) where
  pub one_apart : AreApart (firsts ++ fault ∷ [])
  one_apart = subst (λ (numbers : List ℕ). IsDistinct eqb numbers) (sym (map-append number_in firsts (fault ∷ [])))
      (IsDistinct-push nat_eq_equiv (map number_in firsts) (number_in fault) apart (any_number (number_in fault) firsts ∙ none))

  pub has_room : length firsts < 11
  has_room =
      let few = length-le_from_distinct_below (map number_in (firsts ++ fault ∷ [])) 11 one_apart (each_below (firsts ++ fault ∷ [])) in
      let longer = length-append firsts (fault ∷ []) in
      let same = length-map (firsts ++ fault ∷ []) number_in in
      omega (arith, few, longer, same)

pub none_apart : AreApart []
unfolding IsDistinct
none_apart = tt
