-- Refusals of which no two have one number: there is room for one more.
use Rattle.std.proofs.Common.{◌≡◌, ◌∙◌, ◌<◌, ◌++◌, ◌||◌, ℕ, Bool, true, false, List, [], ◌∷◌, Option, None, Some, length, map, refl, sym, ap, subst, arith, length-append}
use Rattle.std.proofs.lemmas.Bool.{eqb-true}
use Rattle.std.proofs.lemmas.Cmp.{nat_eq_equiv}
use Rattle.std.proofs.lemmas.List.{length-map, map-append}
use Rattle.std.proofs.lemmas.Map.Keys.{IsDistinct-push}
use Rattle.std.proofs.lemmas.Map.Steps.{length-le_from_distinct_below}
use Rattle.std.specs.Prelude.{eqb}
use Rattle.std.specs.List.{IsDistinct, list_any}
use Rattle.packets.specs.Fault as file
use Rattle.packets.specs.declared.fault.FaultKind.{FaultKind}
use Rattle.packets.specs.declared.fault.FaultKind.TheVariants as kinds
use Rattle.segments.specs.Fault as packet
use Rattle.segments.specs.declared.fault.PacketFault.{PacketFault}
use Rattle.segments.specs.declared.fault.PacketFault.TheVariants as packet_faults
use Rattle.streams.specs.Fault as connection
use Rattle.streams.specs.declared.fault.Fault.{Fault}
use Rattle.streams.specs.declared.fault.Fault.TheVariants as faults
use Rattle.bgp_import.specs.declared.refusal.Refusal.{Refusal}
use Rattle.bgp_import.specs.declared.refusal.Refusal.TheVariants as refusals
use Rattle.bgp_list.specs.Firsts.{AreApart, has_number, number_in}

file_below : (kind : FaultKind) → file.fault_number kind < 19
file_below kinds.Format = omega arith
file_below kinds.Truncated = omega arith
file_below kinds.TooLong = omega arith
file_below kinds.Block = omega arith
file_below kinds.Time = omega arith
file_below kinds.Device = omega arith
file_below kinds.Memory = omega arith

packet_below : (fault : PacketFault) → packet.fault_number fault < 19
packet_below (packet_faults.Link link_type) = omega arith
packet_below packet_faults.Fragment = omega arith
packet_below packet_faults.Cut = omega arith

connection_below : (fault : Fault) → connection.fault_number fault < 19
connection_below (faults.Cut number) = omega arith
connection_below (faults.TimeBack number) = omega arith
connection_below (faults.NoConnection number) = omega arith
connection_below (faults.Several number) = omega arith
connection_below (faults.NoStart number) = omega arith
connection_below (faults.Conflict number from place) = omega arith
connection_below (faults.Missing number from place) = omega arith
connection_below (faults.AfterReset number from place) = omega arith

number_below : (refusal : Option Refusal) → number_in refusal < 19
number_below None = omega arith
number_below (Some (refusals.File fault)) = file_below fault.kind
number_below (Some (refusals.Packet fault number)) = packet_below fault
number_below (Some (refusals.Connection fault)) = connection_below fault
number_below (Some (refusals.Memory number)) = omega arith
number_below (Some (refusals.RouteRefresh number from place)) = omega arith

any_number : (number : ℕ) (firsts : List (Option Refusal)) → list_any (eqb number) (map number_in firsts) ≡ has_number number firsts
any_number number [] = refl
any_number number (refusal ∷ firsts) = ap (λ (b : Bool). eqb number (number_in refusal) || b) (any_number number firsts)

false_true : false ≡ true → ⊥
false_true e = cc

below_by : (b : Bool) (number : ℕ) (refusal : Option Refusal) (rest : Bool) → eqb number (number_in refusal) ≡ b → (rest ≡ true → number < 19) → (b || rest) ≡ true → number < 19
below_by true number refusal rest same later some = let below = number_below refusal in omega (arith, eqb-true number (number_in refusal) same, below)
below_by false number refusal rest same later some = later some

each_below : (firsts : List (Option Refusal)) (number : ℕ) → list_any (eqb number) (map number_in firsts) ≡ true → number < 19
each_below [] number some = absurd (false_true some)
each_below (refusal ∷ firsts) number some =
    below_by (eqb number (number_in refusal)) number refusal (list_any (eqb number) (map number_in firsts)) refl (each_below firsts number) some

module _ (firsts : List (Option Refusal)) (refusal : Option Refusal) (apart : AreApart firsts) (none : has_number (number_in refusal) firsts ≡ false) where
  pub one_apart : AreApart (firsts ++ refusal ∷ [])
  one_apart = subst (λ (numbers : List ℕ). IsDistinct eqb numbers) (sym (map-append number_in firsts (refusal ∷ [])))
      (IsDistinct-push nat_eq_equiv (map number_in firsts) (number_in refusal) apart (any_number (number_in refusal) firsts ∙ none))

  pub has_room : length firsts < 19
  has_room =
      let few = length-le_from_distinct_below (map number_in (firsts ++ refusal ∷ [])) 19 one_apart (each_below (firsts ++ refusal ∷ [])) in
      let longer = length-append firsts (refusal ∷ []) in
      let same = length-map (firsts ++ refusal ∷ []) number_in in
      omega (arith, few, longer, same)
