use Rattle.std.proofs.Common.{◌∙◌, ap, subst, Some, arith}
use Rattle.bgp_values.specs.CapabilityValue.{capability_value_of}
use Rattle.bgp_json_values.proofs.CapabilitiesSpelled.{Says, family_spelled, others_spelled, said}
use Rattle.bgp_json_values.proofs.spelled_capabilities.is_spelled.Goals as goal

pub bounds-octets-2 : goal.bounds-octets-2
bounds-octets-2 g c =
    let octets = c.args.octets.now in
    let says = subst (Says octets) (c.requires ∙ ap (λ v. Some (capability_value_of v)) c.in-Family.is) (said c.args.code octets (λ k. omega (arith, c.type_inv.octets k))) in
    omega (arith, says.0)

pub returns-in-Family : goal.returns-in-Family
returns-in-Family g c =
    let octets = c.args.octets.now in
    let says = subst (Says octets) (c.requires ∙ ap (λ v. Some (capability_value_of v)) c.in-Family.is) (said c.args.code octets (λ k. omega (arith, c.type_inv.octets k))) in
    rw c.in-Family.is (family_spelled octets _ _ says (λ k. omega (arith, c.type_inv.octets k)))

pub returns-in_default : goal.returns-in_default
returns-in_default g c =
    let octets = c.args.octets.now in
    let says = subst (Says octets) c.requires (said c.args.code octets (λ k. omega (arith, c.type_inv.octets k))) in
    others_spelled octets c.args.value says c.in_default.not-Family c.in_default.not-Restart c.in_default.not-LongLived
