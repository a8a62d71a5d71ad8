use Rattle.std.proofs.Common.{ℕ, ap, refl}
use Rattle.bgp_open.specs.Offer.{afi_of}
use Rattle.bgp_json_values.specs.RoutesJson.{spelled_next_hop, spelled_numbers}
use Rattle.bgp_json_values.proofs.FrontsCompared.{then_after, without_first}
use Rattle.bgp_json_values.proofs.spelled_routes.after_head.Goals as goal

pub returns-in_err-rest : goal.returns-in_err-rest
returns-in_err-rest c =
    rw c.from_residual.ensures (without_first _ (spelled_numbers (afi_of c.args.family) 1) (spelled_next_hop c.args.hop) c.args.octets.now (ap (λ (afi : ℕ). spelled_numbers afi 1) c.afi_of.ensures) c.in_err-rest.ensures)

pub returns : goal.returns
returns c =
    then_after _ (spelled_numbers (afi_of c.args.family) 1) _ (spelled_next_hop c.args.hop) c.args.octets.now c.in_ok-rest.rest.now c.after_next_hop.result (ap (λ (afi : ℕ). spelled_numbers afi 1) c.afi_of.ensures) refl c.in_ok-rest.ensures c.after_next_hop.ensures
