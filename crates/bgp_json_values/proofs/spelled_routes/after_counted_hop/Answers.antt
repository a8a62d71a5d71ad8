use Rattle.std.proofs.Common.{◌∷◌, [], ℕ, ap, length, refl}
use Rattle.bgp_json_values.specs.RoutesJson.{spelled_hop}
use Rattle.bgp_json_values.proofs.FrontsCompared.{then_after, without_first}
use Rattle.bgp_json_values.proofs.spelled_routes.after_counted_hop.Goals as goal

pub returns-in_err-rest : goal.returns-in_err-rest
returns-in_err-rest c =
    rw c.from_residual.ensures (without_first _ (length (spelled_hop c.args.hop) ∷ []) (spelled_hop c.args.hop) c.args.octets.now (ap (λ (n : ℕ). n ∷ []) c.hop_len.ensures) c.in_err-rest.ensures)

pub returns : goal.returns
returns c =
    then_after _ (length (spelled_hop c.args.hop) ∷ []) _ (spelled_hop c.args.hop) c.args.octets.now c.in_ok-rest.rest.now c.after_hop.result (ap (λ (n : ℕ). n ∷ []) c.hop_len.ensures) refl c.in_ok-rest.ensures c.after_hop.ensures
