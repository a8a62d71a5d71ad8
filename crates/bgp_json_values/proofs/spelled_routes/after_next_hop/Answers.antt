use Rattle.std.proofs.Common.{◌∷◌, [], length, refl}
use Rattle.bgp_json_values.specs.RoutesJson.{spelled_hop}
use Rattle.bgp_json_values.proofs.FrontsCompared.{then_after, without_first}
use Rattle.bgp_json_values.proofs.spelled_routes.after_next_hop.Goals as goal

pub returns-in_err-rest-in-Some : goal.returns-in_err-rest-in-Some
returns-in_err-rest-in-Some c =
    let hop = spelled_hop c.in-Some.hop in
    rw (c.from_residual.ensures, c.in-Some.is) (without_first _ (length hop ∷ hop) (0 ∷ []) c.args.octets.now refl c.in_err-rest-in-Some.ensures)

pub returns-in_ok-rest-in-Some : goal.returns-in_ok-rest-in-Some
returns-in_ok-rest-in-Some c =
    let hop = spelled_hop c.in-Some.hop in
    rw c.in-Some.is (then_after _ (length hop ∷ hop) _ (0 ∷ []) c.args.octets.now c.in_ok-rest-in-Some.rest.now c.after.result refl refl c.in_ok-rest-in-Some.ensures c.after.ensures)
