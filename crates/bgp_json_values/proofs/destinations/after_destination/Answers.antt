use Rattle.std.proofs.Common.{refl}
use Rattle.bgp_prefix.specs.Prefix.{prefix_octets}
use Rattle.bgp_json_values.specs.RoutesJson.{spelled_id}
use Rattle.bgp_json_values.proofs.FrontsCompared.{then_after, without_first}
use Rattle.bgp_json_values.proofs.destinations.after_destination.Goals as goal

pub returns-in_err-rest : goal.returns-in_err-rest
returns-in_err-rest c =
    let id = spelled_id c.args.destination.path in
    let prefix = prefix_octets c.args.destination.prefix in
    rw c.from_residual.ensures (without_first id id prefix c.args.octets.now refl c.in_err-rest.ensures)

pub returns : goal.returns
returns c =
    let id = spelled_id c.args.destination.path in
    let prefix = prefix_octets c.args.destination.prefix in
    then_after id id prefix prefix c.args.octets.now c.in_ok-rest.rest.now c.after_prefix.result refl refl c.in_ok-rest.ensures c.after_prefix.ensures
