use Rattle.std.proofs.Common.{codes, ◌++◌}
use Rattle.bgp_json_values.proofs.Members.{then_members}
use Rattle.bgp_json.proofs.Tokens.{whole}
use Rattle.bgp_json.specs.MessageJson.{malformed_open_members}
use Rattle.bgp_json.specs.Place.{place_members}
use Rattle.bgp_json.proofs.open.write_malformed_open.Goals as goal

pub returns : goal.returns
returns g c =
    let place = place_members c.args.place in
    let said = malformed_open_members c.args.fault c.args.octets.now in
    whole (codes "malformed_open") (place ++ said) c.in_ok-begin.ensures (then_members place said c.in_ok-put_place.ensures c.in_ok-put_fault.ensures) c.end_object.ensures
