use Rattle.std.proofs.Common.{codes, ◌++◌}
use Rattle.bgp_json_values.proofs.Members.{then_members}
use Rattle.bgp_json.proofs.Tokens.{whole}
use Rattle.bgp_json_values.specs.Octets.{octets_members}
use Rattle.bgp_json.specs.Place.{place_members}
use Rattle.bgp_json.proofs.update.write_malformed_update.Goals as goal

pub returns : goal.returns
returns g c =
    let place = place_members c.args.place in
    let said = octets_members c.args.octets.now in
    whole (codes "malformed_update") (place ++ said) c.in_ok-begin.ensures (then_members place said c.in_ok-put_place.ensures c.in_ok-put_octets_member.ensures) c.end_object.ensures
