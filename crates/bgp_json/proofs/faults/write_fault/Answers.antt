use Rattle.std.proofs.Common.{codes, ◌++◌}
use Rattle.bgp_json_values.proofs.Members.{then_members}
use Rattle.bgp_json.proofs.Tokens.{whole}
use Rattle.bgp_json.specs.Others.{header_members}
use Rattle.bgp_json.specs.Place.{place_members}
use Rattle.bgp_json.proofs.faults.write_fault.Goals as goal

pub returns : goal.returns
returns g c =
    let place = place_members c.args.place in
    let said = header_members c.args.faults c.args.header.now c.args.octets.now in
    whole (codes "fault") (place ++ said) c.in_ok-begin.ensures (then_members place said c.in_ok-put_place.ensures c.in_ok-put_header.ensures) c.end_object.ensures
