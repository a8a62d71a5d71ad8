use Rattle.std.proofs.Common.{codes, ◌++◌}
use Rattle.bgp_json_values.proofs.Members.{then_members}
use Rattle.bgp_json.proofs.Tokens.{whole}
use Rattle.bgp_list.specs.ConnectionJson.{addresses_members, refused_members}
use Rattle.bgp_list.proofs.connection_json.write_refused_between.Goals as goal

pub returns : goal.returns
returns g c =
    let addresses = addresses_members c.args.addresses in
    let refused = refused_members c.args.refusal in
    let put = then_members addresses refused c.in_ok-put_addresses.ensures c.in_ok-put_refused_member.ensures in
    whole (codes "session") (addresses ++ refused) c.in_ok-begin.ensures put c.end_object.ensures
