use Rattle.std.proofs.Common.{codes, ◌++◌}
use Rattle.bgp_json_values.proofs.Members.{then_members}
use Rattle.bgp_json.proofs.Tokens.{whole}
use Rattle.bgp_list.specs.ConnectionJson.{opening_members, refused_members}
use Rattle.bgp_list.proofs.connection_json.write_refused_connection.Goals as goal

pub returns : goal.returns
returns g c =
    let opening = opening_members c.args.session.now c.args.opening in
    let refused = refused_members c.args.refusal in
    let put = then_members opening refused c.in_ok-put_opening_members.ensures c.in_ok-put_refused_member.ensures in
    whole (codes "connection") (opening ++ refused) c.in_ok-begin.ensures put c.end_object.ensures
