use Rattle.std.proofs.Common.{codes, ◌++◌}
use Rattle.bgp_json_values.proofs.Members.{then_members}
use Rattle.bgp_json.proofs.Tokens.{whole}
use Rattle.bgp_ended.specs.Values.{outline_value}
use Rattle.bgp_list.specs.ConnectionJson.{opening_members, outlined_members}
use Rattle.bgp_list.proofs.connection_json.write_connection.Goals as goal

pub returns : goal.returns
returns g c =
    let opening = opening_members c.args.session.now c.args.opening in
    let outlined = outlined_members c.args.session.now c.args.opening (outline_value c.args.outline.now) c.args.first c.args.second in
    let put = then_members opening outlined c.in_ok-put_opening_members.ensures c.in_ok-put_outlined_members.ensures in
    whole (codes "connection") (opening ++ outlined) c.in_ok-begin.ensures put c.end_object.ensures
