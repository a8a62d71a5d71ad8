use Rattle.std.proofs.Common.{codes}
use Rattle.bgp_json_values.proofs.Members.{then_members}
use Rattle.bgp_import.specs.ListText.{other_side}
use Rattle.bgp_list.specs.Connections.{endpoint_of}
use Rattle.bgp_list.specs.JsonMembers.{endpoint_members}
use Rattle.bgp_list.proofs.connection_json.put_ends.Goals as goal

pub returns : goal.returns
returns g c =
    let opening = c.args.opening in
    let from = endpoint_members (codes "from") (codes "from_port") (endpoint_of opening.opened_by c.args.session.now opening) in
    let to = endpoint_members (codes "to") (codes "to_port") (endpoint_of (other_side opening.opened_by) c.args.session.now opening) in
    let put_from = rw c.endpoint_of-from.ensures at c.in_ok-put_end_members.ensures in
    let put_to = rw (c.endpoint_of-to.ensures, c.other_side.ensures) at c.put_end_members-2.ensures in
    then_members from to put_from put_to
