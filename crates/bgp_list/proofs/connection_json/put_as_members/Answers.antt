use Rattle.std.proofs.Common.{codes}
use Rattle.bgp_json_values.proofs.Members.{then_members}
use Rattle.bgp_import.specs.ListText.{other_side}
use Rattle.bgp_ended.specs.Values.{outline_value}
use Rattle.bgp_list.specs.Connections.{as_of}
use Rattle.bgp_list.specs.JsonMembers.{number_members}
use Rattle.bgp_list.proofs.connection_json.put_as_members.Goals as goal

pub returns : goal.returns
returns g c =
    let outline = outline_value c.args.outline.now in
    let opener = c.args.opening.opened_by in
    let put = rw c.as_of.ensures at c.in_ok-put_as_number.ensures in
    let put_to = rw (c.as_of-2.ensures, c.other_side.ensures) at c.put_as_number-2.ensures in
    then_members (number_members (codes "as") (as_of opener outline)) (number_members (codes "to_as") (as_of (other_side opener) outline)) put put_to
