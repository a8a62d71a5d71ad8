use Rattle.std.proofs.Common.{◌++◌, codes}
use Rattle.bgp_json_values.proofs.Members.{then_members}
use Rattle.bgp_list.specs.JsonMembers.{endpoint_members, number_members}
use Rattle.bgp_json_check.specs.Members.{part_members}
use Rattle.bgp_json_check.proofs.member.put_end.Goals as goal

pub returns : goal.returns
returns g c =
    let name = c.args.name.now in
    then_members (endpoint_members (codes "address") (codes "port") name.end) (number_members (codes "as") name.as_number ++ part_members name.part) c.in_ok-put_end_members.ensures
    (then_members (number_members (codes "as") name.as_number) (part_members name.part) c.in_ok-put_as_number.ensures c.put_part.ensures)
