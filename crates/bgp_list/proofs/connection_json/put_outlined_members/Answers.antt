use Rattle.std.proofs.Common.{codes, ◌++◌}
use Rattle.bgp_json_values.proofs.Members.{then_members}
use Rattle.bgp_ended.specs.Values.{outline_value}
use Rattle.bgp_list.specs.ConnectionJson.{as_members}
use Rattle.bgp_list.specs.EndedJson.{end_members}
use Rattle.bgp_list.specs.JsonMembers.{pair_members}
use Rattle.bgp_list.proofs.connection_json.put_outlined_members.Goals as goal

pub returns : goal.returns
returns g c =
    let outline = outline_value c.args.outline.now in
    let pair = pair_members (codes "octets") c.args.first c.args.second in
    let end = end_members c.args.session.now c.args.opening outline.ended in
    then_members (as_members c.args.opening outline) (pair ++ end) c.in_ok-put_as_members.ensures
    (then_members pair end c.in_ok-put_pair.ensures c.put_end_member.ensures)
