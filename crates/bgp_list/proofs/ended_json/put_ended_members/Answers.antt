use Rattle.std.proofs.Common.{codes, ◌++◌}
use Rattle.bgp_ended.specs.Values.{how_value}
use Rattle.bgp_json_values.specs.Times.{time_members}
use Rattle.bgp_json_values.proofs.Chains.{then}
use Rattle.bgp_json_values.proofs.Members.{then_members}
use Rattle.bgp_list.specs.EndedJson.{how_members}
use Rattle.bgp_list.specs.JsonMembers.{endpoint_members}
use Rattle.bgp_list.proofs.ended_json.put_ended_members.Goals as goal

pub returns : goal.returns
returns g c =
    let by = endpoint_members (codes "by") (codes "by_port") c.args.by.now in
    let how = how_members (how_value c.args.ended.how) in
    let time = time_members c.args.ended.moment.second c.args.ended.moment.micro in
    then c.in_ok-put_number.ensures
    (then_members time (by ++ how) c.in_ok-put_time.ensures (then_members by how c.in_ok-put_end_members.ensures c.put_how_members.ensures))
