use Rattle.bgp_json_values.proofs.Members.{then_members}
use Rattle.bgp_json_verdicts.specs.RouteJson.{community_members, mandatory_members, reflection_members, single_members}
use Rattle.bgp_json_verdicts.proofs.route.put_path.Goals as goal

pub returns : goal.returns
returns g c =
    let p = c.args.path.now in
    then_members (mandatory_members p) _ c.in_ok-put_mandatory.ensures
    (then_members (single_members p) _ c.in_ok-put_single.ensures
    (then_members (community_members p) (reflection_members p) c.in_ok-put_all_communities.ensures c.put_reflection.ensures))
