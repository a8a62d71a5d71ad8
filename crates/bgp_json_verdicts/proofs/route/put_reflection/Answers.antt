use Rattle.bgp_path.specs.Path.{PathValue}
use Rattle.std.proofs.Common.{ap, codes}
use Rattle.bgp_json_values.proofs.Members.{then_members}
use Rattle.bgp_json_verdicts.specs.RouteJson.{list_members, router_json, router_members}
use Rattle.bgp_json_verdicts.proofs.route.put_reflection.Goals as goal

pub returns : goal.returns
returns g c =
    let p = c.args.path.now in
    let parts = c.parts-parts.ensures.value in
    let clusters = rw (c.as_slice.ensures.values, ap (λ (v : PathValue). v.cluster_list) parts) at c.put_clusters.ensures in
    then_members (router_members (codes "originator") p.originator_id) (list_members (codes "clusters") router_json p.cluster_list) (rw (ap (λ (v : PathValue). v.originator_id) parts) at c.in_ok-put_originator.ensures) clusters
