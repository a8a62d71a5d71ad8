use Rattle.bgp_path.specs.Path.{PathValue}
use Rattle.std.proofs.Common.{ap, codes}
use Rattle.bgp_json_values.proofs.Members.{then_members}
use Rattle.bgp_json_verdicts.specs.RouteJson.{community_json, extended_json, large_json, list_members}
use Rattle.bgp_json_verdicts.proofs.route.put_all_communities.Goals as goal

pub returns : goal.returns
returns g c =
    let p = c.args.path.now in
    let parts = c.parts-parts.ensures.value in
    let communities = rw (c.as_slice.ensures.numbers, ap (λ (v : PathValue). v.communities) parts) at c.in_ok-put_communities.ensures in
    let extended = rw (c.as_slice-2.ensures.values, ap (λ (v : PathValue). v.extended_communities) parts) at c.in_ok-put_extended.ensures in
    let large = rw (c.as_slice-3.ensures.values, ap (λ (v : PathValue). v.large_communities) parts) at c.put_large.ensures in
    then_members (list_members (codes "communities") community_json p.communities) _ communities
    (then_members (list_members (codes "extended") extended_json p.extended_communities) (list_members (codes "large") large_json p.large_communities) extended large)
