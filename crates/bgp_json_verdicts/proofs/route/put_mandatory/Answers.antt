use Rattle.bgp_path.specs.Path.{PathValue}
use Rattle.std.proofs.Common.{ap, ◌∷◌, [], codes}
use Rattle.bgp_json_verdicts.proofs.Parts.{between}
use Rattle.json.specs.Json.{array, string}
use Rattle.bgp_json_values.specs.Objects.{in_array}
use Rattle.bgp_json_values.specs.RoutesJson.{hop_json}
use Rattle.bgp_json_values.proofs.Members.{member, then_members}
use Rattle.bgp_json_verdicts.specs.RouteJson.{origin_text, path_values}
use Rattle.bgp_json_verdicts.proofs.route.put_mandatory.Goals as goal

pub returns : goal.returns
returns g c =
    let p = c.args.path.now in
    let parts = c.parts-parts.ensures.value in
    let hop = member (codes "next_hop") (hop_json p.next_hop) c.in_ok-key.ensures (rw (ap (λ (v : PathValue). v.next_hop) parts) at c.in_ok-put_hop.ensures) in
    let path = member (codes "path") (array (in_array (path_values p.as_path))) c.in_ok-key-2.ensures
    (between (path_values p.as_path) c.in_ok-begin_array.ensures (rw (c.segments.ensures.segments, ap (λ (v : PathValue). v.as_path) parts) at c.in_ok-put_segments.ensures) c.in_ok-end_array.ensures) in
    let origin = rw (c.origin_text.ensures, ap (λ (v : PathValue). v.origin) parts) at c.put_text.ensures in
    let behind = (codes "origin", string (origin_text p.origin)) ∷ [] in
    then_members ((codes "next_hop", hop_json p.next_hop) ∷ []) ((codes "path", array (in_array (path_values p.as_path))) ∷ behind) hop
    (then_members ((codes "path", array (in_array (path_values p.as_path))) ∷ []) behind path origin)
