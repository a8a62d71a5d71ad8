use Rattle.bgp_path.specs.Path.{PathValue}
use Rattle.std.proofs.Common.{ap, codes, true}
use Rattle.bgp_json_values.proofs.Members.{then_members}
use Rattle.json.specs.Json.{boolean}
use Rattle.bgp_json_verdicts.specs.At.{number_members}
use Rattle.bgp_json_verdicts.specs.RouteJson.{aggregator_members, member_if}
use Rattle.bgp_json_verdicts.proofs.route.put_single.Goals as goal

pub returns : goal.returns
returns g c =
    let p = c.args.path.now in
    let parts = c.parts-parts.ensures.value in
    let med = rw (c.wide.ensures, ap (λ (v : PathValue). v.multi_exit_disc) parts) at c.in_ok-put_number_if.ensures in
    let pref = rw (c.wide-2.ensures, ap (λ (v : PathValue). v.local_pref) parts) at c.in_ok-put_number_if-2.ensures in
    let atomic = rw (ap (λ (v : PathValue). v.atomic_aggregate) parts) at c.in_ok-put_if.ensures in
    let aggregator = rw (ap (λ (v : PathValue). v.aggregator) parts) at c.put_aggregator.ensures in
    then_members (number_members (codes "med") p.multi_exit_disc) _ med
    (then_members (number_members (codes "pref") p.local_pref) _ pref
    (then_members (member_if p.atomic_aggregate (codes "atomic") (boolean true)) (aggregator_members p.aggregator) atomic aggregator))
