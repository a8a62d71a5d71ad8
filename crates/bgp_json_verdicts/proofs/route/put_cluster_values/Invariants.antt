use Rattle.std.proofs.Common.{◌≡◌, ◌++◌, drop, map}
use Rattle.bgp_json_values.specs.Objects.{values_tokens}
use Rattle.bgp_json_verdicts.specs.RouteJson.{router_json}
use Rattle.bgp_json_verdicts.proofs.route.put_cluster_values.Given as goal

-- what is written and what is left to write are all
abbrev pub invariant-loop-value : goal.invariant-loop-value
invariant-loop-value g l =
    (l.writer.before ≡ l.fn.writer.before)
    × (l.writer.tokens ++ values_tokens (map router_json (drop l.value-index l.fn.values))
    ≡ l.fn.writer.tokens ++ values_tokens (map router_json l.fn.values))
