use Rattle.std.proofs.Common.{◌≡◌, ◌++◌, drop, map}
use Rattle.json.specs.Tree.{items_tokens, json_tokens}
use Rattle.bgp_json_values.specs.Objects.{in_array}
use Rattle.bgp_json_values.specs.RoutesJson.{destination_json, destinations_json}
use Rattle.bgp_json_values.proofs.destinations.put_destinations.Given as goal

-- what is written and what is left to write are all
abbrev pub invariant-loop-destination : goal.invariant-loop-destination
invariant-loop-destination g l =
    (l.writer.before ≡ l.fn.writer.before)
    × (l.writer.tokens ++ items_tokens (in_array (map destination_json (drop l.destination-index l.fn.destinations)))
    ≡ l.fn.writer.tokens ++ json_tokens (destinations_json l.fn.destinations))
