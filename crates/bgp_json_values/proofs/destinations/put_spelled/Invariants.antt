use Rattle.std.proofs.Common.{◌≡◌, ◌++◌, map}
use Rattle.json.specs.Tree.{items_tokens, json_tokens}
use Rattle.bgp_json_values.specs.Left.{are_left}
use Rattle.bgp_json_values.specs.Objects.{in_array}
use Rattle.bgp_json_values.specs.RoutesJson.{destination_json, destinations_json}
use Rattle.bgp_json_values.proofs.destinations.put_spelled.Given as goal

-- what is written and what is left to write are all; what is left to compare decides
abbrev pub invariant-loop-destination : goal.invariant-loop-destination
invariant-loop-destination g l =
    (l.writer.before ≡ l.fn.writer.before)
    × (l.writer.tokens ++ items_tokens (in_array (map destination_json l.destination-iterator))
    ≡ l.fn.writer.tokens ++ json_tokens (destinations_json l.fn.destinations))
    × (are_left l.rest l.destination-iterator ≡ are_left l.fn.octets l.fn.destinations)
