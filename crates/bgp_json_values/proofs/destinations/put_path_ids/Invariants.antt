use Rattle.std.proofs.Common.{◌≡◌, ◌++◌, drop, map}
use Rattle.json.specs.Tree.{items_tokens, json_tokens}
use Rattle.bgp_json_values.specs.Objects.{in_array, number_of}
use Rattle.bgp_json_values.specs.RoutesJson.{ids_of, path_ids_json}
use Rattle.bgp_json_values.proofs.destinations.put_path_ids.Given as goal

-- what is written and what is left to write are all
abbrev pub invariant-loop-destination : goal.invariant-loop-destination
invariant-loop-destination g l =
    (l.writer.before ≡ l.fn.writer.before)
    × (l.writer.tokens ++ items_tokens (in_array (map number_of (ids_of (drop l.destination-index l.fn.destinations))))
    ≡ l.fn.writer.tokens ++ json_tokens (path_ids_json l.fn.destinations))
