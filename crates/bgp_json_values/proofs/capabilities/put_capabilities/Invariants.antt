use Rattle.std.proofs.Common.{◌≡◌, ◌++◌, map}
use Rattle.json.specs.Tree.{items_tokens, json_tokens}
use Rattle.bgp_json_values.specs.CapabilityJson.{capabilities_json, capability_json}
use Rattle.bgp_json_values.specs.Objects.{in_array}
use Rattle.bgp_json_values.proofs.capabilities.put_capabilities.Given as goal

-- what is written and what is left to write are all
abbrev pub invariant-loop-capability : goal.invariant-loop-capability
invariant-loop-capability g l =
    (l.writer.before ≡ l.fn.writer.before)
    × (l.writer.tokens ++ items_tokens (in_array (map capability_json l.capability-iterator))
    ≡ l.fn.writer.tokens ++ json_tokens (capabilities_json l.fn.capabilities))
