use Rattle.std.proofs.Common.{◌≡◌, ◌++◌, map}
use Rattle.json.specs.Tree.{items_tokens, json_tokens}
use Rattle.bgp_json_values.specs.AttributeJson.{attribute_json, attributes_json}
use Rattle.bgp_json_values.specs.Objects.{in_array}
use Rattle.bgp_json_values.proofs.attributes.put_attributes.Given as goal

-- what is written and what is left to write are all
abbrev pub invariant-loop-attr : goal.invariant-loop-attr
invariant-loop-attr g l =
    (l.writer.before ≡ l.fn.writer.before)
    × (l.writer.tokens ++ items_tokens (in_array (map (attribute_json l.reading) l.attr-iterator.attributes))
    ≡ l.fn.writer.tokens ++ json_tokens (attributes_json l.reading l.fn.attributes.attributes))
