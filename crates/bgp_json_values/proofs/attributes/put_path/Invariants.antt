use Rattle.std.proofs.Common.{◌≡◌, ◌++◌, length, map}
use Rattle.json.specs.Tree.{items_tokens, json_tokens}
use Rattle.bgp_attr.specs.Segments.{number_width}
use Rattle.bgp_values.specs.AttributeValue.{path}
use Rattle.bgp_values.specs.PathSegments.{segments_of}
use Rattle.bgp_json_values.specs.AttributeJson.{attribute_value_json, segment_json}
use Rattle.bgp_json_values.specs.Objects.{in_array}
use Rattle.bgp_json_values.proofs.attributes.put_path.Given as goal

-- what is written and what is left to write are all
abbrev pub invariant-loop-segment : goal.invariant-loop-segment
invariant-loop-segment g l =
    (l.writer.before ≡ l.fn.writer.before)
    × (l.writer.tokens ++ items_tokens (in_array (map (segment_json l.as4) (segments_of (number_width l.as4) l.rest)))
    ≡ l.fn.writer.tokens ++ json_tokens (attribute_value_json (path l.as4 (segments_of (number_width l.as4) l.octets))))

abbrev pub decreases-loop-segment : goal.decreases-loop-segment
decreases-loop-segment g l = length l.rest
