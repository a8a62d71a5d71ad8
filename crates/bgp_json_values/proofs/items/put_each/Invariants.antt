use Rattle.std.proofs.Common.{◌≡◌, ◌++◌, length, map}
use Rattle.json.specs.Tree.{items_tokens, json_tokens}
use Rattle.bgp_values.specs.Items.{items_of}
use Rattle.bgp_json_values.specs.ItemJson.{item_json, items_json}
use Rattle.bgp_json_values.specs.Objects.{in_array}
use Rattle.bgp_json_values.proofs.items.put_each.Given as goal

-- what is written and what is left to write are all
abbrev pub invariant-loop-piece : goal.invariant-loop-piece
invariant-loop-piece g l =
    (l.writer.before ≡ l.fn.writer.before)
    × (l.writer.tokens ++ items_tokens (in_array (map (item_json l.item) (items_of l.item l.rest)))
    ≡ l.fn.writer.tokens ++ json_tokens (items_json l.item (items_of l.item l.octets)))

abbrev pub decreases-loop-piece : goal.decreases-loop-piece
decreases-loop-piece g l = length l.rest
