use Rattle.std.proofs.Common.{◌≡◌, ◌∷◌, [], Bool, Ok, Result, codes, subst}
use Rattle.json.specs.Token.{end_object}
use Rattle.json.specs.Tree.{json_tokens}
use Rattle.json.specs.Written.{Written, Writes}
use Rattle.bgp_attr.specs.Segments.{WireSegment}
use Rattle.bgp_values.specs.Items.{items_of}
use Rattle.bgp_values.specs.PathSegments.{segment_of}
use Rattle.bgp_values.specs.declared.items.Item.{Item}
use Rattle.bgp_json_values.specs.Adding.{Adds}
use Rattle.bgp_json_values.specs.AttributeJson.{as_item, segment_json, segment_name_json}
use Rattle.bgp_json_values.specs.Heads.{segment_head_tokens}
use Rattle.bgp_json_values.specs.ItemJson.{items_json}
use Rattle.bgp_json_values.proofs.Members.{braced, last}
use Rattle.bgp_json_values.proofs.attributes.put_segment.Goals as goal

-- what a segment begins with was put, its AS numbers as this item, and the closing brace
put_in_turn : {E : Type 0} {u v : Unit {0}} {r : Result (Unit {0}) E} {a b c d : Written} (as4 : Bool) (item : Item) (segment : WireSegment) → item ≡ as_item as4
    → Adds {E = E} (Ok u) a b (segment_head_tokens segment.kind) → Adds {E = E} (Ok v) b c (json_tokens (items_json item (items_of item segment.numbers)))
    → Writes r c d end_object → Adds r a d (json_tokens (segment_json as4 segment))
put_in_turn {E} {u} {v} {r} {a} {b} {c} {d} as4 item segment is head put ended =
    let numbers = items_json (as_item as4) (items_of (as_item as4) segment.numbers) in
    let also : Adds {E = E} (Ok v) b c (json_tokens numbers) = subst (λ (i : Item). Adds {E = E} (Ok v) b c (json_tokens (items_json i (items_of i segment.numbers)))) is put in
    braced ((codes "kind", segment_name_json segment.kind) ∷ (codes "as", numbers) ∷ []) (last (segment_head_tokens segment.kind) numbers head also) ended

pub returns : goal.returns
returns g c =
    put_in_turn c.args.as4 c.as_item.result (segment_of c.args.segment) c.as_item.ensures c.in_ok-put_segment_head.ensures c.in_ok-put_items.ensures c.end_object.ensures
