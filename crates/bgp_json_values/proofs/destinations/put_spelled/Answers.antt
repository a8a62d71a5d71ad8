use Rattle.std.proofs.Common.{◌∙◌, ◌++◌, List, ap, append_assoc, map, sym}
use Rattle.json.specs.Token.{Token}
use Rattle.json.specs.Tree.{items_tokens, json_tokens}
use Rattle.bgp_values.specs.Destination.{Destination}
use Rattle.bgp_json_values.specs.Left.{are_left}
use Rattle.bgp_json_values.specs.Objects.{in_array}
use Rattle.bgp_json_values.specs.RoutesJson.{destination_json}
use Rattle.bgp_json_values.proofs.destinations.put_spelled.Goals as goal

pub loop-destination-preserved : goal.loop-destination-preserved
loop-destination-preserved g c =
    let so_far = c.loop-destination.invariant in
    let put = c.in_ok-put_prefix.ensures in
    let written = c.loop-destination.writer.tokens in
    let one = json_tokens (destination_json c.in-Some.destination) in
    let behind = items_tokens (in_array (map destination_json c.next.new.self)) in (
      put.before ∙ so_far.0,
      ap (λ (ts : List Token). ts ++ behind) put.ok ∙ append_assoc written one behind
          ∙ sym (ap (λ (left : List Destination). written ++ items_tokens (in_array (map destination_json left))) c.in-Some.ensures.steps)
          ∙ so_far.1,
      c.after_next-rest.ensures c.next.new.self
          ∙ sym (ap (λ (left : List Destination). are_left c.loop-destination.rest left) c.in-Some.ensures.steps)
          ∙ so_far.2,
    )
