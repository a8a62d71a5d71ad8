use Rattle.std.proofs.Common.{◌≡◌, ◌∙◌, ◌++◌, List, [], sym, ap, append-nil, append_assoc, codes}
use Rattle.std.specs.List.{flat_map}
use Rattle.bgp_text.proofs.Pieces.{Joins, and_then, nothing_yet}
use Rattle.bgp_attr.specs.Field.{Attribute, attribute_of}
use Rattle.bgp_attr.specs.Split.{Split}
use Rattle.bgp_lines.specs.UpdateLine.{named_attribute}
use Rattle.bgp_lines.proofs.update_line.put_attributes.Goals as goal

pub loop-attr-init : goal.loop-attr-init
loop-attr-init g c =
    ([], nothing_yet g.W.Sink g.met.W.Sink.nothing c.args.lines.now.outlet c.args.lines.now.held.items, ap (λ (left : Split). flat_map (λ (a : Attribute). codes " | " ++ named_attribute c.args.reading a) left.attributes) c.into_iter-attr-iterator.ensures.into_iter_gives)

pub loop-attr-preserved : goal.loop-attr-preserved
loop-attr-preserved g c =
    let law : Joins g.W.Sink = record { joined = g.met.W.Sink.joined } in
    let so_far = c.loop-attr.invariant in
    let one = codes " | " ++ named_attribute c.args.reading (attribute_of c.in-Some.attr) in
    let behind = flat_map (λ (a : Attribute). codes " | " ++ named_attribute c.args.reading a) c.next.new.self.attributes in (
      so_far.0 ++ one,
      and_then law so_far.1 (and_then law c.put.ensures c.put_attribute.ensures),
      append_assoc so_far.0 one behind
          ∙ sym (ap (λ (left : List Attribute). so_far.0 ++ flat_map (λ (a : Attribute). codes " | " ++ named_attribute c.args.reading a) left) c.in-Some.ensures.steps.0)
          ∙ so_far.2,
    )

pub returns : goal.returns
returns g c =
    let so_far = c.loop-attr.invariant in
    let all : so_far.0 ≡ flat_map (λ (a : Attribute). codes " | " ++ named_attribute c.args.reading a) c.args.attributes.attributes =
    sym (append-nil so_far.0)
    ∙ sym (ap (λ (left : List Attribute). so_far.0 ++ flat_map (λ (a : Attribute). codes " | " ++ named_attribute c.args.reading a) left) c.in-None.ensures.steps.0)
    ∙ so_far.2
    in
    rw all at so_far.1
