use Rattle.std.proofs.Common.{◌≡◌, ◌∙◌, ◌++◌, ◌∷◌, List, sym, ap, append-nil, append_assoc}
use Rattle.std.specs.List.{flat_map}
use Rattle.bgp_update.specs.AttrField.{Attribute, attribute_of}
use Rattle.bgp_update.specs.Split.{Split}
use Rattle.bgp_text.specs.Text.{attribute_text, attributes_text}
use Rattle.bgp_text.proofs.Joined.{joined}
use Rattle.bgp_text.proofs.Pieces.{Joins, and_then}
use Rattle.bgp_text.proofs.updates.put_attributes.Goals as goal

-- the attributes behind the first
text_of_some : (attributes others : List Attribute) (first : Attribute) → attributes ≡ first ∷ others
    → attribute_text first ++ flat_map (λ a. 32 ∷ attribute_text a) others ≡ attributes_text attributes
unfolding attributes_text
text_of_some attributes others first is = rw is (sym (joined 32 attribute_text first others))

pub returns-in_default : goal.returns-in_default
unfolding attributes_text
returns-in_default g c = rw c.in_default.ensures.steps.0 c.put.ensures

pub loop-attr-init : goal.loop-attr-init
loop-attr-init g c =
    let first = attribute_of c.in-Some.first in
    let all = c.in-Some.ensures.steps.0 ∙ ap (λ (left : Split). first ∷ left.attributes) (sym c.into_iter-attr-iterator.ensures.into_iter_gives) in
    (attribute_text first, c.put_attribute.ensures, text_of_some c.args.attributes.attributes _ first all)

pub loop-attr-preserved : goal.loop-attr-preserved
loop-attr-preserved g c =
    let law : Joins g.W.Sink = record { joined = g.met.W.Sink.joined } in
    let so_far = c.loop-attr.invariant in
    let one = 32 ∷ attribute_text (attribute_of c.in-Some-attr.attr) in
    let behind = flat_map (λ a. 32 ∷ attribute_text a) c.next-in-loop-attr.new.self.attributes in (
      so_far.0 ++ one,
      and_then law so_far.1 (and_then law c.put-in-loop-attr.ensures c.put_attribute-in-loop-attr.ensures),
      append_assoc so_far.0 one behind
          ∙ sym (ap (λ (left : List Attribute). so_far.0 ++ flat_map (λ a. 32 ∷ attribute_text a) left) c.in-Some-attr.ensures.steps.0)
          ∙ so_far.2,
    )

pub returns : goal.returns
returns g c =
    let so_far = c.loop-attr.invariant in
    let all : so_far.0 ≡ attributes_text c.args.attributes.attributes =
    sym (append-nil so_far.0)
    ∙ sym (ap (λ (left : List Attribute). so_far.0 ++ flat_map (λ a. 32 ∷ attribute_text a) left) c.in-None.ensures.steps.0)
    ∙ so_far.2
    in
    rw all at so_far.1
