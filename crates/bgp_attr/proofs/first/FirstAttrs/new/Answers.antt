use Rattle.bgp_attr.proofs.FirstNoted.{noted, all_noted}
use Rattle.bgp_attr.specs.Field.{attribute_of}
use Rattle.bgp_attr.specs.First.{first_at}
use Rattle.bgp_attr.proofs.first.FirstAttrs.new.Goals as goal

pub loop-attr-preserved : goal.loop-attr-preserved
loop-attr-preserved c = λ t.
    noted (first_at c.loop-attr.first) (first_at c.note.new.self) (attribute_of c.in-Some.attr) c.loop-attr.attr-iterator.attributes c.next.new.self.attributes t _
    c.in-Some.ensures.steps.0 (c.note.ensures.next t) (c.loop-attr.invariant t)

pub returns : goal.returns
returns c = record {
  first = λ i t. all_noted (first_at c.loop-attr.first) c.loop-attr.attr-iterator.attributes t _ c.in-None.ensures.steps.0 (c.loop-attr.invariant t) i;
}
