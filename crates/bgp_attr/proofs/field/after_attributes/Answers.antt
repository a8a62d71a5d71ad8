use Rattle.std.proofs.Common.{arith, ◌∙◌, sym, length-drop}
use Rattle.bgp_attr.specs.Split.{attribute_len}
use Rattle.bgp_attr.proofs.Steps.{header_some, rest_step, rest_stop}
use Rattle.bgp_attr.proofs.field.after_attributes.Goals as goal

pub loop-after-smaller : goal.loop-after-smaller
loop-after-smaller c =
    let rest = c.loop-after.rest.now in
    rw c.in-Some.ensures.rest (omega (arith, c.in-Some.ensures.whole, header_some rest, length-drop (attribute_len rest) rest))

pub loop-after-preserved : goal.loop-after-preserved
loop-after-preserved c =
    rw c.in-Some.ensures.rest (sym (rest_step c.loop-after.rest.now c.in-Some.ensures.whole) ∙ c.loop-after.invariant)

pub returns : goal.returns
returns c = sym (rest_stop _ c.in_default.ensures.none) ∙ c.loop-after.invariant
