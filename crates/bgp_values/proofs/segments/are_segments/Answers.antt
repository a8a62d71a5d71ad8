use Rattle.std.proofs.Common.{◌∙◌, sym}
use Rattle.bgp_values.proofs.segments.are_segments.Goals as goal

pub loop-others-preserved : goal.loop-others-preserved
loop-others-preserved c = sym c.in-Some.ensures.whole ∙ c.loop-others.invariant

pub returns : goal.returns
returns c = c.is_empty.ensures ∙ sym c.in_default.ensures.end ∙ c.loop-others.invariant
