use Rattle.std.proofs.Common.{◌∙◌, sym, arith, length-drop}
use Rattle.bgp_attr.specs.Segments.{segment_len}
use Rattle.bgp_attr.proofs.WholeSegments.{has, segments_end, segments_step, segments_stop}
use Rattle.bgp_attr.proofs.segments.are_segments.Goals as goal

pub returns-in_default : goal.returns-in_default
returns-in_default c =
    sym (segments_stop c.args.most c.args.width c.loop-rest.rest.now c.loop-rest-test.ensures c.in_default.ensures.none) ∙ c.loop-rest.invariant

pub loop-rest-smaller : goal.loop-rest-smaller
loop-rest-smaller c =
    let octets = c.loop-rest.rest.now in
    let whole = (has c.args.most c.args.width octets c.in-Some.ensures.some).whole in
    rw c.in-Some.ensures.rest (omega (arith, whole, length-drop (segment_len c.args.width octets) octets))

pub loop-rest-preserved : goal.loop-rest-preserved
loop-rest-preserved c =
    rw c.in-Some.ensures.rest (sym (segments_step c.args.most c.args.width c.loop-rest.rest.now c.in-Some.ensures.some) ∙ c.loop-rest.invariant)

pub returns : goal.returns
returns c = sym (segments_end c.args.most c.args.width c.loop-rest.rest.now c.loop-rest-test.ensures) ∙ c.loop-rest.invariant
