use Rattle.std.proofs.Common.{◌∙◌, length, ap, arith}
use Rattle.bgp_path.specs.AsPath.{PathSegment}
use Rattle.bgp_attr.specs.Segments.{segment_octets}
use Rattle.bgp_attr.specs.Values.{wire_segment}
use Rattle.bgp_attr.proofs.Filled.{length_all, longer}
use Rattle.bgp_attr.proofs.segments.as_path_len.Goals as goal

pub loop-segment-preserved : goal.loop-segment-preserved
loop-segment-preserved g c =
    let octets = λ (s : PathSegment). segment_octets (wire_segment c.args.as4 s) in
    let more = longer octets c.args.segments.now c.loop-segment.segment-index c.segment-item.result c.loop-segment-test.true in
    let one = ap (λ (s : PathSegment). length (octets s)) c.segment-item.is in
    (omega (arith, more, one, c.wire_len.ensures.len), omega (arith, c.wire_len.ensures.bound))

pub returns-clause-len : goal.returns-clause-len
returns-clause-len g c =
    let octets = λ (s : PathSegment). segment_octets (wire_segment c.args.as4 s) in
    c.loop-segment.invariant.0 ∙ length_all octets c.args.segments.now c.loop-segment.segment-index c.loop-segment.auto.segment-index-end c.loop-segment-test.false
