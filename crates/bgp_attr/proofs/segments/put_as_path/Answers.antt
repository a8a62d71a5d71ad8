use Rattle.std.proofs.Common.{◌≤◌, ◌+◌, length, subst, sym, vec_len, vec_capacity}
use Rattle.bgp_path.specs.AsPath.{PathSegment}
use Rattle.bgp_attr.specs.Segments.{segment_octets}
use Rattle.bgp_attr.specs.Values.{wire_segment}
use Rattle.bgp_attr.proofs.Filled.{filled_all, filled_room, filled_with}
use Rattle.bgp_attr.proofs.segments.put_as_path.Goals as goal

pub put_segment-requires : goal.put_segment-requires
put_segment-requires g c =
    let octets = λ (s : PathSegment). segment_octets (wire_segment c.args.as4 s) in
    let next = c.segment-item.result in
    let room = filled_room octets c.args.segments.now c.loop-segment.segment-index next _ _ _ _ _ _ c.loop-segment-test.true c.requires c.loop-segment.invariant in
    subst (λ (s : PathSegment). vec_len c.loop-segment.out + length (octets s) ≤ vec_capacity c.loop-segment.out) (sym c.segment-item.is) room

pub returns-clause-items : goal.returns-clause-items
returns-clause-items g c =
    (filled_all (λ s. segment_octets (wire_segment c.args.as4 s)) c.args.segments.now c.loop-segment.segment-index _ _ _ _ _ _ c.loop-segment.auto.segment-index-end c.loop-segment-test.false c.loop-segment.invariant).items

pub returns-clause-len : goal.returns-clause-len
returns-clause-len g c =
    (filled_all (λ s. segment_octets (wire_segment c.args.as4 s)) c.args.segments.now c.loop-segment.segment-index _ _ _ _ _ _ c.loop-segment.auto.segment-index-end c.loop-segment-test.false c.loop-segment.invariant).len

pub loop-segment-preserved : goal.loop-segment-preserved
loop-segment-preserved g c =
    filled_with (λ s. segment_octets (wire_segment c.args.as4 s)) c.args.segments.now c.loop-segment.segment-index _ _ _ _ _ _ _ _ _ _ _ c.loop-segment-test.true c.segment-item.is
    c.loop-segment.invariant c.put_segment.ensures.items c.put_segment.ensures.len c.put_segment.ensures.capacity
