use Rattle.std.proofs.Common.{◌∙◌, ap, sym}
use Rattle.bgp_attr.specs.Segments.{are_segments, number_width}
use Rattle.bgp_attr.proofs.PathRead.{has_first, one_pushed}
use Rattle.bgp_attr.proofs.WholeSegments.{segments_step}
use Rattle.bgp_attr.proofs.segments.read_as_path.Goals as goal

pub read_segment-requires : goal.read_segment-requires
read_segment-requires g c = has_first (number_width c.args.as4) c.loop-rest.rest.now (c.loop-rest-test.ensures) c.loop-rest.invariant.whole

pub split_segment-requires : goal.split_segment-requires
split_segment-requires g c = has_first (number_width c.args.as4) c.loop-rest.rest.now (c.loop-rest-test.ensures) c.loop-rest.invariant.whole

pub loop-rest-preserved : goal.loop-rest-preserved
loop-rest-preserved g c =
    let some = c.loop-rest-test.ensures in
    let first = has_first (number_width c.args.as4) c.loop-rest.rest.now some c.loop-rest.invariant.whole in
    record {
      so_far = one_pushed (number_width c.args.as4) c.loop-rest.path c.push_segment.new.path _ c.loop-rest.rest.now c.split_segment.result.1.now _ some c.in_ok-read_segment.ensures c.in_ok-push_segment.ensures c.split_segment.ensures.rest c.loop-rest.invariant.so_far;
      whole = ap (are_segments 4 (number_width c.args.as4)) c.split_segment.ensures.rest ∙ sym (segments_step 4 (number_width c.args.as4) c.loop-rest.rest.now first) ∙ c.loop-rest.invariant.whole;
    }
