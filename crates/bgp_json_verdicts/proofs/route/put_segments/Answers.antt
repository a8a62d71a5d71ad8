use Rattle.std.specs.List.{flat_map}
use Rattle.std.proofs.Common.{◌+◌, drop, ◌∙◌, ◌++◌, List, ap, refl}
use Rattle.bgp_json_verdicts.proofs.Parts.{none_left, one_more, path_tokens, segment_tokens}
use Rattle.std.proofs.Math.ListN.{drop_of_length-le}
use Rattle.json.specs.Token.{Token}
use Rattle.bgp_json_verdicts.proofs.route.put_segments.Goals as goal

pub loop-segment-init : goal.loop-segment-init
loop-segment-init g c = (refl, ap (λ (ts : List Token). c.args.writer.now.tokens ++ ts) (path_tokens c.args.segments.now))

pub loop-segment-preserved : goal.loop-segment-preserved
loop-segment-preserved g c =
    let so_far = c.loop-segment.invariant in
    let i = c.loop-segment.segment-index in
    let put = c.in_ok-put_segment.ensures in (
      put.before ∙ so_far.0,
      ap (λ (ts : List Token). ts ++ flat_map segment_tokens (drop (i + 1) c.args.segments.now)) put.ok
          ∙ one_more segment_tokens c.loop-segment.writer.tokens _ c.args.segments.now c.loop-segment.segment-index c.segment-item.result c.loop-segment-test.true c.segment-item.is so_far.1,
    )

pub returns : goal.returns
returns g c =
    let so_far = c.loop-segment.invariant in
    record {
      ok = none_left segment_tokens c.loop-segment.writer.tokens _ c.args.segments.now c.loop-segment.segment-index (drop_of_length-le c.args.segments.now c.loop-segment-test.false) so_far.1;
      before = so_far.0;
    }
