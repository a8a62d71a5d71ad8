use Rattle.std.proofs.Common.{◌≡◌, ◌++◌, ◌∷◌, List, [], sym}
use Rattle.std.proofs.Math.ListN.{drop_of_length-le}
use Rattle.std.proofs.lemmas.List.{nil_from_length}
use Rattle.std.specs.List.{flat_map}
use Rattle.bgp_path.specs.AsPath.{PathSegment}
use Rattle.bgp_text.specs.RouteText.{segment_text, as_path_text}
use Rattle.bgp_text.proofs.Joined.{joined, one_more, none_left}
use Rattle.bgp_text.proofs.Pieces.{Joins, and_then}
use Rattle.bgp_text.proofs.routes.put_as_path.Goals as goal

-- the segments behind the first
text_of_some : (segments others : List PathSegment) (first : PathSegment) → segments ≡ first ∷ others
    → segment_text first ++ flat_map (λ s. 32 ∷ segment_text s) others ≡ as_path_text segments
unfolding as_path_text
text_of_some segments others first is = rw is (sym (joined 32 segment_text first others))

pub returns-in_default : goal.returns-in_default
unfolding as_path_text
returns-in_default g c =
    let none : c.args.segments.now ≡ [] = nil_from_length c.args.segments.now (c.in_default.ensures {u = tt}).cases in
    rw none c.put.ensures

pub loop-segment-init : goal.loop-segment-init
loop-segment-init g c =
    (segment_text c.in-Some.first.now, c.put_segment.ensures, text_of_some c.args.segments.now c.in-Some.others.now c.in-Some.first.now c.in-Some.ensures.cases.0)

pub loop-segment-preserved : goal.loop-segment-preserved
loop-segment-preserved g c =
    let law : Joins g.W.Sink = record { joined = g.met.W.Sink.joined } in
    let so_far = c.loop-segment.invariant in
    let segment = c.segment-item.result in (
      so_far.0 ++ (32 ∷ segment_text segment),
      and_then law so_far.1 (and_then law c.put-in-loop-segment.ensures c.put_segment-in-loop-segment.ensures),
      one_more (λ s. 32 ∷ segment_text s) so_far.0 (as_path_text c.args.segments.now) c.in-Some.others.now c.loop-segment.segment-index segment c.loop-segment-test.true c.segment-item.is so_far.2,
    )

pub returns : goal.returns
returns g c =
    let so_far = c.loop-segment.invariant in
    let all : so_far.0 ≡ as_path_text c.args.segments.now =
    none_left (λ s. 32 ∷ segment_text s) so_far.0 (as_path_text c.args.segments.now) c.in-Some.others.now c.loop-segment.segment-index (drop_of_length-le c.in-Some.others.now c.loop-segment-test.false) so_far.2
    in
    rw all at so_far.1
