use Rattle.std.proofs.Common.{◌≡◌, ◌∙◌, ◌++◌, List, [], refl, sym, ap, append-nil, append_assoc, codes}
use Rattle.bgp_text.proofs.Pieces.{Joins, and_then, nothing_yet}
use Rattle.bgp_lines.specs.Joined.{each_behind}
use Rattle.bgp_lines.specs.AttributeLine.{segment_text}
use Rattle.bgp_values.specs.PathSegments.{segment_of, segments_of}
use Rattle.bgp_attr.specs.Segments.{WireSegment, number_width}
use Rattle.bgp_lines.proofs.attribute_line.put_more_segments.Goals as goal

pub loop-segment-init : goal.loop-segment-init
loop-segment-init g c =
    ([], nothing_yet g.W.Sink g.met.W.Sink.nothing c.args.lines.now.outlet c.args.lines.now.held.items, refl)

pub loop-segment-preserved : goal.loop-segment-preserved
loop-segment-preserved g c =
    let law : Joins g.W.Sink = record { joined = g.met.W.Sink.joined } in
    let so_far = c.loop-segment.invariant in
    let one = codes " " ++ segment_text c.args.as4 (segment_of c.in-Some.segment) in
    let behind = each_behind (codes " ") (segment_text c.args.as4) (segments_of (number_width c.args.as4) c.in-Some.others.now) in (
      so_far.0 ++ one,
      and_then law so_far.1 (and_then law c.put.ensures c.put_segment.ensures),
      append_assoc so_far.0 one behind
          ∙ sym (ap (λ (left : List WireSegment). so_far.0 ++ each_behind (codes " ") (segment_text c.args.as4) left) (c.in-Some.ensures.some))
          ∙ so_far.2,
    )

pub returns : goal.returns
returns g c =
    let so_far = c.loop-segment.invariant in
    let all : so_far.0 ≡ each_behind (codes " ") (segment_text c.args.as4) (segments_of (number_width c.args.as4) c.args.octets.now) =
    sym (append-nil so_far.0)
    ∙ sym (ap (λ (left : List WireSegment). so_far.0 ++ each_behind (codes " ") (segment_text c.args.as4) left) (c.in_default.ensures.none))
    ∙ so_far.2
    in
    rw all at so_far.1
