use Rattle.std.proofs.Common.{◌∙◌, ◌∷◌, sym, ap}
use Rattle.bgp_update.specs.Segments.{are_segments, number_width}
use Rattle.bgp_update.specs.PathIn.{segment_at}
use Rattle.bgp_update.proofs.WholeSegments.{segments_step}
use Rattle.bgp_values.specs.PathSegments.{segments_of}
use Rattle.bgp_values.proofs.SegmentLists.{one_segment, no_segment, at_end, less, same_segment}
use Rattle.bgp_values.proofs.segments.first_segment.Goals as goal

pub returns-in_default-clause-none : goal.returns-in_default-clause-none
returns-in_default-clause-none c = no_segment _ _ (rw c.number_width.ensures.width at c.in_default.ensures.none)

pub returns-in_default-clause-end : goal.returns-in_default-clause-end
returns-in_default-clause-end c = at_end _ _ (rw c.number_width.ensures.width at c.in_default.ensures.none)

pub segment_at-requires : goal.segment_at-requires
segment_at-requires c = rw c.number_width.ensures.width at c.in-Some.ensures.some

pub returns-clause-some : goal.returns-clause-some
returns-clause-some c =
    let width = number_width c.args.as4 in
    let some = rw c.number_width.ensures.width at c.in-Some.ensures.some in
    let rest = rw c.number_width.ensures.width at c.in-Some.ensures.rest in
    let same = same_segment (segment_at width c.args.octets.now) _ _ _ c.segment_at.ensures.kind c.segment_at.ensures.count c.segment_at.ensures.numbers in
    one_segment _ _ some ∙ (λ i. sym same i ∷ segments_of width (sym rest i))

pub returns-clause-whole : goal.returns-clause-whole
returns-clause-whole c =
    let some = rw c.number_width.ensures.width at c.in-Some.ensures.some in
    let rest = rw c.number_width.ensures.width at c.in-Some.ensures.rest in
    segments_step 4 _ _ some ∙ ap (are_segments 4 (number_width c.args.as4)) (sym rest)

pub returns-clause-shorter : goal.returns-clause-shorter
returns-clause-shorter c =
    let some = rw c.number_width.ensures.width at c.in-Some.ensures.some in
    let rest = rw c.number_width.ensures.width at c.in-Some.ensures.rest in
    rw rest (less _ _ some)
