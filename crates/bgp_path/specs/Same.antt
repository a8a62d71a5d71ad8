-- Equality of AS paths as a test, which is what `==` answers: it is true exactly of equal values.
use Rattle.std.specs.Prelude.{Bool, true, false, ◌&&◌, nat_eq, List}
use Rattle.std.specs.Cmp.Lexicographic.{pointwise}
use Rattle.bgp_path.specs.declared.as_path.SegmentKind.{SegmentKind}
use Rattle.bgp_path.specs.declared.as_path.SegmentKind.TheVariants.{Set, Sequence}
use Rattle.bgp_path.specs.AsPath.{PathSegment}

abbrev pub same_kind : SegmentKind → SegmentKind → Bool
same_kind Set Set = true
same_kind Set Sequence = false
same_kind Sequence Set = false
same_kind Sequence Sequence = true

-- two segments
abbrev pub same_segment : PathSegment → PathSegment → Bool
same_segment s t = same_kind s.kind t.kind && pointwise nat_eq s.numbers t.numbers

-- two paths
abbrev pub same_path : List PathSegment → List PathSegment → Bool
same_path p q = pointwise same_segment p q
