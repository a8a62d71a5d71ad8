-- The tests of segments and AS paths are true exactly of equal values, which the laws of their `==`
-- cite. Nothing here has to be believed: it stands in specs/ since `ghost laws` may cite no proofs.
use Rattle.std.specs.Prelude.{◌≡◌, List, Decides, refl}
use Rattle.std.specs.Cmp.{IsEquivalence, IsPartialEquivalence, partial_equiv_from_equiv, decided}
use Rattle.std.specs.Cmp.Lexicographic.{pointwise_decides, bytes_decides}
use Rattle.std.proofs.lemmas.Bool.Decides.{Decides-and}
use Rattle.bgp_path.specs.declared.as_path.SegmentKind.{SegmentKind}
use Rattle.bgp_path.specs.declared.as_path.SegmentKind.TheVariants.{Set, Sequence}
use Rattle.bgp_path.specs.AsPath.{PathSegment}
use Rattle.bgp_path.specs.Same.{same_kind, same_segment, same_path}

same_kind_decides : (x y : SegmentKind) → Decides (same_kind x y) (x ≡ y)
same_kind_decides Set Set = (λ _. refl, λ _. refl)
same_kind_decides Set Sequence = (λ e. absurd cc, λ e. absurd cc)
same_kind_decides Sequence Set = (λ e. absurd cc, λ e. absurd cc)
same_kind_decides Sequence Sequence = (λ _. refl, λ _. refl)

pub same_segment_decides : (s t : PathSegment) → Decides (same_segment s t) (s ≡ t)
same_segment_decides s t =
    let kinds = same_kind_decides s.kind t.kind in
    let parts = Decides-and _ _ kinds (bytes_decides s.numbers t.numbers) in
    let parted = λ (e : s ≡ t). parts.1 (λ i. (e i).kind, λ i. (e i).numbers) in
    (λ e. let p = parts.0 e in rw (p.0, p.1) refl, parted)

pub same_segment_equiv : IsEquivalence same_segment
same_segment_equiv = decided same_segment same_segment_decides

pub same_segment_per : IsPartialEquivalence same_segment
same_segment_per = partial_equiv_from_equiv same_segment_equiv

pub same_path_decides : (p q : List PathSegment) → Decides (same_path p q) (p ≡ q)
same_path_decides = pointwise_decides same_segment_decides

pub same_path_equiv : IsEquivalence same_path
same_path_equiv = decided same_path same_path_decides

pub same_path_per : IsPartialEquivalence same_path
same_path_per = partial_equiv_from_equiv same_path_equiv
