-- Equality of two paths as a test, which is what `==` answers.
use Rattle.std.specs.Prelude.{◌≡◌, ◌↔◌, ℕ, Bool, true, false, ◌&&◌, ◌==◌, nat_eq, List, IsTrue}
use Rattle.std.specs.Bool.{beq}
use Rattle.std.specs.Option.{option_eq}
use Rattle.std.specs.Cmp.Lexicographic.{pointwise}
use Rattle.bgp_path.specs.declared.path.Origin.{Origin}
use Rattle.bgp_path.specs.declared.path.Origin.TheVariants.{Igp, Egp, Incomplete}
use Rattle.bgp_path.specs.declared.path.NextHop.{NextHop}
use Rattle.bgp_path.specs.declared.path.NextHop.TheVariants.{V4, V6, V6WithLinkLocal}
use Rattle.bgp_path.specs.declared.path.Aggregator.{Aggregator}
use Rattle.bgp_path.specs.declared.large_community.LargeCommunity.{LargeCommunity}
use Rattle.bgp_path.specs.AsPath.{PathSegment}
use Rattle.bgp_path.specs.LargeCommunities.{same_large_community}
use Rattle.bgp_path.specs.Path.{PathValue}
use Rattle.bgp_path.specs.Same.{same_segment, same_path}

abbrev pub same_origin : Origin → Origin → Bool
same_origin Igp Igp = true
same_origin Egp Egp = true
same_origin Incomplete Incomplete = true
same_origin _ _ = false

abbrev pub same_next_hop : NextHop → NextHop → Bool
same_next_hop (V4 a) (V4 b) = a == b
same_next_hop (V6 a) (V6 b) = a == b
same_next_hop (V6WithLinkLocal a c) (V6WithLinkLocal b d) = (a == b) && (c == d)
same_next_hop _ _ = false

abbrev pub same_aggregator : Aggregator → Aggregator → Bool
same_aggregator a b = (a.as_number == b.as_number) && (a.address == b.address)

-- the attributes that each route has, the ones that it may have, and the lists
abbrev pub same_mandatory : PathValue → PathValue → Bool
same_mandatory a b =
    same_origin a.origin b.origin
    && same_next_hop a.next_hop b.next_hop
    && same_path a.as_path b.as_path

abbrev pub same_optional : PathValue → PathValue → Bool
same_optional a b =
    option_eq nat_eq a.multi_exit_disc b.multi_exit_disc
    && option_eq nat_eq a.local_pref b.local_pref
    && beq a.atomic_aggregate b.atomic_aggregate
    && option_eq same_aggregator a.aggregator b.aggregator
    && option_eq nat_eq a.originator_id b.originator_id

abbrev pub same_lists : PathValue → PathValue → Bool
same_lists a b =
    pointwise nat_eq a.communities b.communities
    && pointwise nat_eq a.cluster_list b.cluster_list
    && pointwise nat_eq a.extended_communities b.extended_communities
    && pointwise same_large_community a.large_communities b.large_communities

-- two path values
abbrev pub same_value : PathValue → PathValue → Bool
same_value a b = same_mandatory a b && same_optional a b && same_lists a b

-- `==` is true exactly of equal values: of segments, AS paths, lists of numbers and of
-- large communities, and paths
abbrev pub EqualityIsReal : Type 0
EqualityIsReal =
    ((s t : PathSegment) → IsTrue (same_segment s t) ↔ (s ≡ t))
    × ((p q : List PathSegment) → IsTrue (same_path p q) ↔ (p ≡ q))
    × ((xs ys : List ℕ) → IsTrue (pointwise nat_eq xs ys) ↔ (xs ≡ ys))
    × ((xs ys : List LargeCommunity)
    → IsTrue (pointwise same_large_community xs ys) ↔ (xs ≡ ys))
    × ((a b : PathValue) → IsTrue (same_value a b) ↔ (a ≡ b))
