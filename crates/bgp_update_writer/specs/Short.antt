-- One prefix, with a path that has no list, always has room in a message.
use Rattle.std.specs.Prelude.{◌≡◌, ◌⊎◌, ℕ, List, [], ◌∷◌}
use Rattle.bgp_open.specs.declared.link.Link.{Link}
use Rattle.bgp_path.specs.declared.as_path.SegmentKind.{SegmentKind}
use Rattle.bgp_path.specs.AsPath.{PathSegment}
use Rattle.bgp_path.specs.Path.{PathValue}
use Rattle.bgp_prefix.specs.Prefix.{PrefixBits, IsPrefix}
use Rattle.bgp_prefix.specs.declared.family.Family.{Family}
use Rattle.bgp_update_writer.specs.Refusals.{IsTooLarge}
use Rattle.bgp_update_writer.specs.Update.{Announces, Withdraws}

-- no AS number, or a single one
abbrev pub HasFewNumbers : List PathSegment → Type 0
HasFewNumbers as_path =
    (as_path ≡ [])
    ⊎ ((kind : SegmentKind) × (number : ℕ)
    × (as_path ≡ record { kind = kind; numbers = number ∷ [] } ∷ []))

-- a path with at most one AS number, no communities and no clusters
pub record IsShortPath (path : PathValue) : Type 0 where
  pub as_path : HasFewNumbers path.as_path
  pub communities : path.communities ≡ []
  pub cluster_list : path.cluster_list ≡ []
  pub extended_communities : path.extended_communities ≡ []
  pub large_communities : path.large_communities ≡ []

-- one prefix by such a path, or one that is reachable no more, is never too large
abbrev pub OnePrefixCanBeWritten : Type 0
OnePrefixCanBeWritten =
    (link : Link) (family : Family) (prefix : PrefixBits) → IsPrefix prefix
    → ((path : PathValue) → IsShortPath path
    → ¬ IsTooLarge link (Announces family (prefix ∷ []) path))
    × (¬ IsTooLarge link (Withdraws family (prefix ∷ [])))
