-- Large communities that were noted: a set of their numbers.
use Rattle.std.specs.Prelude.{◌≡◌, ℕ, List}
use Rattle.std.specs.declared.cmp.Ordering.{Ordering}
use Rattle.std.specs.Ordering.{nat_cmp, ordering_then}
use Rattle.std.specs.BTreeSet.{BTreeSet, contains}
use Rattle.bgp_path.specs.declared.large_community.LargeCommunity.{LargeCommunity}
use Rattle.bgp_path.specs.LargeCommunities.{has_large_community}

-- the three numbers of one
abbrev pub numbers_of : LargeCommunity → ℕ × ℕ × ℕ
numbers_of c = (c.global_administrator, c.local_data_part_1, c.local_data_part_2)

-- their order
abbrev pub numbers_cmp : ℕ × ℕ × ℕ → ℕ × ℕ × ℕ → Ordering
numbers_cmp x y =
    ordering_then (ordering_then (nat_cmp x.0 y.0) (nat_cmp x.1 y.1)) (nat_cmp x.2 y.2)

-- the set has the numbers of just these
abbrev pub AreNoted : BTreeSet (ℕ × ℕ × ℕ) → List LargeCommunity → Type 0
AreNoted noted kept =
    (c : LargeCommunity) → contains numbers_cmp noted (numbers_of c) ≡ has_large_community kept c
