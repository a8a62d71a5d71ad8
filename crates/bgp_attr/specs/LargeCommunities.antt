-- The value of LARGE_COMMUNITY: large communities of twelve octets each (RFC 8092, 3).
use Rattle.std.specs.Prelude.{ℕ, zero, suc, ◌/◌, ◌==◌, if◌then◌else◌, List, [], ◌∷◌, ◌++◌}
use Rattle.std.specs.Prelude.{length, drop, Option, None, Some}
use Rattle.std.specs.List.{flat_map}
use Rattle.std.specs.Option.{option_map_or}
use Rattle.byteorder.specs.Endian.{big_bytes, big_number}
use Rattle.bgp_path.specs.declared.large_community.LargeCommunity.{LargeCommunity}
use Rattle.bgp_path.specs.LargeCommunities.{without_repeats}

-- ---- written

-- one: its three numbers
abbrev pub large_community_octets : LargeCommunity → List ℕ
large_community_octets c =
    big_bytes 4 c.global_administrator
    ++ (big_bytes 4 c.local_data_part_1 ++ big_bytes 4 c.local_data_part_2)

-- the value of a list: nothing is written for an empty one
abbrev pub large_communities_octets : List LargeCommunity → Option (List ℕ)
large_communities_octets cs =
    if length cs == 0 then None else Some (flat_map large_community_octets cs)

-- ---- read

-- the one at the front
abbrev pub large_community_at : List ℕ → LargeCommunity
large_community_at octets = record {
  global_administrator = big_number 4 octets;
  local_data_part_1 = big_number 4 (drop 4 octets);
  local_data_part_2 = big_number 4 (drop 8 octets);
}

-- the first `count` of them
abbrev pub large_communities_at : ℕ → List ℕ → List LargeCommunity
large_communities_at zero octets = []
large_communities_at (suc count) octets =
    large_community_at octets ∷ large_communities_at count (drop 12 octets)

-- all of them
abbrev pub large_communities_in : List ℕ → List LargeCommunity
large_communities_in octets = large_communities_at (length octets / 12) octets

-- the list that an attribute says, empty where there is none: of equal ones the first alone
-- (RFC 8092, 3)
abbrev pub large_communities_from : Option (List ℕ) → List LargeCommunity
large_communities_from value =
    option_map_or (λ octets. without_repeats (large_communities_in octets)) value []
