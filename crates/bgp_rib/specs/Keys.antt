-- How a table keeps destinations: by family, and of each family those without a path identifier and
-- those with one by themselves. So a key needs neither a family nor the room of the longest kind.
use Rattle.std.specs.Prelude.{◌≡◌, ◌≤◌, ◌==◌, ◌++◌, ℕ, Bool, List, Some, length, map}
use Rattle.std.specs.declared.cmp.Ordering.{Ordering}
use Rattle.std.specs.Ordering.{eq_of_both, nat_cmp, on, then_cmp}
use Rattle.bgp_prefix.specs.declared.family.Family.{Family}
use Rattle.bgp_prefix.specs.declared.family.Family.TheVariants.{V4, V6}
use Rattle.bgp_prefix.specs.declared.address.Address.{Address}
use Rattle.bgp_prefix.specs.Address.{address_number, bit_count, family_of}
use Rattle.bgp_prefix.specs.Prefix.{PrefixBits, address_of, lowest_address, prefix_of}
use Rattle.bgp_update.specs.declared.destination.Destination.{Destination}
use Rattle.bgp_update.specs.Plain.{plain}
use Rattle.bgp_rib.specs.declared.keys.Identified.{Identified}

-- the prefixes of IPv4 and IPv6 of these bits
abbrev pub v4_prefix : List Bool → PrefixBits
v4_prefix bits = record { family = V4; bits = bits }

abbrev pub v6_prefix : List Bool → PrefixBits
v6_prefix bits = record { family = V6; bits = bits }

-- their order, which is that of the prefixes: by the lowest address, then by length
abbrev pub bits_number : Family → List Bool → ℕ
bits_number family bits = address_number (lowest_address family bits)

abbrev pub bits_cmp : Family → List Bool → List Bool → Ordering
bits_cmp family = then_cmp (on (bits_number family) nat_cmp) (on length nat_cmp)

abbrev pub bits_eq : Family → List Bool → List Bool → Bool
bits_eq family = eq_of_both (on (bits_number family) ◌==◌) (on length ◌==◌)

-- an address is the lowest of those that have so many first bits in common
pub record IsLowest (address : Address) (count : ℕ) : Type 0 where
  pub fits : count ≤ bit_count (family_of address)
  pub lowest : address_of (prefix_of address count) ≡ address

-- the destination of a prefix and an identifier
abbrev pub with_id : PrefixBits → ℕ → Destination
with_id prefix number = record { prefix = prefix; path = Some number }

-- the destinations of the four kinds of keys
abbrev pub v4_plain : List Bool → Destination
v4_plain bits = plain (v4_prefix bits)

abbrev pub v4_identified : Identified (List Bool) → Destination
v4_identified key = with_id (v4_prefix key.prefix) key.id

abbrev pub v6_plain : List Bool → Destination
v6_plain bits = plain (v6_prefix bits)

abbrev pub v6_identified : Identified (List Bool) → Destination
v6_identified key = with_id (v6_prefix key.prefix) key.id

-- the entries, with a function of its key in each key's place
abbrev pub keyed : {J K V : Type 0} → (J → K) → List (J × V) → List (K × V)
keyed f entries = map (λ e. (f e.0, e.1)) entries

-- the entries of four maps by their destinations, which ascend in this order
abbrev pub joined : {V : Type 0} → List (List Bool × V) → List (Identified (List Bool) × V)
    → List (List Bool × V) → List (Identified (List Bool) × V) → List (Destination × V)
joined es fs gs hs =
    keyed v4_plain es ++ (keyed v4_identified fs ++ (keyed v6_plain gs ++ keyed v6_identified hs))
