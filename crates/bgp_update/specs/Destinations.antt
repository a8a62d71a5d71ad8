-- A list of destinations: a Withdrawn Routes or NLRI field (RFC 4271, 4.3), or that of an MP
-- attribute (RFC 4760, 5). A destination is a prefix; or, where routes of its family are
-- identified, a path identifier of four octets and a prefix (RFC 7911, 3).
use Rattle.std.specs.Prelude.{◌≡◌, ◌≤◌, ◌↔◌, ℕ, zero, suc, ◌+◌, ◌/◌, ◌==◌, Bool, ◌&&◌, nat_le}
use Rattle.std.specs.Prelude.{List, [], ◌∷◌, if◌then◌else◌, length, take, drop, slice_index}
use Rattle.std.specs.Prelude.{Option, None, Some}
use Rattle.std.specs.Option.{option_map}
use Rattle.byteorder.specs.Endian.{big_number}
use Rattle.bgp_open.specs.Family.{Family}
use Rattle.bgp_open.specs.Address.{bit_count}
use Rattle.bgp_open.specs.Bits.{bits_of_octets}
use Rattle.bgp_open.specs.Prefix.{PrefixBits, BeginsWithPrefix}
use Rattle.bgp_open.specs.Families.{contains}
use Rattle.bgp_open.specs.declared.route_form.RouteForm.{RouteForm}
use Rattle.bgp_update.specs.declared.destination.Destination.{Destination}

-- routes of the family are identified in this form
abbrev pub is_identified : RouteForm → Family → Bool
is_identified form family = contains form.identified family

-- how many octets of a path identifier stand before each prefix
abbrev pub id_len : Bool → ℕ
id_len identified = if identified then 4 else 0

-- which path to the prefix the octets name, by its number
abbrev pub path_at : Bool → List ℕ → Option ℕ
path_at identified octets =
    if identified then Some (big_number 4 octets) else None

-- the octets begin with so many that spell a destination
pub record BeginsWithDestination (identified : Bool) (family : Family) (octets : List ℕ)
    (destination : Destination) (count : ℕ) : Type 0 where
  pub prefix_count : ℕ
  pub identifier : id_len identified ≤ length octets
  pub path : destination.path ≡ path_at identified octets
  pub prefix : BeginsWithPrefix family (drop (id_len identified) octets) destination.prefix
      prefix_count
  pub counted : count ≡ id_len identified + prefix_count

-- the octets are spellings of these destinations, one after another
abbrev pub AreDestinations : Bool → Family → List ℕ → List Destination → Type 0
AreDestinations identified family octets [] = octets ≡ []
AreDestinations identified family octets (destination ∷ destinations) =
    (count : ℕ) × BeginsWithDestination identified family octets destination count
    × AreDestinations identified family (drop count octets) destinations

-- how many octets spell the prefix at the front
unfoldable pub prefix_len : List ℕ → ℕ
prefix_len octets = 1 + (slice_index octets 0 + 7) / 8

-- whether a prefix stands there: its length is one of an address, and it doesn't run over
unfoldable pub has_prefix : Family → List ℕ → Bool
has_prefix family octets =
    nat_le (slice_index octets 0) (bit_count family) && nat_le (prefix_len octets) (length octets)

-- the prefix at the front
unfoldable pub first_prefix : Family → List ℕ → PrefixBits
first_prefix family octets =
    record { family = family; bits = take (slice_index octets 0) (bits_of_octets (drop 1 octets)) }

-- how many octets spell the destination at the front
unfoldable pub destination_len : Bool → List ℕ → ℕ
destination_len identified octets =
    id_len identified + prefix_len (drop (id_len identified) octets)

-- whether a destination stands there: a prefix behind the whole of an identifier
unfoldable pub has_destination : Bool → Family → List ℕ → Bool
has_destination identified family octets = has_prefix family (drop (id_len identified) octets)

-- the destination at the front
unfoldable pub first_destination : Bool → Family → List ℕ → Destination
first_destination identified family octets = record {
  prefix = first_prefix family (drop (id_len identified) octets);
  path = path_at identified octets;
}

-- the destinations of a field, at most n of them
abbrev pub destinations_in : ℕ → Bool → Family → List ℕ → Option (List Destination)
destinations_in zero identified family octets = if length octets == 0 then Some [] else None
destinations_in (suc n) identified family octets =
    if length octets == 0
    then Some []
    else (if has_destination identified family octets
    then option_map (λ destinations. first_destination identified family octets ∷ destinations)
    (destinations_in n identified family (drop (destination_len identified octets) octets))
    else None)

-- the destinations of a field: none where it is syntactically incorrect, since an identifier is cut
-- or nothing stands behind it, a length is above that of an address, or the last prefix runs over
-- (RFC 7606, 5.3)
unfoldable pub destinations_of : Bool → Family → List ℕ → Option (List Destination)
destinations_of identified family octets =
    destinations_in (length octets) identified family octets

-- the function reads what the relation says
abbrev pub ReadsDestinations : Type 0
ReadsDestinations =
    (identified : Bool) (family : Family) (octets : List ℕ) (destinations : List Destination)
    → AreDestinations identified family octets destinations
    ↔ (destinations_of identified family octets ≡ Some destinations)
