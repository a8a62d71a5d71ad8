-- What the value of a capability says (RFC 5492, 4). It says something if its octets have the form
-- that its code demands.
use Rattle.std.specs.Prelude.{◌==◌, ◌&&◌, ◌||◌, ◌%◌, nat_le, ℕ, Bool, List, [], ◌∷◌}
use Rattle.std.specs.Prelude.{Option, None, Some, if◌then◌else◌, length, take, drop, slice_index}
use Rattle.std.specs.List.{list_all}
use Rattle.byteorder.specs.Endian.{big_number}
use Rattle.bgp_values.specs.Readable.{is_readable}
use Rattle.bgp_values.specs.Pieces.{are_pieces, are_some_pieces}
use Rattle.bgp_values.specs.Items.{has_bits, item_size, items_of}
use Rattle.bgp_values.specs.declared.items.Item.TheVariants.{HopFamily, RestartFamily, PathFamily}
use Rattle.bgp_values.specs.declared.items.Item.TheVariants.{LongLivedFamily}
use Rattle.bgp_values.specs.declared.capability_value.CapabilityValue as declared
use Rattle.bgp_values.specs.declared.capability_value.CapabilityValue.TheVariants as variants

pub data CapabilityValue : Type 0 where
  -- the AFI and the SAFI of a family
  family : ℕ → ℕ → CapabilityValue
  -- nothing but that it is there
  offered : CapabilityValue
  -- families, with the AFI of their next hops
  next_hops : List (List ℕ) → CapabilityValue
  -- the number of a role
  role : ℕ → CapabilityValue
  -- whether the system has restarted, whether it offers Graceful NOTIFICATION, in how many seconds
  -- it is back, and families
  restart : Bool → Bool → ℕ → List (List ℕ) → CapabilityValue
  -- an AS number
  as_number : ℕ → CapabilityValue
  -- families, with what is done with their path identifiers
  paths : List (List ℕ) → CapabilityValue
  -- families of Long-Lived Graceful Restart
  long_lived : List (List ℕ) → CapabilityValue
  -- the name of a host, and that of its domain
  names : List ℕ → List ℕ → CapabilityValue

-- AFI 2 octets, reserved 1, SAFI 1 (RFC 4760, 8)
abbrev pub family_value : List ℕ → Option CapabilityValue
family_value octets =
    if length octets == 4 then Some (family (big_number 2 octets) (slice_index octets 3)) else None

-- no octets
abbrev pub offered_value : List ℕ → Option CapabilityValue
offered_value octets = if length octets == 0 then Some offered else None

-- families, one at least (RFC 8950, 4)
abbrev pub next_hops_value : List ℕ → Option CapabilityValue
next_hops_value octets =
    if are_some_pieces (item_size HopFamily) octets
    then Some (next_hops (items_of HopFamily octets)) else None

-- a role, 0 to 4 (RFC 9234, 4.1)
abbrev pub role_value : List ℕ → Option CapabilityValue
role_value octets =
    if (length octets == 1) && nat_le (slice_index octets 0) 4
    then Some (role (slice_index octets 0)) else None

-- two octets of flags, 4 bits, and seconds, 12 bits; then families (RFC 4724, 3; RFC 8538, 2)
abbrev pub restart_value : List ℕ → Option CapabilityValue
restart_value octets =
    if nat_le 2 (length octets) && are_pieces (item_size RestartFamily) (drop 2 octets)
    then Some (restart (has_bits 128 (slice_index octets 0)) (has_bits 64 (slice_index octets 0))
    (big_number 2 octets % 4096) (items_of RestartFamily (drop 2 octets)))
    else None

-- a number of four octets (RFC 6793, 3)
abbrev pub as_number_value : List ℕ → Option CapabilityValue
as_number_value octets = if length octets == 4 then Some (as_number (big_number 4 octets)) else None

-- Send/Receive is 1 to 3 (RFC 7911, 4)
abbrev pub has_way : List ℕ → Bool
has_way octets = nat_le 1 (slice_index octets 3) && nat_le (slice_index octets 3) 3

-- families, one at least, each with a Send/Receive that is known
abbrev pub paths_value : List ℕ → Option CapabilityValue
paths_value octets =
    if are_some_pieces (item_size PathFamily) octets && list_all has_way (items_of PathFamily octets)
    then Some (paths (items_of PathFamily octets)) else None

-- families (RFC 9494, 3)
abbrev pub long_lived_value : List ℕ → Option CapabilityValue
long_lived_value octets =
    if are_pieces (item_size LongLivedFamily) octets
    then Some (long_lived (items_of LongLivedFamily octets)) else None

-- an octet that counts those of a readable text, and what stands behind the text
pub record Counted : Type 0 where
  pub text : List ℕ
  pub rest : List ℕ

abbrev pub counted_in : List ℕ → Option Counted
counted_in [] = None
counted_in (count ∷ octets) =
    if nat_le count (length octets) && is_readable (take count octets)
    then Some (record { text = take count octets; rest = drop count octets }) else None

abbrev pub with_domain : List ℕ → Option Counted → Option CapabilityValue
with_domain host None = None
with_domain host (Some domain) =
    if length domain.rest == 0 then Some (names host domain.text) else None

abbrev pub with_host : Option Counted → Option CapabilityValue
with_host None = None
with_host (Some host) = with_domain host.text (counted_in host.rest)

-- two counted texts, and nothing behind them (draft-walton-bgp-hostname-capability, 3)
abbrev pub names_value : List ℕ → Option CapabilityValue
names_value octets = with_host (counted_in octets)

-- Route Refresh, Extended Message, Enhanced Route Refresh and Prestandard Route Refresh have no
-- octets (RFC 2918, 2; RFC 8654, 3; RFC 7313, 3.1)
abbrev pub is_empty_code : ℕ → Bool
is_empty_code code = (code == 2) || ((code == 6) || ((code == 70) || (code == 128)))

-- what the octets of a capability with this code say
abbrev pub capability_value : ℕ → List ℕ → Option CapabilityValue
capability_value code octets =
    if code == 1 then family_value octets
    else if is_empty_code code then offered_value octets
    else if code == 5 then next_hops_value octets
    else if code == 9 then role_value octets
    else if code == 64 then restart_value octets
    else if code == 65 then as_number_value octets
    else if code == 69 then paths_value octets
    else if code == 71 then long_lived_value octets
    else if code == 73 then names_value octets
    else None

-- what code has for a value
abbrev pub capability_value_of : declared.CapabilityValue → CapabilityValue
capability_value_of (variants.Family afi safi) = family afi safi
capability_value_of variants.Offered = offered
capability_value_of (variants.NextHops octets) = next_hops (items_of HopFamily octets.now)
capability_value_of (variants.Role number) = role number
capability_value_of (variants.Restart restarted notification seconds families) =
    restart restarted notification seconds (items_of RestartFamily families.now)
capability_value_of (variants.AsNumber number) = as_number number
capability_value_of (variants.Paths octets) = paths (items_of PathFamily octets.now)
capability_value_of (variants.LongLived octets) = long_lived (items_of LongLivedFamily octets.now)
capability_value_of (variants.Names host domain) = names host.now domain.now
