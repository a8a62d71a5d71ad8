-- The texts of items, of which lists of capabilities and attributes consist.
use Rattle.std.specs.Prelude.{◌++◌, ℕ, List, [], codes, drop, if◌then◌else◌, slice_index}
use Rattle.std.specs.Fmt.{decimal}
use Rattle.byteorder.specs.Endian.{big_number}
use Rattle.hex.specs.Hex.{encode_lower}
use Rattle.bgp_prefix.specs.declared.address.Address.TheVariants.{V4}
use Rattle.bgp_prefix.specs.Text.{address_text}
use Rattle.bgp_names.specs.Capabilities.{way_names}
use Rattle.bgp_names.specs.Families.{afi_name, family_name}
use Rattle.bgp_names.specs.Naming.{name_in, name_or}
use Rattle.bgp_values.specs.Items.{has_bits}
use Rattle.bgp_values.specs.declared.items.Item.{Item}
use Rattle.bgp_values.specs.declared.items.Item.TheVariants.{HopFamily, RestartFamily, PathFamily}
use Rattle.bgp_values.specs.declared.items.Item.TheVariants.{LongLivedFamily, AsNumber2, AsNumber4}
use Rattle.bgp_values.specs.declared.items.Item.TheVariants.{Community, ExtendedCommunity}
use Rattle.bgp_values.specs.declared.items.Item.TheVariants.{LargeCommunity, Cluster}

-- the state of a family's routes was preserved over a restart: the first bit
abbrev pub preserved_text : ℕ → List ℕ
preserved_text flags = if has_bits 128 flags then codes " preserved" else []

-- what a system does with path identifiers, by Send/Receive
abbrev pub way_text : ℕ → List ℕ
way_text way = name_or [] (name_in way_names way)

-- AFI 2 octets, SAFI 1
abbrev pub family_text : List ℕ → List ℕ
family_text octets = family_name (big_number 2 octets) (slice_index octets 2)

unfoldable pub item_text : Item → List ℕ → List ℕ
-- AFI 2, SAFI 2, AFI of the next hop 2
item_text HopFamily octets =
    family_name (big_number 2 octets) (big_number 2 (drop 2 octets))
    ++ (codes " via " ++ afi_name (big_number 2 (drop 4 octets)))
-- AFI 2, SAFI 1, flags 1
item_text RestartFamily octets = family_text octets ++ preserved_text (slice_index octets 3)
-- AFI 2, SAFI 1, Send/Receive 1
item_text PathFamily octets =
    family_text octets ++ (codes " " ++ way_text (slice_index octets 3))
-- AFI 2, SAFI 1, flags 1, stale time 3
item_text LongLivedFamily octets =
    family_text octets ++ (codes " " ++ (decimal (big_number 3 (drop 4 octets))
    ++ (codes " seconds" ++ preserved_text (slice_index octets 3))))
item_text AsNumber2 octets = decimal (big_number 2 octets)
item_text AsNumber4 octets = decimal (big_number 4 octets)
-- the two halves in decimal
item_text Community octets =
    decimal (big_number 2 octets) ++ (codes ":" ++ decimal (big_number 2 (drop 2 octets)))
item_text ExtendedCommunity octets = encode_lower octets
-- the three numbers in decimal
item_text LargeCommunity octets =
    decimal (big_number 4 octets) ++ (codes ":" ++ (decimal (big_number 4 (drop 4 octets))
    ++ (codes ":" ++ decimal (big_number 4 (drop 8 octets)))))
item_text Cluster octets = address_text (V4 (big_number 4 octets))
