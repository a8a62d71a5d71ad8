-- Items, of which lists of capabilities and attributes consist, in JSON.
use Rattle.std.specs.Prelude.{◌++◌, ℕ, List, [], ◌∷◌, codes, drop, slice_index}
use Rattle.std.specs.Fmt.{decimal}
use Rattle.byteorder.specs.Endian.{big_number}
use Rattle.json.specs.Json.{Json, boolean, string}
use Rattle.bgp_prefix.specs.declared.address.Address.TheVariants.{V4}
use Rattle.bgp_names.specs.Capabilities.{way_names}
use Rattle.bgp_names.specs.Naming.{name_in, name_or}
use Rattle.bgp_values.specs.Items.{has_bits}
use Rattle.bgp_values.specs.declared.items.Item.{Item}
use Rattle.bgp_values.specs.declared.items.Item.TheVariants.{HopFamily, RestartFamily, PathFamily}
use Rattle.bgp_values.specs.declared.items.Item.TheVariants.{LongLivedFamily, AsNumber2, AsNumber4}
use Rattle.bgp_values.specs.declared.items.Item.TheVariants.{Community, ExtendedCommunity}
use Rattle.bgp_values.specs.declared.items.Item.TheVariants.{LargeCommunity, Cluster}
use Rattle.bgp_json_values.specs.Objects.{array_of, number_of, object_of}
use Rattle.bgp_json_values.specs.Texts.{address_json, octets_json}

-- a family by its numbers
abbrev pub family_members : ℕ → ℕ → List (List ℕ × Json)
family_members afi safi =
    (codes "afi", number_of afi) ∷ (codes "safi", number_of safi) ∷ []

-- AFI 2 octets, SAFI 1
abbrev pub family_at : List ℕ → List (List ℕ × Json)
family_at octets = family_members (big_number 2 octets) (slice_index octets 2)

-- whether the state of a family's routes was preserved: the first bit of its flags
abbrev pub preserved_member : ℕ → List ℕ × Json
preserved_member flags = (codes "preserved", boolean (has_bits 128 flags))

-- what a system does with path identifiers, by Send/Receive
abbrev pub way_json : ℕ → Json
way_json way = string (name_or [] (name_in way_names way))

abbrev pub item_json : Item → List ℕ → Json
-- AFI 2, SAFI 2, AFI of the next hop 2
item_json HopFamily octets =
    object_of (family_members (big_number 2 octets) (big_number 2 (drop 2 octets))
    ++ (codes "next_hop_afi", number_of (big_number 2 (drop 4 octets))) ∷ [])
-- AFI 2, SAFI 1, flags 1
item_json RestartFamily octets =
    object_of (family_at octets ++ preserved_member (slice_index octets 3) ∷ [])
-- AFI 2, SAFI 1, Send/Receive 1
item_json PathFamily octets =
    object_of (family_at octets ++ (codes "way", way_json (slice_index octets 3)) ∷ [])
-- AFI 2, SAFI 1, flags 1, stale time 3
item_json LongLivedFamily octets =
    object_of (family_at octets ++ preserved_member (slice_index octets 3)
    ∷ (codes "time", number_of (big_number 3 (drop 4 octets))) ∷ [])
item_json AsNumber2 octets = number_of (big_number 2 octets)
item_json AsNumber4 octets = number_of (big_number 4 octets)
-- the two halves in decimal
item_json Community octets =
    string (decimal (big_number 2 octets) ++ (codes ":" ++ decimal (big_number 2 (drop 2 octets))))
item_json ExtendedCommunity octets = octets_json octets
-- the three numbers in decimal
item_json LargeCommunity octets =
    string (decimal (big_number 4 octets) ++ (codes ":" ++ (decimal (big_number 4 (drop 4 octets))
    ++ (codes ":" ++ decimal (big_number 4 (drop 8 octets))))))
item_json Cluster octets = address_json (V4 (big_number 4 octets))

abbrev pub items_json : Item → List (List ℕ) → Json
items_json item items = array_of (item_json item) items
