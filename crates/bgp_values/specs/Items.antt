-- Items of one size, of which lists of capabilities and attributes consist.
use Rattle.std.specs.Prelude.{◌==◌, ℕ, Bool, List, bit_and}
use Rattle.bgp_values.specs.Pieces.{pieces_of}
use Rattle.bgp_values.specs.declared.items.Item.{Item}
use Rattle.bgp_values.specs.declared.items.Item.TheVariants.{HopFamily, RestartFamily, PathFamily}
use Rattle.bgp_values.specs.declared.items.Item.TheVariants.{LongLivedFamily, AsNumber2, AsNumber4}
use Rattle.bgp_values.specs.declared.items.Item.TheVariants.{Community, ExtendedCommunity}
use Rattle.bgp_values.specs.declared.items.Item.TheVariants.{LargeCommunity, Cluster}

-- how many octets an item has
abbrev pub item_size : Item → ℕ
item_size HopFamily = 6  -- RFC 8950, 4
item_size RestartFamily = 4  -- RFC 4724, 3
item_size PathFamily = 4  -- RFC 7911, 4
item_size LongLivedFamily = 7  -- RFC 9494, 3
item_size AsNumber2 = 2  -- RFC 4271, 4.3
item_size AsNumber4 = 4  -- RFC 6793, 3
item_size Community = 4  -- RFC 1997
item_size ExtendedCommunity = 8  -- RFC 4360, 2
item_size LargeCommunity = 12  -- RFC 8092, 3
item_size Cluster = 4  -- RFC 4456, 8

-- the octets of each item
abbrev pub items_of : Item → List ℕ → List (List ℕ)
items_of item octets = pieces_of (item_size item) octets

-- whether these bits of an octet of flags are set
abbrev pub has_bits : ℕ → ℕ → Bool
has_bits bits flags = bit_and flags bits == bits
