-- The one UPDATE that says an update: IPv4 in the base fields, IPv6 in an MP attribute, which comes
-- first (RFC 4271, 4.3; RFC 4760, 3 and 4; RFC 7606, 5.1).
use Rattle.std.specs.Prelude.{◌++◌, ℕ, List, [], ◌∷◌, length}
use Rattle.std.specs.List.{flat_map}
use Rattle.byteorder.specs.Endian.{big_bytes}
use Rattle.bgp_prefix.specs.declared.family.Family.TheVariants as families
use Rattle.bgp_prefix.specs.Prefix.{PrefixBits, prefix_octets}
use Rattle.bgp_open.specs.declared.link.Link.{Link}
use Rattle.bgp_wire.specs.Message.{message_octets}
use Rattle.bgp_path.specs.declared.path.NextHop.{NextHop}
use Rattle.bgp_path.specs.declared.path.NextHop.TheVariants as hops
use Rattle.bgp_attr.specs.declared.types.AttrType.TheVariants as types
use Rattle.bgp_attr.specs.Field.{Attribute, attribute_octets}
use Rattle.bgp_attr.specs.Writing.{attribute_with, path_attributes}
use Rattle.bgp_update.specs.Found.{side_of}
use Rattle.bgp_update.specs.Sections.{Sections, section_octets}
use Rattle.bgp_update_writer.specs.Update.{UpdateValue, Announces, Withdraws}

-- prefixes, one after another
abbrev pub nlri_octets : List PrefixBits → List ℕ
nlri_octets prefixes = flat_map prefix_octets prefixes

abbrev pub hop_octets : NextHop → List ℕ
hop_octets (hops.V4 address) = big_bytes 4 address
hop_octets (hops.V6 address) = big_bytes 16 address
hop_octets (hops.V6WithLinkLocal address link_local) =
    big_bytes 16 address ++ big_bytes 16 link_local

-- the value of MP_REACH_NLRI for IPv6: AFI 2 and SAFI 1, the length of the next hop and it, a
-- reserved octet, and the prefixes
abbrev pub reach_octets : NextHop → List PrefixBits → List ℕ
reach_octets hop prefixes =
    0 ∷ 2 ∷ 1 ∷ length (hop_octets hop) ∷ (hop_octets hop ++ 0 ∷ nlri_octets prefixes)

abbrev pub reach_attribute : NextHop → List PrefixBits → Attribute
reach_attribute hop prefixes = attribute_with types.MpReachNlri (reach_octets hop prefixes)

-- the value of MP_UNREACH_NLRI for IPv6: AFI 2 and SAFI 1, and the prefixes
abbrev pub unreach_octets : List PrefixBits → List ℕ
unreach_octets prefixes = 0 ∷ 2 ∷ 1 ∷ nlri_octets prefixes

abbrev pub unreach_attribute : List PrefixBits → Attribute
unreach_attribute prefixes = attribute_with types.MpUnreachNlri (unreach_octets prefixes)

-- the path attributes
abbrev pub written_attributes : Link → UpdateValue → List Attribute
written_attributes link (Announces families.V4 prefixes path) = path_attributes (side_of link) path
written_attributes link (Announces families.V6 prefixes path) =
    reach_attribute path.next_hop prefixes ∷ path_attributes (side_of link) path
written_attributes link (Withdraws families.V4 prefixes) = []
written_attributes link (Withdraws families.V6 prefixes) =
    unreach_attribute prefixes ∷ []

-- the Path Attributes field
abbrev pub field_octets : Link → UpdateValue → List ℕ
field_octets link value = flat_map attribute_octets (written_attributes link value)

-- the Withdrawn Routes field
abbrev pub withdrawn_octets : UpdateValue → List ℕ
withdrawn_octets (Announces family prefixes path) = []
withdrawn_octets (Withdraws families.V4 prefixes) = nlri_octets prefixes
withdrawn_octets (Withdraws families.V6 prefixes) = []

-- the Network Layer Reachability Information field
abbrev pub announced_octets : UpdateValue → List ℕ
announced_octets (Announces families.V4 prefixes path) = nlri_octets prefixes
announced_octets (Announces families.V6 prefixes path) = []
announced_octets (Withdraws family prefixes) = []

abbrev pub written_sections : Link → UpdateValue → Sections
written_sections link value = record {
  withdrawn = withdrawn_octets value;
  attributes = field_octets link value;
  nlri = announced_octets value;
}

-- the whole message
abbrev pub update_octets : Link → UpdateValue → List ℕ
update_octets link value = message_octets 2 (section_octets (written_sections link value))
