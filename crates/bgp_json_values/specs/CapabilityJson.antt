-- A capability in JSON (RFC 5492, 4).
use Rattle.std.specs.Prelude.{◌++◌, ℕ, Bool, true, List, [], ◌∷◌, bit_or, codes, drop, flat_map}
use Rattle.std.specs.Prelude.{if◌then◌else◌, length, slice_index, take}
use Rattle.byteorder.specs.Endian.{big_bytes}
use Rattle.json.specs.Json.{Json, boolean, string}
use Rattle.bgp_open.specs.Triplet.{Triplet}
use Rattle.bgp_names.specs.Capabilities.{capability_names, role_names}
use Rattle.bgp_names.specs.Naming.{name_in, name_or}
use Rattle.bgp_values.specs.Items.{has_bits}
use Rattle.bgp_values.specs.declared.items.Item.TheVariants.{HopFamily, RestartFamily, PathFamily}
use Rattle.bgp_values.specs.declared.items.Item.TheVariants.{LongLivedFamily}
use Rattle.bgp_values.specs.CapabilityValue.{CapabilityValue, family, offered, next_hops, role}
use Rattle.bgp_values.specs.CapabilityValue.{restart, as_number, paths, long_lived, names}
use Rattle.bgp_values.specs.CapabilityValue.{capability_value}
use Rattle.bgp_json_values.specs.Objects.{array_of, number_of, object_of}
use Rattle.bgp_json_values.specs.Texts.{name_json}
use Rattle.bgp_json_values.specs.ItemJson.{family_members, items_json}
use Rattle.bgp_json_values.specs.Octets.{value_or_octets}

-- ---- values

-- the name of a role
abbrev pub role_json : ℕ → Json
role_json number = string (name_or [] (name_in role_names number))

abbrev pub capability_value_json : CapabilityValue → Json
capability_value_json (family afi safi) = object_of (family_members afi safi)
capability_value_json offered = boolean true
capability_value_json (next_hops items) = items_json HopFamily items
capability_value_json (role number) = role_json number
capability_value_json (restart restarted notification seconds items) =
    object_of ((codes "restarted", boolean restarted) ∷ (codes "notification", boolean notification)
    ∷ (codes "time", number_of seconds) ∷ (codes "families", items_json RestartFamily items) ∷ [])
capability_value_json (as_number number) = number_of number
capability_value_json (paths items) = items_json PathFamily items
capability_value_json (long_lived items) = items_json LongLivedFamily items
capability_value_json (names host domain) =
    object_of ((codes "host", string host) ∷ (codes "domain", string domain) ∷ [])

-- ---- the octets that a value spells: what is reserved is 0

-- an octet of flags with this bit, if it is set
abbrev pub flag : Bool → ℕ → ℕ
flag is_set bit = if is_set then bit else 0

-- a family whose flags, in its fourth octet, are the first bit alone
abbrev pub spelled_family : List ℕ → List ℕ
spelled_family octets =
    take 3 octets ++ flag (has_bits 128 (slice_index octets 3)) 128 ∷ drop 4 octets

-- a text behind the octet that counts its octets
abbrev pub spelled_text : List ℕ → List ℕ
spelled_text text = length text ∷ text

abbrev pub itself : List ℕ → List ℕ
itself octets = octets

abbrev pub spelled_capability : CapabilityValue → List ℕ
spelled_capability (family afi safi) = big_bytes 2 afi ++ 0 ∷ safi ∷ []
spelled_capability offered = []
spelled_capability (next_hops items) = flat_map itself items
spelled_capability (role number) = number ∷ []
spelled_capability (restart restarted notification seconds items) =
    big_bytes 2 (bit_or (bit_or (flag restarted 32768) (flag notification 16384)) seconds)
    ++ flat_map spelled_family items
spelled_capability (as_number number) = big_bytes 4 number
spelled_capability (paths items) = flat_map itself items
spelled_capability (long_lived items) = flat_map spelled_family items
spelled_capability (names host domain) = spelled_text host ++ spelled_text domain

-- ---- capabilities

abbrev pub capability_members : Triplet → List (List ℕ × Json)
capability_members c =
    (codes "code", number_of c.code)
    ∷ (codes "name", name_json (codes "capability ") capability_names c.code)
    ∷ value_or_octets capability_value_json spelled_capability (capability_value c.code c.value)
    c.value

abbrev pub capability_json : Triplet → Json
capability_json c = object_of (capability_members c)

abbrev pub capabilities_json : List Triplet → Json
capabilities_json capabilities = array_of capability_json capabilities
