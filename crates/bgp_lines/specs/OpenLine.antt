-- The line of an OPEN in words (RFC 4271, 4.2; RFC 5492).
use Rattle.std.specs.Prelude.{◌++◌, ℕ, Bool, List, [], Option, None, Some, codes}
use Rattle.std.specs.Prelude.{if◌then◌else◌, is_some}
use Rattle.std.specs.Fmt.{decimal}
use Rattle.bgp_prefix.specs.declared.address.Address.TheVariants.{V4}
use Rattle.bgp_prefix.specs.Text.{address_text}
use Rattle.bgp_open.specs.Open.{OpenFields}
use Rattle.bgp_open.specs.OpenFault.{open_fault_number}
use Rattle.bgp_open.specs.Triplet.{Triplet}
use Rattle.bgp_open.specs.declared.fault.OpenFault.{OpenFault}
use Rattle.bgp_open.specs.declared.fault.OpenFault.TheVariants.{Malformed, Version, Parameter}
use Rattle.bgp_names.specs.Capabilities.{capability_name, capability_names, role_names}
use Rattle.bgp_names.specs.Errors.{subcode_name}
use Rattle.bgp_names.specs.Families.{family_name}
use Rattle.bgp_names.specs.Naming.{name_in, name_or}
use Rattle.bgp_text.specs.Text.{hex_text}
use Rattle.bgp_lines.specs.Quoting.{quoted_text}
use Rattle.bgp_lines.specs.ItemText.{item_text}
use Rattle.bgp_lines.specs.Joined.{each_behind, joined}
use Rattle.bgp_values.specs.CapabilityValue.{CapabilityValue, family, offered, next_hops, role}
use Rattle.bgp_values.specs.CapabilityValue.{restart, as_number, paths, long_lived, names}
use Rattle.bgp_values.specs.CapabilityValue.{capability_value}
use Rattle.bgp_values.specs.declared.items.Item.TheVariants.{HopFamily, RestartFamily, PathFamily}
use Rattle.bgp_values.specs.declared.items.Item.TheVariants.{LongLivedFamily}

-- the name of a role
abbrev pub role_text : ℕ → List ℕ
role_text number = name_or [] (name_in role_names number)

-- a value behind the name of its capability
unfoldable pub capability_value_text : CapabilityValue → List ℕ
capability_value_text (family afi safi) = codes " " ++ family_name afi safi
capability_value_text offered = []
capability_value_text (next_hops items) =
    codes " " ++ joined (codes ", ") (item_text HopFamily) items
capability_value_text (role number) = codes " " ++ role_text number
capability_value_text (restart restarted notification seconds items) =
    codes " " ++ (decimal seconds ++ (codes " seconds"
    ++ ((if restarted then codes " restarted" else [])
    ++ ((if notification then codes " notification" else [])
    ++ each_behind (codes ", ") (item_text RestartFamily) items))))
capability_value_text (as_number number) = codes " " ++ decimal number
capability_value_text (paths items) = codes " " ++ joined (codes ", ") (item_text PathFamily) items
capability_value_text (long_lived items) = each_behind (codes ", ") (item_text LongLivedFamily) items
capability_value_text (names host domain) =
    codes " " ++ (quoted_text host ++ (codes " " ++ quoted_text domain))

-- the code of the capability has a name
abbrev pub is_known_code : ℕ → Bool
is_known_code code = is_some (name_in capability_names code)

-- octets without a value, in hexadecimal; behind the word `octets` if the name alone would say that
-- they have one
abbrev pub hidden_capability_text : ℕ → List ℕ → List ℕ
hidden_capability_text code octets =
    (if is_known_code code then codes " octets " else codes " ") ++ hex_text octets

unfoldable pub said_text : Triplet → Option CapabilityValue → List ℕ
said_text capability None = hidden_capability_text capability.code capability.value
said_text capability (Some value) = capability_value_text value

-- a capability: its name, and what it says
unfoldable pub named_capability : Triplet → List ℕ
named_capability capability =
    capability_name capability.code
    ++ said_text capability (capability_value capability.code capability.value)

-- an OPEN: its AS number, hold time, identifier and capabilities
unfoldable pub named_open : OpenFields → List ℕ
named_open fields =
    codes "open as " ++ (decimal fields.my_as ++ (codes " hold " ++ (decimal fields.hold
    ++ (codes " id " ++ (address_text (V4 fields.id)
    ++ each_behind (codes " | ") named_capability fields.capabilities)))))

-- what is wrong with the form of an OPEN (RFC 4271, 6.2)
abbrev pub open_fault_name : OpenFault → List ℕ
open_fault_name Malformed = codes "Malformed"
open_fault_name Version = subcode_name 2 1
open_fault_name Parameter = subcode_name 2 4

-- an OPEN whose form is wrong: its fault, and the octets behind its header
unfoldable pub named_malformed_open : OpenFault → List ℕ → List ℕ
named_malformed_open fault body =
    codes "open malformed " ++ (decimal (open_fault_number fault) ++ (codes " "
    ++ (open_fault_name fault ++ (codes ": " ++ hex_text body))))
