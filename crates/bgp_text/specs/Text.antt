-- The lines that a stream prints, as octets: one a message, and one for what is no message. A text
-- is a line without its end, or a part of one.
use Rattle.std.specs.Prelude.{◌++◌, ℕ, Bool, List, [], ◌∷◌, if◌then◌else◌, is_some, map, codes}
use Rattle.std.specs.Prelude.{Option, None, Some}
use Rattle.std.specs.List.{flat_map, join_with_byte}
use Rattle.std.specs.Fmt.{decimal}
use Rattle.hex.specs.Hex.{encode_lower}
use Rattle.bgp_prefix.specs.declared.address.Address.TheVariants.{V4}
use Rattle.bgp_prefix.specs.Text.{address_text, prefix_text}
use Rattle.bgp_update.specs.AttrField.{Attribute}
use Rattle.bgp_wire.specs.declared.header.HeaderFaults.{HeaderFaults}
use Rattle.bgp_update.specs.Triplet.{Triplet}
use Rattle.bgp_update.specs.Open.{OpenFields}
use Rattle.bgp_update.specs.OpenFault.{open_fault_number}
use Rattle.bgp_update.specs.DeclaredOpenFault.{OpenFault}
use Rattle.bgp_update.specs.declared.destination.Destination.{Destination}
use Rattle.bgp_update.specs.Parts.{UpdateParts}
use Rattle.bgp_text.specs.Message.{Message, open_message, malformed_open_message, update_message}
use Rattle.bgp_text.specs.Message.{malformed_update_message, notification_message}
use Rattle.bgp_text.specs.Message.{keepalive_message}

-- octets in hexadecimal, two lower-case digits each; a dash for none
unfoldable pub hex_text : List ℕ → List ℕ
hex_text [] = codes "-"
hex_text (octet ∷ octets) = encode_lower (octet ∷ octets)

-- a capability after a blank: its code and its value (RFC 5492, 4)
unfoldable pub capability_text : Triplet → List ℕ
capability_text capability =
    codes " " ++ (decimal capability.code ++ (codes ":" ++ hex_text capability.value))

-- capabilities in their order; a dash for none
unfoldable pub capabilities_text : List Triplet → List ℕ
capabilities_text [] = codes " -"
capabilities_text (capability ∷ capabilities) = flat_map capability_text (capability ∷ capabilities)

-- an OPEN: the AS number, the hold time, the identifier and the capabilities (RFC 4271, 4.2)
unfoldable pub open_text : OpenFields → List ℕ
open_text fields =
    codes "open as " ++ (decimal fields.my_as ++ (codes " hold " ++ (decimal fields.hold
    ++ (codes " id " ++ (address_text (V4 fields.id) ++ (codes " caps"
    ++ capabilities_text fields.capabilities))))))

-- an OPEN whose form is wrong: the number of its fault (RFC 4271, 6.2)
unfoldable pub malformed_open_text : OpenFault → List ℕ
malformed_open_text fault = codes "open malformed " ++ decimal (open_fault_number fault)

-- the identifier of a path, in decimal behind `#`; nothing where it has none
unfoldable pub path_id_text : Option ℕ → List ℕ
path_id_text None = []
path_id_text (Some number) = codes "#" ++ decimal number

-- a destination: its prefix, and which of the paths to it (RFC 7911, 3)
unfoldable pub destination_text : Destination → List ℕ
destination_text destination =
    prefix_text destination.prefix ++ path_id_text destination.path

-- destinations with blanks (octet 32) between them; a dash for none
unfoldable pub destinations_text : List Destination → List ℕ
destinations_text [] = codes "-"
destinations_text (destination ∷ destinations) =
    join_with_byte 32 (map destination_text (destination ∷ destinations))

-- a path attribute: its flags octet and its type in decimal, and its value
unfoldable pub attribute_text : Attribute → List ℕ
attribute_text a =
    decimal a.flags ++ (codes "." ++ (decimal a.kind ++ (codes ":" ++ hex_text a.value)))

-- attributes with blanks between them; a dash for none
unfoldable pub attributes_text : List Attribute → List ℕ
attributes_text [] = codes "-"
attributes_text (a ∷ attributes) = join_with_byte 32 (map attribute_text (a ∷ attributes))

-- an UPDATE: withdrawn destinations, path attributes in wire order, and announced destinations (RFC
-- 4271, 4.3)
unfoldable pub update_text : UpdateParts → List ℕ
update_text parts =
    codes "update " ++ (destinations_text parts.withdrawn
    ++ (codes " | " ++ (attributes_text parts.attributes
    ++ (codes " | " ++ destinations_text parts.nlri))))

-- a NOTIFICATION: its error code and subcode, and its data (RFC 4271, 4.5)
unfoldable pub notification_text : ℕ → ℕ → List ℕ → List ℕ
notification_text code subcode detail =
    codes "notification " ++ (decimal code ++ (codes "/" ++ (decimal subcode
    ++ (codes " " ++ hex_text detail))))

-- the line of a message without its end
abbrev pub text_of : Message → List ℕ
text_of (open_message fields) = open_text fields
text_of (malformed_open_message fault) = malformed_open_text fault
text_of (update_message parts) = update_text parts
text_of malformed_update_message = codes "update malformed"
text_of (notification_message code subcode detail) = notification_text code subcode detail
text_of keepalive_message = codes "keepalive"

-- the line of a message
abbrev pub line_of : Message → List ℕ
line_of message = text_of message ++ codes "\n"

-- a subcode of Message Header Error after a blank, where it is at fault (RFC 4271, 6.1)
abbrev pub subcode_text : Bool → List ℕ → List ℕ
subcode_text at_fault subcode = if at_fault then subcode else []

-- the subcodes of a header's faults, ascending, each after a blank
abbrev pub subcodes_text : HeaderFaults → List ℕ
subcodes_text faults =
    subcode_text faults.marker (codes " 1/1")
    ++ (subcode_text (is_some faults.length) (codes " 1/2")
    ++ subcode_text (is_some faults.kind) (codes " 1/3"))

-- a stream that stops being BGP: the offset of the faulty header, and the subcodes of its faults
unfoldable pub fault_line : ℕ → HeaderFaults → List ℕ
fault_line offset faults =
    codes "fault at " ++ (decimal offset ++ (subcodes_text faults ++ codes "\n"))

-- a stream that ends inside a message: how many octets of it came
unfoldable pub rest_line : ℕ → List ℕ
rest_line count = codes "rest " ++ (decimal count ++ codes "\n")
