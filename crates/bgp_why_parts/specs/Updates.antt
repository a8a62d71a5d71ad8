-- What keeps an UPDATE from being clean, part by part (RFC 4271, 4.3 and 5; RFC 7606, 3).
use Rattle.std.specs.Prelude.{◌++◌, ℕ, Bool, List, [], ◌∷◌, codes, if◌then◌else◌}
use Rattle.std.specs.Fmt.{decimal}
use Rattle.bgp_prefix.specs.declared.family.Family.{Family}
use Rattle.bgp_prefix.specs.declared.family.Family.TheVariants.{V4, V6}
use Rattle.bgp_attr.specs.declared.types.AttrType.{AttrType}
use Rattle.bgp_attr.specs.Field.{Attribute}
use Rattle.bgp_attr.specs.Types.{type_number}
use Rattle.bgp_names.specs.Attributes.{attribute_name}
use Rattle.bgp_parts.specs.declared.attribute.AttributeFault.{AttributeFault}
use Rattle.bgp_parts.specs.declared.attribute.AttributeFault.TheVariants as faults
use Rattle.bgp_parts.specs.UpdateParts as told
use Rattle.bgp_names.specs.Text.{hex_text}

-- the flags octet
abbrev pub flags_text : ℕ → List ℕ
flags_text flags = codes " with wrong flags " ++ decimal flags

-- the value; a dash for an empty one
abbrev pub value_text : List ℕ → List ℕ
value_text value = codes " with wrong value " ++ hex_text value

-- an MP attribute of a family
abbrev pub family_word : Family → List ℕ
family_word V4 = codes "IPv4"
family_word V6 = codes "IPv6"

abbrev pub family_fault : Family → List ℕ → List ℕ
family_fault family fault = codes " of " ++ (family_word family ++ fault)

-- from, or to, a peer that gets no such attribute
abbrev pub external_text : Bool → List ℕ
external_text is_sent =
    if is_sent then codes " to an external peer" else codes " from an external peer"

-- what is wrong with an attribute of an UPDATE that was sent, or received, after its name
abbrev pub fault_text : Bool → Attribute → AttributeFault → List ℕ
fault_text is_sent a faults.Unknown = codes " marked well-known and unknown"
fault_text is_sent a faults.Flags = flags_text a.flags
fault_text is_sent a faults.FourOctetAsNumbers = codes " though AS numbers have 4 octets"
fault_text is_sent a faults.FromExternalPeer = external_text is_sent
fault_text is_sent a faults.Value = value_text a.value
fault_text is_sent a faults.DiscardedValue = value_text a.value ++ codes ", to be discarded"
fault_text is_sent a faults.BelowThreeOctets = codes " of fewer than 3 octets"
fault_text is_sent a (faults.NotInUse family) =
    family_fault family (codes ", which is not in use")
fault_text is_sent a (faults.Contents family) = family_fault family (codes " malformed")
fault_text is_sent a faults.Repeated = codes " repeated"

-- a part
unfoldable pub part_text : Bool → told.Part → List ℕ
part_text is_sent told.LengthsRunOver = codes "lengths that do not fit"
part_text is_sent told.WithdrawnMalformed = codes "withdrawn prefixes malformed"
part_text is_sent told.NlriMalformed = codes "NLRI malformed"
part_text is_sent (told.Faulty a fault) = attribute_name a.kind ++ fault_text is_sent a fault
part_text is_sent told.AttributesCut = codes "the last attribute cut short"
part_text is_sent (told.Overrun kind) =
    attribute_name kind ++ codes " past the end of the attributes"
part_text is_sent (told.Missing t) = attribute_name (type_number t) ++ codes " missing"
part_text is_sent told.BaseNotInUse = codes "IPv4 prefixes, which are not in use"

-- parts: this stands before the first, and `; ` before each other
abbrev pub update_parts_by : Bool → List ℕ → List told.Part → List ℕ
update_parts_by is_sent before [] = []
update_parts_by is_sent before (part ∷ parts) =
    before ++ (part_text is_sent part ++ update_parts_by is_sent (codes "; ") parts)

abbrev pub update_parts_text : Bool → List told.Part → List ℕ
update_parts_text is_sent parts = update_parts_by is_sent [] parts
