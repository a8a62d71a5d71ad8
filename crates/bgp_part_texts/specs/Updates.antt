-- Parts of an UPDATE that say different things have different texts.
use Rattle.std.specs.Prelude.{◌<◌, Bool, [], map}
use Rattle.std.specs.List.{AllByRecursion}
use Rattle.hex.specs.Hex.{IsBytes}
use Rattle.bgp_attr.specs.Field.{Attribute}
use Rattle.bgp_parts.specs.declared.attribute.AttributeFault.{AttributeFault}
use Rattle.bgp_parts.specs.declared.attribute.AttributeFault.TheVariants as faults
use Rattle.bgp_parts.specs.UpdateParts.{Faulty, Overrun, Part}
use Rattle.bgp_why_parts.specs.Updates.{update_parts_text}
use Rattle.bgp_part_texts.specs.OneText.{ShownTextsDiffer, TextsDiffer}

-- an attribute of a type, of which nothing else is told
abbrev pub of_type : Attribute → Attribute
of_type a = record { flags = 0; kind = a.kind; value = [] }

-- what of an attribute a fault is about: its type, and the flags or the value that is wrong
abbrev pub concerned : AttributeFault → Attribute → Attribute
concerned faults.Flags a = record (of_type a) { flags = a.flags }
concerned faults.Value a = record (of_type a) { value = a.value }
concerned faults.DiscardedValue a = record (of_type a) { value = a.value }
concerned fault a = of_type a

-- what a part says: of an attribute no more than its fault is about
abbrev pub said : Part → Part
said (Faulty a fault) = Faulty (concerned fault a) fault
said part = part

-- what is an octet on the wire is one
abbrev pub HasOctets : Part → Type 0
HasOctets (Faulty a fault) = (a.flags < 256) × (a.kind < 256) × IsBytes a.value
HasOctets (Overrun kind) = kind < 256
HasOctets part = Unit {0}

-- of an UPDATE that was sent, or received
abbrev pub UpdatePartsDiffer : Type 0
UpdatePartsDiffer =
    (is_sent : Bool)
    → TextsDiffer (AllByRecursion HasOctets) (update_parts_text is_sent) (map said)

abbrev pub ShownUpdatePartsDiffer : Type 0
ShownUpdatePartsDiffer =
    (is_sent : Bool)
    → ShownTextsDiffer (AllByRecursion HasOctets) (update_parts_text is_sent) (map said)
