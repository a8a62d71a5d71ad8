-- The lines of what is no message, in words: a header with faults, a rest, a change of state.
use Rattle.std.specs.Prelude.{◌++◌, ℕ, Bool, List, [], ◌∷◌, if◌then◌else◌, is_some, length}
use Rattle.std.specs.Prelude.{codes}
use Rattle.std.specs.Fmt.{decimal}
use Rattle.hex.specs.Hex.{encode_lower}
use Rattle.bgp_wire.specs.declared.header.HeaderFaults.{HeaderFaults}
use Rattle.bgp_wire.specs.Header.{header_of, length_of, type_of}
use Rattle.bgp_names.specs.Errors.{subcode_name}
use Rattle.bgp_names.specs.Messages.{type_text}
use Rattle.bgp_names.specs.States.{state_name}
use Rattle.bgp_lines.specs.Joined.{joined}

-- a subcode of Message Header Error, if it is at fault
abbrev pub subcode_if : Bool → ℕ → List ℕ
subcode_if at_fault subcode = if at_fault then subcode ∷ [] else []

-- the subcodes of a header's faults, ascending (RFC 4271, 6.1)
abbrev pub fault_subcodes : HeaderFaults → List ℕ
fault_subcodes faults =
    subcode_if faults.marker 1
    ++ (subcode_if (is_some faults.length) 2 ++ subcode_if (is_some faults.kind) 3)

-- a fault in numbers and in words, as in `1/2 Bad Message Length`
abbrev pub fault_text : ℕ → List ℕ
fault_text subcode = codes "1/" ++ (decimal subcode ++ (codes " " ++ subcode_name 1 subcode))

abbrev pub faults_text : List ℕ → List ℕ
faults_text subcodes = joined (codes ", ") fault_text subcodes

-- what stands in a header, and octets
unfoldable pub header_text : List ℕ → List ℕ → List ℕ
header_text header octets =
    codes ": type " ++ (type_text (type_of header) ++ (codes ", length "
    ++ (decimal (length_of header) ++ (codes ", octets " ++ encode_lower octets))))

-- a message whose header has faults, in a record: all of its octets
unfoldable pub named_fault : HeaderFaults → List ℕ → List ℕ
named_fault faults octets =
    codes "fault " ++ (faults_text (fault_subcodes faults) ++ header_text (header_of octets) octets)

-- a header with faults, at this offset of a stream
unfoldable pub named_stream_fault : ℕ → HeaderFaults → List ℕ → List ℕ
named_stream_fault offset faults header =
    codes "fault at " ++ (decimal offset ++ (codes " " ++ (faults_text (fault_subcodes faults)
    ++ header_text header header)))

-- what a stream has behind its last whole message
unfoldable pub named_rest : List ℕ → List ℕ
named_rest octets = codes "rest " ++ (decimal (length octets) ++ (codes ": " ++ encode_lower octets))

-- a change from one state to another
unfoldable pub named_change : ℕ → ℕ → List ℕ
named_change old new = codes "change " ++ (state_name old ++ (codes " to " ++ state_name new))
