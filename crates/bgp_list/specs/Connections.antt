-- The lines of a connection, and those of what is refused in a recording.
use Rattle.std.specs.Prelude.{◌++◌, ℕ, List, Option, None, Some, codes}
use Rattle.std.specs.Fmt.{decimal}
use Rattle.bgp_prefix.specs.Text.{address_text}
use Rattle.bgp_prefix.specs.declared.session.Session.{Session}
use Rattle.segments.specs.declared.found.Addresses.{Addresses}
use Rattle.streams.specs.declared.connection.Opening.{Opening}
use Rattle.streams.specs.declared.passed.Side.{Side}
use Rattle.streams.specs.declared.passed.Side.TheVariants.{Local, Peer}
use Rattle.bgp_clock.specs.When.{when_text}
use Rattle.bgp_ended.specs.Endpoint.{endpoint_text}
use Rattle.bgp_ended.specs.DeclaredEndpoint.{Endpoint}
use Rattle.bgp_import.specs.ListText.{other_side}
use Rattle.bgp_import.specs.Refusals.{refusal_name, refusal_number, refusal_packet}
use Rattle.bgp_import.specs.declared.refusal.Refusal.{Refusal}
use Rattle.bgp_ended.specs.EndedLine.{ended_line}
use Rattle.bgp_ended.specs.Values.{EndedValue, OutlineValue}
use Rattle.bgp_list.specs.Causes.{cause_text}

-- ---- a connection

-- the end of one of the systems
abbrev pub endpoint_of : Side → Session → Opening → Endpoint
endpoint_of Local session opening =
    record { address = session.local; port = Some opening.local_port }
endpoint_of Peer session opening =
    record { address = session.peer; port = Some opening.peer_port }

-- its number
unfoldable pub number_text : Opening → List ℕ
number_text opening = codes "connection " ++ (decimal opening.number ++ codes ": ")

-- the time and the number of its first packet
unfoldable pub first_text : Opening → List ℕ
first_text opening =
    codes " at " ++ (when_text opening.second opening.micro
    ++ (codes " UTC, packet " ++ decimal opening.packet))

-- these and its ends, whoever opened it first
unfoldable pub opening_text : Session → Opening → List ℕ
opening_text session opening =
    number_text opening ++ (endpoint_text (endpoint_of opening.opened_by session opening)
    ++ (codes " to "
    ++ (endpoint_text (endpoint_of (other_side opening.opened_by) session opening)
    ++ first_text opening)))

-- ---- one that isn't refused

-- the AS number in the OPEN of one of the systems, if it sent one
abbrev pub as_of : Side → OutlineValue → Option ℕ
as_of Local outline = outline.local_as
as_of Peer outline = outline.peer_as

abbrev pub as_text : Option ℕ → List ℕ
as_text None = codes "AS unknown"
as_text (Some number) = codes "AS " ++ decimal number

-- an end with its AS number: `192.0.2.1:179 (AS 65001)`
unfoldable pub numbered_text : Endpoint → Option ℕ → List ℕ
numbered_text end number = endpoint_text end ++ (codes " (" ++ (as_text number ++ codes ")"))

-- that of one of the systems
abbrev pub side_text : Side → Session → Opening → OutlineValue → List ℕ
side_text side session opening outline =
    numbered_text (endpoint_of side session opening) (as_of side outline)

-- its number, its ends with their AS numbers, and its first packet
unfoldable pub outlined_text : Session → Opening → OutlineValue → List ℕ
outlined_text session opening outline =
    number_text opening ++ (side_text opening.opened_by session opening outline ++ (codes " to "
    ++ (side_text (other_side opening.opened_by) session opening outline ++ first_text opening)))

-- how many octets either side sent, whoever opened the connection first
unfoldable pub octets_text : ℕ → ℕ → List ℕ
octets_text first second =
    codes ", octets sent " ++ (decimal first ++ (codes " and " ++ (decimal second ++ codes "\n")))

-- the line of its end
abbrev pub end_line : Session → Opening → Option EndedValue → List ℕ
end_line session opening None = codes "  open at the end of the file\n"
end_line session opening (Some ended) =
    ended_line opening.second (endpoint_of ended.by session opening) ended

-- the two lines of a connection that isn't refused
unfoldable pub connection_text : Session → Opening → OutlineValue → ℕ → ℕ → List ℕ
connection_text session opening outline first second =
    outlined_text session opening outline
    ++ (octets_text first second ++ end_line session opening outline.ended)

-- ---- a refusal

-- its packet
unfoldable pub place_text : Refusal → List ℕ
place_text refusal = codes "refused at packet " ++ decimal (refusal_packet refusal)

-- its number, its name, and what is wrong
unfoldable pub reason_text : Refusal → List ℕ
reason_text refusal =
    codes ": " ++ (decimal (refusal_number refusal) ++ (codes " " ++ (refusal_name refusal
    ++ (codes ", " ++ (cause_text refusal ++ codes "\n")))))

-- the line of what is refused
unfoldable pub refused_text : Refusal → List ℕ
refused_text refusal = place_text refusal ++ reason_text refusal

-- the two lines of a connection that is refused
unfoldable pub refused_connection_text : Session → Opening → Refusal → List ℕ
refused_connection_text session opening refusal =
    opening_text session opening ++ (codes "\n" ++ refused_text refusal)

-- the line of two addresses of whose connections none can be told
unfoldable pub refused_between_text : Addresses → Refusal → List ℕ
refused_between_text addresses refusal =
    place_text refusal ++ (codes ", between " ++ (address_text addresses.from ++ (codes " and "
    ++ (address_text addresses.to ++ reason_text refusal))))
