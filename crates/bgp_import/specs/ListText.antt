-- What a list of connections says of one.
use Rattle.std.specs.Prelude.{◌++◌, ℕ, List, codes}
use Rattle.std.specs.Fmt.{decimal}
use Rattle.bgp_prefix.specs.Text.{address_text}
use Rattle.bgp_prefix.specs.declared.session.Session.{Session}
use Rattle.segments.specs.declared.found.Endpoint.{Endpoint}
use Rattle.streams.specs.declared.passed.Side.{Side}
use Rattle.streams.specs.declared.passed.Side.TheVariants.{Local, Peer}
use Rattle.streams.specs.declared.connection.Opening.{Opening}
use Rattle.bgp_import.specs.Refusals.{reason_text}
use Rattle.bgp_import.specs.declared.refusal.Refusal.{Refusal}

-- an address and a port
unfoldable pub end_text : Endpoint → List ℕ
end_text end = address_text end.address ++ (codes " " ++ decimal end.port)

-- the end of one of the systems
abbrev pub end_of : Side → Session → Opening → Endpoint
end_of Local session opening = record { address = session.local; port = opening.local_port }
end_of Peer session opening = record { address = session.peer; port = opening.peer_port }

abbrev pub other_side : Side → Side
other_side Local = Peer
other_side Peer = Local

-- a connection: its number, its ends, whoever opened it first, and its second
unfoldable pub opening_text : Session → Opening → List ℕ
opening_text session opening =
    codes "connection " ++ (decimal opening.number
    ++ (codes " from " ++ (end_text (end_of opening.opened_by session opening)
    ++ (codes " to " ++ (end_text (end_of (other_side opening.opened_by) session opening)
    ++ (codes " at " ++ decimal opening.second))))))

-- why something is refused
unfoldable pub refused_text : Refusal → List ℕ
refused_text refusal = codes "refused " ++ reason_text refusal

-- how many octets either side sent, whoever opened the connection first
unfoldable pub octets_text : ℕ → ℕ → List ℕ
octets_text first second =
    codes "octets " ++ (decimal first ++ (codes " " ++ decimal second))
