-- Which connection of a recording `bgp judge` is asked for, where the end of one is meant.
use Rattle.std.specs.Prelude.{◌==◌, ℕ, Bool, false, List, [], ◌∷◌, Option, None, Some}
use Rattle.std.specs.Prelude.{count_by, if◌then◌else◌, length, nat_lt, take}
use Rattle.bgp_prefix.specs.contracts.address.AddressPartialEq.TheImpl as equality
use Rattle.bgp_prefix.specs.declared.session.Session.{Session}
use Rattle.streams.specs.Connections.{first_in}
use Rattle.streams.specs.Passed.{Segment}
use Rattle.streams.specs.declared.connection.Opening.{Opening}
use Rattle.streams.specs.declared.passed.Side.{Side}
use Rattle.streams.specs.declared.passed.Side.TheVariants.{Local, Peer}
use Rattle.bgp_import.specs.ListText.{end_of}
use Rattle.bgp_check_text.specs.declared.options.Asked.{Asked}

-- a value, where it isn't the one that is taken where none is given
abbrev pub unless : ℕ → ℕ → Option ℕ
unless usual value = if value == usual then None else Some value

-- both systems have one address
abbrev pub has_one_address : Session → Bool
has_one_address session = equality.ghosts.eq session.local session.peer

-- ---- the connection's number

-- a connection goes to this port of the peer
abbrev pub goes_to : ℕ → List Segment → Bool
goes_to port [] = false
goes_to port (s ∷ before) = (first_in s before).peer_port == port

-- how many of them do
abbrev pub count_to : ℕ → List (List Segment) → ℕ
count_to port connections = count_by (goes_to port) connections

-- Its number among those that `judge` finds, and how many these are. Where both systems have one
-- address it finds those at the local system's port alone: as the peer has it, at the peer's.
abbrev pub place_among : Session → Side → Opening → List (List Segment) → ℕ × ℕ
place_among session Local opening connections = (opening.number, length connections)
place_among session Peer opening connections =
    if has_one_address session
    then (
      count_to opening.peer_port (take opening.number connections),
      count_to opening.peer_port connections,
    )
    else (opening.number, length connections)

-- it is named where there are several
abbrev pub named_among : ℕ × ℕ → Option ℕ
named_among place = if nat_lt 1 place.1 then Some place.0 else None

-- ---- all of it

-- of the connections of a session at a port, the one that was opened so, as this of its systems
-- has it
abbrev pub asked_of : ℕ → ℕ → Session → List (List Segment) → Opening → Side → Asked
asked_of port within session connections opening side = record {
  port = unless 179 port;
  local_port = if has_one_address session then Some (end_of side session opening).port else None;
  connection = named_among (place_among session side opening connections);
  within = unless 10 within;
}
