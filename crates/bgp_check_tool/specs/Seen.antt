-- A connection as either of its systems has it: what that system sent is sent.
use Rattle.std.specs.Prelude.{option_map}
use Rattle.bgp_prefix.specs.declared.session.Session.{Session}
use Rattle.streams.specs.declared.connection.Connection.{Connection}
use Rattle.streams.specs.declared.connection.End.{End}
use Rattle.streams.specs.declared.passed.Side.{Side}
use Rattle.streams.specs.declared.passed.Side.TheVariants.{Local, Peer}
use Rattle.bgp_import.specs.ListText.{other_side}

-- its end, as the other system has it
abbrev pub other_end : End → End
other_end end = record end { side = other_side end.side }

abbrev pub seen_from : Side → Connection → Connection
seen_from Local connection = connection
seen_from Peer connection = record connection {
  local_port = connection.peer_port;
  peer_port = connection.local_port;
  opened_by = other_side connection.opened_by;
  received = connection.sent;
  sent = connection.received;
  end = option_map other_end connection.end;
}

-- and its session
abbrev pub session_from : Side → Session → Session
session_from Local session = session
session_from Peer session = record session { peer = session.local; local = session.peer }
