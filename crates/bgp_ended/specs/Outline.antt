-- How a connection ended, and which AS numbers its ends have.
use Rattle.std.specs.Prelude.{◌≡◌, ℕ, List, Option, option_map}
use Rattle.std.specs.Option.{option_or}
use Rattle.streams.specs.declared.connection.Connection.{Connection}
use Rattle.streams.specs.declared.connection.End.{End}
use Rattle.bgp_check.specs.Answered.{number_of}
use Rattle.bgp_recording.specs.Moments.{end_moment}
use Rattle.bgp_recording.specs.declared.message.Message.{Message}
use Rattle.bgp_ended.specs.Notified.{HasFirst, Said, said_in}
use Rattle.bgp_ended.specs.Offered.{AreMessages, HasOpens, framings_by}
use Rattle.bgp_ended.specs.Values.{Closed, EndedValue, OutlineValue}

-- by a FIN or a RST, the first
abbrev pub closed_by : End → EndedValue
closed_by end = record { moment = end_moment end; by = end.side; how = Closed end.closing }

-- Of a connection with these messages and this FIN or RST: by the first NOTIFICATION in packet
-- order, and without one by that; or it is open.
abbrev pub IsEndOf : List Said → Option End → Option EndedValue → Type 0
IsEndOf messages end ended =
    (first : Option EndedValue) × HasFirst messages first
    × (ended ≡ option_or first (option_map closed_by end))

-- The AS number of either end is that of the OPEN that it sent, if it sent one. The messages are
-- framed by what their receiver offers, and each has the first packet that shows it.
pub record IsOutlineOf (connection : Connection) (outline : OutlineValue) : Type 0 where
  pub local : Option (List ℕ)
  pub peers : Option (List ℕ)
  pub opens : HasOpens connection local peers
  pub received : List Message
  pub sent : List Message
  pub messages : AreMessages (framings_by local peers) connection received sent
  pub local_as : outline.local_as ≡ number_of local
  pub peer_as : outline.peer_as ≡ number_of peers
  pub ended : IsEndOf (said_in received sent) connection.end outline.ended
