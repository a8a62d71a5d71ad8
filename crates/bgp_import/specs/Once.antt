-- What is made of a recording is one thing, whoever makes it.
use Rattle.std.specs.Prelude.{◌≡◌, ℕ, List, Option, length, map, reverse}
use Rattle.packets.specs.Packet.{Recorded}
use Rattle.streams.specs.Choice.{IsAnswered}
use Rattle.streams.specs.Connections.{numbered}
use Rattle.streams.specs.Passed.{Segment}
use Rattle.streams.specs.declared.connection.Connection.{Connection}
use Rattle.bgp_prefix.specs.declared.session.RouteRefresh.{RouteRefresh}
use Rattle.bgp_prefix.specs.declared.session.RouteRefresh.TheVariants as refreshes
use Rattle.bgp_prefix.specs.declared.session.Session.{Session}
use Rattle.bgp_recording.specs.Tells.{numbered_of}
use Rattle.bgp_recording.specs.declared.entry.Entry.{Entry}
use Rattle.bgp_import.specs.Importing.{IsMadeOf}
use Rattle.bgp_import.specs.Selecting.{AreTaken}
use Rattle.bgp_import.specs.declared.importing.Import.{Import}
use Rattle.bgp_import.specs.declared.note.Notes.{Notes}
use Rattle.bgp_import.specs.declared.selection.Selection.{Selection}

-- these entries are made of the connection of this number, or of the only one, of these packets
pub record IsMadeOfPackets (wanted : Import) (number : Option ℕ) (packets : List Recorded)
    (entries : List Entry) (notes : Notes) : Type 0 where
  pub segments : List Segment
  pub connection : Connection
  pub taken : AreTaken wanted.selection 0 packets segments
  pub answered : IsAnswered number (length packets) (numbered (reverse segments)) connection
  pub made : IsMadeOf wanted connection entries notes

-- A session that refuses no ROUTE-REFRESH. Of the message only that it is passed over plays a part
-- in what is made.
abbrev pub calm_refresh : RouteRefresh → RouteRefresh
calm_refresh refreshes.NotOffered = refreshes.NotOffered
calm_refresh refreshes.Refused = refreshes.NotOffered
calm_refresh refreshes.PassedOver = refreshes.PassedOver

abbrev pub calm_session : Session → Session
calm_session session = record session { refresh = calm_refresh session.refresh }

abbrev pub calm_selection : Selection → Selection
calm_selection selection = record selection { session = calm_session selection.session }

-- two that mean the same session, ports and patience, and pass over the same
pub record MeanTheSame (one other : Import) : Type 0 where
  pub selection : calm_selection one.selection ≡ calm_selection other.selection
  pub within : one.within ≡ other.within

-- Whatever is made of the same packets are the same records, by the same packets, and the same is
-- told of them.
abbrev pub RecordingsAreMadeOnce : Type 0
RecordingsAreMadeOnce =
    (one other : Import) (number : Option ℕ) (packets : List Recorded)
    (entries others : List Entry) (notes told : Notes) → MeanTheSame one other →
    IsMadeOfPackets one number packets entries notes →
    IsMadeOfPackets other number packets others told →
    (map numbered_of entries ≡ map numbered_of others) × (notes ≡ told)
