-- What is imported of a recording: the capture of one connection, or the first refusal.
use Rattle.std.specs.Prelude.{◌≡◌, ◌⊎◌, ◌+◌, ◌++◌, ℕ, Bool, List, [], ◌∷◌, length, reverse}
use Rattle.packets.specs.Context.{Context, Start}
use Rattle.packets.specs.Packet.{Recorded}
use Rattle.packets.specs.Reader.{HasRead}
use Rattle.packets.specs.Recording.{Spells, IsFirstFault}
use Rattle.packets.specs.declared.fault.FaultKind.{FaultKind}
use Rattle.segments.specs.declared.fault.PacketFault.{PacketFault}
use Rattle.streams.specs.declared.connection.Connection.{Connection}
use Rattle.streams.specs.declared.fault.Fault.{Fault}
use Rattle.streams.specs.Choice.{IsAnswered, IsRefused}
use Rattle.streams.specs.Connections.{numbered}
use Rattle.streams.specs.Passed.{Segment}
use Rattle.bgp_recording.specs.declared.entry.Entry.{Entry}
use Rattle.bgp_recording.specs.Pieces.{framings_of}
use Rattle.bgp_recording.specs.Recorded.{IsRecordedInOrder}
use Rattle.bgp_import.specs.declared.importing.Import.{Import}
use Rattle.bgp_import.specs.declared.note.Notes.{Notes}
use Rattle.bgp_import.specs.declared.refusal.Refusal.{Refusal}
use Rattle.bgp_import.specs.declared.refusal.Refusal.TheVariants as refusals
use Rattle.bgp_import.specs.declared.selection.Selection.{Selection}
use Rattle.bgp_import.specs.Selecting.{AreTaken, IsPacketRefused}
use Rattle.bgp_import.specs.Captures.{IsCapture, put_off}

-- ---- the capture

-- The connection that is meant is that of the packets' segments, none of which is refused.
-- Segments of connections are told from the last one back to the first.
pub record IsConnection (wanted : Import) (packets : List Recorded) (connection : Connection)
    : Type 0 where
  pub segments : List Segment
  pub taken : AreTaken wanted.selection 0 packets segments
  pub answered : IsAnswered wanted.connection (length packets) (numbered (reverse segments))
      connection

-- These entries are made of a connection: their records tell its messages in an order that is
-- allowed within the patience. And this is to be told of them. Messages are as long as the
-- session's may be (RFC 8654), and a ROUTE-REFRESH is passed over where the session says so.
pub record IsMadeOf (wanted : Import) (connection : Connection) (entries : List Entry)
    (notes : Notes) : Type 0 where
  pub recorded : IsRecordedInOrder (framings_of wanted.selection.session) wanted.within connection
      entries notes.received notes.sent
  pub counts : notes.put_off ≡ put_off 0 entries

-- these octets are the capture of entries that are made of a connection
pub record IsCaptureOf (wanted : Import) (connection : Connection) (octets : List ℕ)
    (notes : Notes) : Type 0 where
  pub entries : List Entry
  pub made : IsMadeOf wanted connection entries notes
  pub capture : IsCapture wanted.selection.session entries octets

-- the capture that is made of a recording with these octets, which is whole or was cut short
pub record IsImported (wanted : Import) (recording octets : List ℕ) (notes : Notes) : Type 0 where
  pub packets : List Recorded
  pub cut : Bool
  pub connection : Connection
  pub spells : Spells recording packets cut
  pub is_connection : IsConnection wanted packets connection
  pub made : IsCaptureOf wanted connection octets notes

-- ---- the refusals

-- the file has a fault, and none of the packets before it is refused
pub record IsFileRefused (selection : Selection) (recording : List ℕ) (refusal : Refusal)
    : Type 0 where
  pub packets : List Recorded
  pub segments : List Segment
  pub kind : FaultKind
  pub first : IsFirstFault recording packets kind
  pub taken : AreTaken selection 0 packets segments
  pub is : refusal ≡ refusals.File (record { kind = kind; packet = length packets + 1 })

-- a packet is refused, and none of those before it: whatever stands behind it
pub record HasRefusedPacket (selection : Selection) (recording : List ℕ) (refusal : Refusal)
    : Type 0 where
  pub front : List ℕ
  pub behind : List ℕ
  pub packets : List Recorded
  pub segments : List Segment
  pub packet : Recorded
  pub after : Context
  pub fault : PacketFault
  pub whole : recording ≡ front ++ behind
  pub read : HasRead Start front (packets ++ packet ∷ []) after
  pub taken : AreTaken selection 0 packets segments
  pub refused : IsPacketRefused selection packet fault
  pub is : refusal ≡ refusals.Packet fault (length packets + 1)

-- the first refusal that is found where packets are read one after another
abbrev pub IsPassageRefused : Selection → List ℕ → Refusal → Type 0
IsPassageRefused selection recording refusal =
    IsFileRefused selection recording refusal ⊎ HasRefusedPacket selection recording refusal

-- the session's connections aren't what is wanted, or the segments of the one that is meant spell
-- no two streams
pub record IsConnectionRefused (wanted : Import) (recording : List ℕ) (refusal : Refusal)
    : Type 0 where
  pub packets : List Recorded
  pub segments : List Segment
  pub cut : Bool
  pub fault : Fault
  pub spells : Spells recording packets cut
  pub taken : AreTaken wanted.selection 0 packets segments
  pub refused : IsRefused wanted.connection (length packets) (numbered (reverse segments)) fault
  pub is : refusal ≡ refusals.Connection fault

-- the first refusal of a recording with these octets
abbrev pub IsFirstRefusal : Import → List ℕ → Refusal → Type 0
IsFirstRefusal wanted recording refusal =
    IsPassageRefused wanted.selection recording refusal
    ⊎ IsConnectionRefused wanted recording refusal
