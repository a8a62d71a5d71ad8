-- The messages of the made records as the streams that they stand in.
use Rattle.std.specs.Prelude.{◌≡◌, ◌+◌, ◌++◌, ℕ, List, [], ◌∷◌, length, IsTrue}
use Rattle.std.specs.List.{AllByRecursion}
use Rattle.bgp_prefix.specs.Shown.{ShownRecord, Received, Sent, Changed}
use Rattle.bgp_wire.specs.Framing.{joined}
use Rattle.mrt.specs.Rules.{IsWholeRefresh}
use Rattle.streams.specs.declared.connection.Connection.{Connection}
use Rattle.bgp_recording.specs.declared.entry.Entry.{Entry}
use Rattle.bgp_recording.specs.declared.framing.Framing.{Framing}
use Rattle.bgp_recording.specs.declared.framing.Framings.{Framings}
use Rattle.bgp_recording.specs.declared.framing.Rest.{Rest}
use Rattle.bgp_recording.specs.declared.framing.Rest.TheVariants.{Short, BehindFault}
use Rattle.bgp_recording.specs.declared.framing.Unshown.{Unshown}
use Rattle.bgp_recording.specs.Captured.{records_of}
use Rattle.bgp_recording.specs.Pieces.{Piece, Kept, PassedOver, kept, passed_over, stream_of}
use Rattle.bgp_recording.specs.Recorded.{IsRecorded}

-- the octets of the received messages, one after another
abbrev pub received_octets : List ShownRecord → List ℕ
received_octets [] = []
received_octets (Received second octets ∷ later) = octets ++ received_octets later
received_octets (Sent second octets ∷ later) = received_octets later
received_octets (Changed second old new ∷ later) = received_octets later

-- those of the sent ones
abbrev pub sent_octets : List ShownRecord → List ℕ
sent_octets [] = []
sent_octets (Received second octets ∷ later) = sent_octets later
sent_octets (Sent second octets ∷ later) = octets ++ sent_octets later
sent_octets (Changed second old new ∷ later) = sent_octets later

-- So many octets are left; after a faulty header at the end of the pieces, which is kept, if one is
-- told.
abbrev pub IsLeft : List Piece → Rest → List ℕ → Type 0
IsLeft pieces (Short count) left = count ≡ length left
IsLeft pieces (BehindFault place count is_refresh) left =
    (count ≡ length left) × (length (stream_of pieces) ≡ place + 19)

-- what is passed over is a whole ROUTE-REFRESH, and nothing is where none is to be
abbrev pub MayStand : Framing → Piece → Type 0
MayStand framing (Kept octets) = Unit {0}
MayStand framing (PassedOver octets) = IsTrue framing.skips_refresh × IsWholeRefresh octets

-- Pieces, kept or passed over, and what is left after them, are the stream. Those that are kept are
-- the messages, and as many as are told are passed over.
pub record IsWhole (framing : Framing) (stream messages : List ℕ) (unshown : Unshown)
    : Type 0 where
  pub pieces : List Piece
  pub left : List ℕ
  pub whole : stream ≡ stream_of pieces ++ left
  pub are_kept : messages ≡ joined (kept pieces)
  pub each : AllByRecursion (MayStand framing) pieces
  pub passed : unshown.passed_over ≡ passed_over pieces
  pub is : IsLeft pieces unshown.rest left

-- The received messages of records that tell a connection are what the peer sent, the sent ones
-- what the local system did: no octet of a stream is lost, but those that are told to be left, and
-- the messages that are told to be passed over.
abbrev pub MadeRecordsAreTheStreams : Type 0
MadeRecordsAreTheStreams =
    (framings : Framings) (within : ℕ) (connection : Connection) (entries : List Entry)
    (received sent : Unshown) →
    IsRecorded framings within connection entries received sent →
    IsWhole framings.received connection.received.octets.now
    (received_octets (records_of entries)) received
    × IsWhole framings.sent connection.sent.octets.now (sent_octets (records_of entries)) sent
