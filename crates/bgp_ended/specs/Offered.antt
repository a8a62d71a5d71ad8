-- How both directions of a connection are framed: each by what its receiver offers.
use Rattle.std.specs.Prelude.{true, false, ℕ, List, Option, None, Some, option_map}
use Rattle.streams.specs.declared.connection.Connection.{Connection}
use Rattle.streams.specs.declared.connection.End.{End}
use Rattle.streams.specs.declared.connection.Stream.{Stream}
use Rattle.streams.specs.declared.passed.Side.{Side}
use Rattle.streams.specs.declared.passed.Side.TheVariants.{Local, Peer}
use Rattle.bgp_wire.specs.Header.{limit_with}
use Rattle.bgp_wire.specs.declared.header.Limit.TheVariants.{Extended, Plain}
use Rattle.bgp_open.specs.Offer.{offers_extended}
use Rattle.bgp_open.specs.Open.{open_of}
use Rattle.bgp_open.specs.Triplet.{Triplet}
use Rattle.bgp_import.specs.ListText.{other_side}
use Rattle.bgp_recording.specs.Gathered.{IsSaid}
use Rattle.bgp_recording.specs.Pieces.{alike}
use Rattle.bgp_recording.specs.declared.framing.Framing.{Framing}
use Rattle.bgp_recording.specs.declared.framing.Framings.{Framings}
use Rattle.bgp_recording.specs.declared.framing.Unshown.{Unshown}
use Rattle.bgp_recording.specs.declared.message.Message.{Message}
use Rattle.bgp_check.specs.Refresh.{offers_refresh}
use Rattle.bgp_ended.specs.FirstOpen.{FirstOpen}

-- ---- by an OPEN

-- How what comes to a system is framed: that may come which its OPEN offers, extended messages
-- (RFC 8654, 4), and ROUTE-REFRESHes (RFC 2918, 2), which are passed over.
abbrev pub framing_with : List Triplet → Framing
framing_with capabilities = record {
  limit = limit_with (offers_extended capabilities);
  skips_refresh = offers_refresh capabilities;
}

-- where it sent none, neither may
abbrev pub framing_by : Option (List ℕ) → Framing
framing_by None = record { limit = Plain; skips_refresh = false }
framing_by (Some octets) = framing_with (open_of octets).capabilities

-- both directions, where the local system and the peer sent these
abbrev pub framings_by : Option (List ℕ) → Option (List ℕ) → Framings
framings_by local peers = record { received = framing_by local; sent = framing_by peers }

-- as if both systems offered both
abbrev pub with_both_offers : Framings
with_both_offers = alike record { limit = Extended; skips_refresh = true }

-- ---- what each system sent

-- its octets
abbrev pub sent_by : Side → Connection → Stream
sent_by Local connection = connection.sent
sent_by Peer connection = connection.received

-- the FIN or RST, as the other system has it
abbrev pub other_end : End → End
other_end end = record end { side = other_side end.side }

-- as this system has it: as the local system's own, if this one sent it
abbrev pub end_for : Side → Option End → Option End
end_for Local end = end
end_for Peer end = option_map other_end end

-- The messages that this system sent, framed so. The packet of each is the first that shows that
-- it had been made, whichever of both systems is the local one.
abbrev pub AreSentBy : Side → Framing → Connection → List Message → Unshown → Type 0
AreSentBy side framing connection messages unshown =
    IsSaid framing (sent_by side connection) (end_for side connection.end) messages unshown

-- those of both: what the local system received, and what it sent
pub record AreMessages
    (framings : Framings) (connection : Connection) (received sent : List Message) : Type 0 where
  pub received_unshown : Unshown
  pub sent_unshown : Unshown
  pub of_peer : AreSentBy Peer framings.received connection received received_unshown
  pub of_local : AreSentBy Local framings.sent connection sent sent_unshown

-- ---- the OPENs

-- The OPEN of either system: the first that it sent. They are looked for as if both systems offered
-- both, since they say what is offered.
pub record HasOpens (connection : Connection) (local peers : Option (List ℕ)) : Type 0 where
  pub received : List Message
  pub sent : List Message
  pub messages : AreMessages with_both_offers connection received sent
  pub is_local : FirstOpen sent local
  pub is_peers : FirstOpen received peers
