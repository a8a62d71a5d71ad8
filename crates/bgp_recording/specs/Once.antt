-- What is made of a connection is one thing, whoever makes it.
use Rattle.std.specs.Prelude.{◌≡◌, ℕ, List, map}
use Rattle.streams.specs.Given.{giver_at}
use Rattle.streams.specs.declared.connection.Connection.{Connection}
use Rattle.streams.specs.declared.connection.Stream.{Stream}
use Rattle.bgp_recording.specs.declared.entry.Entry.{Entry}
use Rattle.bgp_recording.specs.declared.framing.Framings.{Framings}
use Rattle.bgp_recording.specs.declared.framing.Unshown.{Unshown}
use Rattle.bgp_recording.specs.Gathered.{IsClocked}
use Rattle.bgp_recording.specs.Recorded.{IsRecordedInOrder}
use Rattle.bgp_recording.specs.Tells.{numbered_of}

-- the same octets, each with the same first giver
pub record AreSame (one other : Stream) : Type 0 where
  pub octets : one.octets.now ≡ other.octets.now
  pub givers : (place : ℕ) → giver_at one.runs.now place ≡ giver_at other.runs.now place

-- two that tell the same, wherever it lies
pub record TellTheSame (one other : Connection) : Type 0 where
  pub opened_by : one.opened_by ≡ other.opened_by
  pub packet : one.packet ≡ other.packet
  pub second : one.second ≡ other.second
  pub micro : one.micro ≡ other.micro
  pub received : AreSame one.received other.received
  pub sent : AreSame one.sent other.sent
  pub end : one.end ≡ other.end

-- Whatever is recorded of two such connections by the same rules of framing, within as many
-- seconds, are the same records, by the same packets, and the same is in none of them.
abbrev pub ConnectionsAreRecordedOnce : Type 0
ConnectionsAreRecordedOnce =
    (framings : Framings) (within : ℕ) (one other : Connection) (entries others : List Entry)
    (received sent other_received other_sent : Unshown) →
    TellTheSame one other → IsClocked one →
    IsRecordedInOrder framings within one entries received sent →
    IsRecordedInOrder framings within other others other_received other_sent →
    (map numbered_of entries ≡ map numbered_of others)
    × (received ≡ other_received) × (sent ≡ other_sent)
