use Rattle.std.proofs.Common.{◌≤◌, ℕ, List, reverse}
use Rattle.packets.specs.Packet.{Recorded}
use Rattle.streams.specs.Choice.{first_packet}
use Rattle.streams.specs.Held.{HoldsConnections}
use Rattle.streams.specs.Passed.{Segment}
use Rattle.bgp_import.specs.Listed.{AreListed, IsPlaceOf, KeepsPlaces}
use Rattle.bgp_import.specs.Pairs.{AreOrdered}
use Rattle.bgp_import.specs.Places.{connection_in}
use Rattle.bgp_import.specs.Talks.{HoldsAll}
use Rattle.bgp_import.proofs.listed.add_connections.Given as goal

-- the connections of the numbers so far are listed
abbrev pub invariant-loop-index : goal.invariant-loop-index
invariant-loop-index g l = record {
  listed : (port : ℕ) (packets : List Recorded) → AreOrdered l.addresses → HoldsAll port packets l.addresses l.talk.connections
      → AreListed port packets l.fn.listed.entries → AreListed port packets l.listed.entries;
  keeps : KeepsPlaces l.fn.listed l.listed;
  adds : (segments : List Segment) → HoldsConnections (reverse segments) l.talk.connections → (number : ℕ) → 1 ≤ number → number ≤ l.index
      → IsPlaceOf l.listed (first_packet (connection_in segments number));
}
