use Rattle.std.proofs.Common.{ℕ, drop, Option}
use Rattle.bgp_import.specs.Refreshes.{IsRefreshPacket}
use Rattle.bgp_import.proofs.refresh.refresh_packet.Given as goal

-- the packet of the rest is that of all
abbrev pub invariant-loop-entry : goal.invariant-loop-entry
invariant-loop-entry l =
    (packet : Option ℕ) → IsRefreshPacket l.from (drop l.entry-index l.entries) packet → IsRefreshPacket l.from l.entries packet
