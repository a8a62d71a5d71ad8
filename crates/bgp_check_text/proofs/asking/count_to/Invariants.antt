use Rattle.std.proofs.Common.{◌≡◌, ◌≤◌, List, take}
use Rattle.streams.specs.Connections.{numbered}
use Rattle.streams.specs.Held.{HoldsConnections}
use Rattle.streams.specs.Passed.{Segment}
use Rattle.bgp_check_text.specs.Asked.{count_to}
use Rattle.bgp_check_text.proofs.asking.count_to.Given as goal

-- of the connections so far so many do
abbrev pub invariant-loop-index : goal.invariant-loop-index
invariant-loop-index g l =
    (l.count ≤ l.index)
    × ((segments : List Segment) → HoldsConnections segments l.connections → l.count ≡ count_to l.port (take l.index (numbered segments)))
