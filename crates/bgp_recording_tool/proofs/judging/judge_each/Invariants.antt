use Rattle.std.proofs.Common.{List, length, reverse}
use Rattle.packets.specs.Packet.{Recorded}
use Rattle.streams.specs.Passed.{Segment}
use Rattle.bgp_tool.specs.Status.{code_of}
use Rattle.bgp_import.specs.Gathers.{HoldsSession}
use Rattle.bgp_import.specs.Selecting.{AreTaken}
use Rattle.bgp_recording_tool.specs.Judging.{Puts}
use Rattle.bgp_recording_tool.specs.Connections.{AreTold}
use Rattle.bgp_recording_tool.proofs.judging.judge_each.Given as goal

-- the connections so far are told of
abbrev pub invariant-loop-index : goal.invariant-loop-index
invariant-loop-index g l =
    (packets : List Recorded) (segments : List Segment) → AreTaken l.import.selection 0 packets segments
    → HoldsSession (reverse segments) (length packets) l.gathered
    → Puts l.fn.lines l.lines l.fn.remarks.items l.remarks.items (code_of l.status)
    (AreTold l.config l.report l.import packets segments l.index)
