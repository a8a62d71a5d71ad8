use Rattle.std.proofs.Common.{List, map}
use Rattle.packets.specs.Packet.{Recorded}
use Rattle.bgp_import.specs.Talks.{HoldsSome}
use Rattle.bgp_list.specs.Lines.{line_value}
use Rattle.bgp_list.proofs.PutSoFar.{MakesFront}
use Rattle.bgp_list.proofs.recording.lines_of.Given as goal

-- the lines so far are made
abbrev pub invariant-loop-packet : goal.invariant-loop-packet
invariant-loop-packet g l =
    (packets : List Recorded) → HoldsSome l.port packets l.talks
    → MakesFront l.port packets l.last_packet l.initial.packet-iterator l.packet-iterator (map line_value l.list.items)
