use Rattle.std.proofs.Common.{List}
use Rattle.packets.specs.Packet.{Recorded}
use Rattle.bgp_import.specs.Talks.{HoldsSome}
use Rattle.bgp_list.specs.Firsts.{AreApart}
use Rattle.bgp_check_tool.proofs.OneMore.{PutsFront}
use Rattle.bgp_check_tool.proofs.checking.put_all.Given as goal

-- the blocks so far are put
abbrev pub invariant-loop-packet : goal.invariant-loop-packet
invariant-loop-packet g l = record {
  front : (packets : List Recorded) → HoldsSome l.options.port packets l.talks
      → PutsFront l.options packets l.last_packet l.initial.packet-iterator l.packet-iterator l.fn.lines l.lines l.fn.counted.tally l.counted.tally
      l.fn.counted.refusals.items l.counted.refusals.items l.fn.marks l.marks;
  apart : AreApart l.counted.refusals.items;
}
