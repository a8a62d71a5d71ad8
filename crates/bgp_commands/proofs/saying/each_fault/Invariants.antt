use Rattle.std.proofs.Common.{take, map}
use Rattle.bgp_commands.specs.Sentences.{fault_sentence, some_of}
use Rattle.bgp_commands.proofs.saying.each_fault.Given as goal

-- those so far were said
abbrev pub invariant-loop-fault : goal.invariant-loop-fault
invariant-loop-fault g l =
    g.V.Voice.says l.fn.voice l.voice (some_of (map (fault_sentence l.ends) (take l.fault-index l.faults)))
