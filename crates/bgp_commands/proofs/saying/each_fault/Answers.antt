use Rattle.std.proofs.Common.{List, subst}
use Rattle.bgp_commands.specs.Sentences.{fault_sentence}
use Rattle.bgp_commands.specs.declared.sentence.Sentence.{Sentence}
use Rattle.bgp_commands.proofs.InOrder.{said_more}
use Rattle.bgp_commands.proofs.saying.each_fault.Goals as goal

pub loop-fault-preserved : goal.loop-fault-preserved
loop-fault-preserved g c =
    subst (λ (t : List Sentence). g.V.Voice.says c.args.voice.now c.say_some.new.voice t)
    (said_more (fault_sentence c.args.ends.now) c.args.faults.now c.loop-fault.fault-index _ c.loop-fault-test.true)
    (rw c.fault_sentence.ensures at (g.met.V.Voice.joined _ _ _ _ _ c.loop-fault.invariant c.say_some.ensures))
