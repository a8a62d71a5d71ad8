use Rattle.std.proofs.Common.{List, subst}
use Rattle.bgp_commands.specs.Sentences.{wrapped_sentence}
use Rattle.bgp_commands.specs.declared.sentence.Sentence.{Sentence}
use Rattle.bgp_commands.proofs.InOrder.{said_more}
use Rattle.bgp_commands.proofs.saying.each_wrapped.Goals as goal

pub loop-wrapped-preserved : goal.loop-wrapped-preserved
loop-wrapped-preserved g c =
    subst (λ (t : List Sentence). g.V.Voice.says c.args.voice.now c.say_some.new.voice t)
    (said_more wrapped_sentence c.args.kinds.now c.loop-wrapped.wrapped-index _ c.loop-wrapped-test.true)
    (rw c.wrapped_sentence.ensures at (g.met.V.Voice.joined _ _ _ _ _ c.loop-wrapped.invariant c.say_some.ensures))
