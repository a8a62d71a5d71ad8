use Rattle.std.proofs.Common.{List, subst}
use Rattle.bgp_commands.specs.Sentences.{one_help}
use Rattle.bgp_commands.specs.declared.sentence.Sentence.{Sentence}
use Rattle.bgp_commands.proofs.InOrder.{said_more}
use Rattle.bgp_commands.proofs.saying.helps.Goals as goal

pub loop-refusal-preserved : goal.loop-refusal-preserved
loop-refusal-preserved g c =
    subst (λ (t : List Sentence). g.V.Voice.says c.args.voice.now c.say_some.new.voice t)
    (said_more one_help c.args.refusals.now c.loop-refusal.refusal-index _ c.loop-refusal-test.true)
    (rw c.one_help.ensures at (g.met.V.Voice.joined _ _ _ _ _ c.loop-refusal.invariant c.say_some.ensures))
