use Rattle.std.proofs.Common.{List, subst}
use Rattle.bgp_commands.specs.declared.sentence.Sentence.{Sentence}
use Rattle.bgp_commands.proofs.InOrder.{each_more}
use Rattle.bgp_commands.proofs.voice.say_each.Goals as goal

pub loop-sentence-preserved : goal.loop-sentence-preserved
loop-sentence-preserved g c =
    subst (λ (t : List Sentence). g.V.Voice.says c.args.voice.now c.say_some.new.voice t)
    (each_more c.args.sentences.now c.loop-sentence.sentence-index _ c.loop-sentence-test.true)
    (g.met.V.Voice.joined _ _ _ _ _ c.loop-sentence.invariant c.say_some.ensures)
