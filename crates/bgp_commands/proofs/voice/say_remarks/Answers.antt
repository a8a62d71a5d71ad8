use Rattle.std.proofs.Common.{List, subst}
use Rattle.bgp_commands.specs.Sentences.{of_remark}
use Rattle.bgp_commands.specs.declared.sentence.Sentence.{Sentence}
use Rattle.bgp_commands.proofs.InOrder.{said_more}
use Rattle.bgp_commands.proofs.voice.say_remarks.Goals as goal

pub loop-remark-preserved : goal.loop-remark-preserved
loop-remark-preserved g c =
    subst (λ (t : List Sentence). g.V.Voice.says c.args.voice.now c.say_some.new.voice t)
    (said_more of_remark c.args.remarks.now c.loop-remark.remark-index _ c.loop-remark-test.true)
    (g.met.V.Voice.joined _ _ _ _ _ c.loop-remark.invariant c.say_some.ensures)
