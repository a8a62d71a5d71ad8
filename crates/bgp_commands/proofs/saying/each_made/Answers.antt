use Rattle.std.proofs.Common.{List, subst}
use Rattle.bgp_commands.specs.Sentences.{made_sentence}
use Rattle.bgp_commands.specs.declared.sentence.Sentence.{Sentence}
use Rattle.bgp_commands.proofs.InOrder.{said_more}
use Rattle.bgp_commands.proofs.saying.each_made.Goals as goal

pub loop-note-preserved : goal.loop-note-preserved
loop-note-preserved g c =
    subst (λ (t : List Sentence). g.V.Voice.says c.args.voice.now c.say_some.new.voice t)
    (said_more made_sentence c.args.notes.now c.loop-note.note-index _ c.loop-note-test.true)
    (rw c.made_sentence.ensures at (g.met.V.Voice.joined _ _ _ _ _ c.loop-note.invariant c.say_some.ensures))
