use Rattle.std.proofs.Common.{take}
use Rattle.bgp_commands.specs.Sentences.{some_of}
use Rattle.bgp_commands.proofs.voice.say_each.Given as goal

-- those so far were said
abbrev pub invariant-loop-sentence : goal.invariant-loop-sentence
invariant-loop-sentence g l =
    g.V.Voice.says l.fn.voice l.voice (some_of (take l.sentence-index l.sentences))
