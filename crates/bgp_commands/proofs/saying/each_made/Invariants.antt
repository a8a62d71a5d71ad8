use Rattle.std.proofs.Common.{take, map}
use Rattle.bgp_commands.specs.Sentences.{made_sentence, some_of}
use Rattle.bgp_commands.proofs.saying.each_made.Given as goal

-- those so far were said
abbrev pub invariant-loop-note : goal.invariant-loop-note
invariant-loop-note g l =
    g.V.Voice.says l.fn.voice l.voice (some_of (map made_sentence (take l.note-index l.notes)))
