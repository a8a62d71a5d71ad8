use Rattle.std.proofs.Common.{take, map}
use Rattle.bgp_commands.specs.Sentences.{some_of, wrapped_sentence}
use Rattle.bgp_commands.proofs.saying.each_wrapped.Given as goal

-- those so far were said
abbrev pub invariant-loop-wrapped : goal.invariant-loop-wrapped
invariant-loop-wrapped g l =
    g.V.Voice.says l.fn.voice l.voice (some_of (map wrapped_sentence (take l.wrapped-index l.kinds)))
