use Rattle.std.proofs.Common.{take, map}
use Rattle.bgp_commands.specs.Sentences.{one_help, some_of}
use Rattle.bgp_commands.proofs.saying.helps.Given as goal

-- those so far were said
abbrev pub invariant-loop-refusal : goal.invariant-loop-refusal
invariant-loop-refusal g l =
    g.V.Voice.says l.fn.voice l.voice (some_of (map one_help (take l.refusal-index l.refusals)))
