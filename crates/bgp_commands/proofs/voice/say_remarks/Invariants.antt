use Rattle.std.proofs.Common.{take, map}
use Rattle.bgp_commands.specs.Sentences.{of_remark, some_of}
use Rattle.bgp_commands.proofs.voice.say_remarks.Given as goal

-- those so far were said
abbrev pub invariant-loop-remark : goal.invariant-loop-remark
invariant-loop-remark g l =
    g.V.Voice.says l.fn.voice l.voice (some_of (map of_remark (take l.remark-index l.remarks)))
