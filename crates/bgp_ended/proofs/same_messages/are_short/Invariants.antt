use Rattle.std.proofs.Common.{take}
use Rattle.bgp_ended.specs.SameMessages.{AreShort}
use Rattle.bgp_ended.proofs.same_messages.are_short.Given as goal

-- those so far are
abbrev pub invariant-loop-message : goal.invariant-loop-message
invariant-loop-message l = AreShort (take l.message-index l.messages)
