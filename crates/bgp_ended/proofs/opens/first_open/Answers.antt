use Rattle.std.proofs.Common.{None}
use Rattle.bgp_ended.proofs.FirstOpens.{no_open, open_behind}
use Rattle.bgp_ended.proofs.opens.first_open.Goals as goal

pub loop-message-init : goal.loop-message-init
loop-message-init c = λ it has. has

pub loop-message-preserved : goal.loop-message-preserved
loop-message-preserved c = λ it later.
    c.loop-message.invariant it (open_behind c.args.messages.now c.loop-message.message-index _ c.loop-message-test.true it c.in-None.ensures.none later)

pub returns-clause-first : goal.returns-clause-first
returns-clause-first c = c.loop-message.invariant None (no_open c.args.messages.now c.loop-message.message-index c.loop-message-test.false)
