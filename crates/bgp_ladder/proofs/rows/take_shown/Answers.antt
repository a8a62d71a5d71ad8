use Rattle.bgp_ladder.proofs.rows.take_shown.Goals as goal

pub returns-in-In : goal.returns-in-In
returns-in-In c before are = rw c.in-In.is (c.take_message.ensures before.received before.sent are)

pub returns-in-Out : goal.returns-in-Out
returns-in-Out c before are = rw c.in-Out.is (c.take_message-in-Out.ensures before.received before.sent are)
