use Rattle.bgp_why.specs.Items.{due_text}
use Rattle.bgp_text.proofs.Pieces.{Joins, and_then}
use Rattle.bgp_why.proofs.items.put_due.Goals as goal

pub returns-in-ReceivedMessage : goal.returns-in-ReceivedMessage
unfolding due_text
returns-in-ReceivedMessage g c =
    rw c.in-ReceivedMessage.is (c.put.ensures)

pub returns-in-SentOpen : goal.returns-in-SentOpen
unfolding due_text
returns-in-SentOpen g c =
    rw c.in-SentOpen.is (c.put-in-SentOpen.ensures)

pub returns-in-SentKeepalive : goal.returns-in-SentKeepalive
unfolding due_text
returns-in-SentKeepalive g c =
    rw c.in-SentKeepalive.is (c.put-in-SentKeepalive.ensures)

pub returns-in-SentUpdate : goal.returns-in-SentUpdate
unfolding due_text
returns-in-SentUpdate g c =
    rw c.in-SentUpdate.is (c.put-in-SentUpdate.ensures)

pub returns-in-Cease : goal.returns-in-Cease
unfolding due_text
returns-in-Cease g c =
    rw c.in-Cease.is (c.put-in-Cease.ensures)

pub returns-in-Change : goal.returns-in-Change
unfolding due_text
returns-in-Change g c =
    rw c.in-Change.is (c.put-in-Change.ensures)

pub returns-in-HeaderErrors : goal.returns-in-HeaderErrors
unfolding due_text
returns-in-HeaderErrors g c =
    let law : Joins g.W.Sink = record { joined = g.met.W.Sink.joined } in
    rw c.in-HeaderErrors.is (and_then law c.put-in-HeaderErrors.ensures c.put_header_errors.ensures)

pub returns-in-OpenErrors : goal.returns-in-OpenErrors
unfolding due_text
returns-in-OpenErrors g c =
    let law : Joins g.W.Sink = record { joined = g.met.W.Sink.joined } in
    rw c.in-OpenErrors.is (and_then law c.put-in-OpenErrors.ensures c.put_open_errors.ensures)

pub returns-in-UpdateErrors : goal.returns-in-UpdateErrors
unfolding due_text
returns-in-UpdateErrors g c =
    let law : Joins g.W.Sink = record { joined = g.met.W.Sink.joined } in
    rw c.in-UpdateErrors.is (and_then law c.put-in-UpdateErrors.ensures c.put_update_errors.ensures)

pub returns-in-HoldTimerExpired : goal.returns-in-HoldTimerExpired
unfolding due_text
returns-in-HoldTimerExpired g c =
    let law : Joins g.W.Sink = record { joined = g.met.W.Sink.joined } in
    rw c.in-HoldTimerExpired.is (and_then law c.put-in-HoldTimerExpired.ensures c.put_code.ensures)

pub returns-in-SendHoldTimerExpired : goal.returns-in-SendHoldTimerExpired
unfolding due_text
returns-in-SendHoldTimerExpired g c =
    let law : Joins g.W.Sink = record { joined = g.met.W.Sink.joined } in
    rw c.in-SendHoldTimerExpired.is (and_then law c.put-in-SendHoldTimerExpired.ensures c.put_code-in-SendHoldTimerExpired.ensures)

pub returns-in-StateErrors : goal.returns-in-StateErrors
unfolding due_text
returns-in-StateErrors g c =
    let law : Joins g.W.Sink = record { joined = g.met.W.Sink.joined } in
    rw c.in-StateErrors.is (and_then law c.put-in-StateErrors.ensures c.put_fsm_errors.ensures)
