use Rattle.bgp_why.specs.Items.{way_text}
use Rattle.bgp_text.proofs.Pieces.{Joins, and_then}
use Rattle.bgp_why.proofs.items.put_way.Goals as goal

pub returns-in-ReceivedMessage : goal.returns-in-ReceivedMessage
unfolding way_text
returns-in-ReceivedMessage g c =
    rw c.in-ReceivedMessage.is (c.put.ensures)

pub returns-in-SentOpen : goal.returns-in-SentOpen
unfolding way_text
returns-in-SentOpen g c =
    rw c.in-SentOpen.is (c.put-in-SentOpen.ensures)

pub returns-in-SentKeepalive : goal.returns-in-SentKeepalive
unfolding way_text
returns-in-SentKeepalive g c =
    rw c.in-SentKeepalive.is (c.put-in-SentKeepalive.ensures)

pub returns-in-SentUpdate : goal.returns-in-SentUpdate
unfolding way_text
returns-in-SentUpdate g c =
    rw c.in-SentUpdate.is (c.put-in-SentUpdate.ensures)

pub returns-in-HeaderErrors : goal.returns-in-HeaderErrors
unfolding way_text
returns-in-HeaderErrors g c =
    rw c.in-HeaderErrors.is (c.put-in-HeaderErrors.ensures)

pub returns-in-OpenErrors : goal.returns-in-OpenErrors
unfolding way_text
returns-in-OpenErrors g c =
    rw c.in-OpenErrors.is (c.put-in-OpenErrors.ensures)

pub returns-in-UpdateErrors : goal.returns-in-UpdateErrors
unfolding way_text
returns-in-UpdateErrors g c =
    rw c.in-UpdateErrors.is (c.put-in-UpdateErrors.ensures)

pub returns-in-SendHoldTimerExpired : goal.returns-in-SendHoldTimerExpired
unfolding way_text
returns-in-SendHoldTimerExpired g c =
    rw c.in-SendHoldTimerExpired.is (c.put-in-SendHoldTimerExpired.ensures)

pub returns-in-StateErrors : goal.returns-in-StateErrors
unfolding way_text
returns-in-StateErrors g c =
    rw c.in-StateErrors.is (c.put-in-StateErrors.ensures)

pub returns-in-Cease : goal.returns-in-Cease
unfolding way_text
returns-in-Cease g c =
    rw c.in-Cease.is (c.put-in-Cease.ensures)

pub returns-in-HoldTimerExpired : goal.returns-in-HoldTimerExpired
unfolding way_text
returns-in-HoldTimerExpired g c =
    let law : Joins g.W.Sink = record { joined = g.met.W.Sink.joined } in
    rw c.in-HoldTimerExpired.is (and_then law c.put-in-HoldTimerExpired.ensures (and_then law c.put_from.ensures c.put-in-HoldTimerExpired-2.ensures))

pub returns-in-Change : goal.returns-in-Change
unfolding way_text
returns-in-Change g c =
    rw c.in-Change.is ((rw (c.number.ensures, c.number-in-Change.ensures) at c.put_change.ensures))
