use Rattle.bgp_why.specs.Message.{name_text}
use Rattle.bgp_text.proofs.Pieces.{Joins, and_then}
use Rattle.bgp_why.proofs.message.put_name.Goals as goal

pub returns-in-Open : goal.returns-in-Open
unfolding name_text
returns-in-Open g c =
    rw c.in-Open.is (c.put.ensures)

pub returns-in-MalformedOpen : goal.returns-in-MalformedOpen
unfolding name_text
returns-in-MalformedOpen g c =
    rw c.in-MalformedOpen.is (c.put-in-MalformedOpen.ensures)

pub returns-in-Update : goal.returns-in-Update
unfolding name_text
returns-in-Update g c =
    rw c.in-Update.is (c.put-in-Update.ensures)

pub returns-in-MalformedUpdate : goal.returns-in-MalformedUpdate
unfolding name_text
returns-in-MalformedUpdate g c =
    rw c.in-MalformedUpdate.is (c.put-in-MalformedUpdate.ensures)

pub returns-in-Keepalive : goal.returns-in-Keepalive
unfolding name_text
returns-in-Keepalive g c =
    rw c.in-Keepalive.is (c.put-in-Keepalive.ensures)

pub returns-in-Notification : goal.returns-in-Notification
unfolding name_text
returns-in-Notification g c =
    let law : Joins g.W.Sink = record { joined = g.met.W.Sink.joined } in
    rw c.in-Notification.is (and_then law c.put-in-Notification.ensures c.put_full_code.ensures)

pub returns-in-FaultyHeader : goal.returns-in-FaultyHeader
unfolding name_text
returns-in-FaultyHeader g c =
    rw c.in-FaultyHeader.is (c.put_faulty.ensures)
