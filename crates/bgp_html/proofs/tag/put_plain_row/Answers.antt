use Rattle.bgp_html.proofs.tag.put_plain_row.Goals as goal

pub returns-in-Sent : goal.returns-in-Sent
returns-in-Sent g c = rw c.in-Sent.is c.put_sent_row.ensures

pub returns-in-Received : goal.returns-in-Received
returns-in-Received g c = rw c.in-Received.is c.put_received_row.ensures

pub returns-in-Changed : goal.returns-in-Changed
returns-in-Changed g c = rw c.in-Changed.is c.put.ensures

pub returns-in-Run : goal.returns-in-Run
returns-in-Run g c = rw c.in-Run.is c.put-in-Run.ensures
