use Rattle.bgp_values.proofs.opens.Opens.take.Goals as goal

pub returns-in-Received : goal.returns-in-Received
returns-in-Received c received sent opens = rw c.in-Received.is (record {
  last_received = c.last_offer-self.ensures received opens.last_received;
  last_sent = opens.last_sent;
})

pub returns-in-Sent : goal.returns-in-Sent
returns-in-Sent c received sent opens = rw c.in-Sent.is (record {
  last_received = opens.last_received;
  last_sent = c.last_offer-self-in-Sent.ensures sent opens.last_sent;
})
