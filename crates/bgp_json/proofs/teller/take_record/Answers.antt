use Rattle.bgp_json.proofs.teller.take_record.Goals as goal

pub returns-in-In : goal.returns-in-In
returns-in-In c = λ before known. rw c.in-In.is (c.take.ensures before.received before.sent known)

pub returns-in-Out : goal.returns-in-Out
returns-in-Out c = λ before known. rw c.in-Out.is (c.take-in-Out.ensures before.received before.sent known)
