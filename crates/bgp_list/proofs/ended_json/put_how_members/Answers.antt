use Rattle.bgp_list.proofs.ended_json.put_how_members.Goals as goal

pub returns-in-Notified : goal.returns-in-Notified
returns-in-Notified g c = rw c.in-Notified.is c.put_notified.ensures
