use Rattle.bgp_list.proofs.line.Line.put.Goals as goal

pub returns-in-Octets : goal.returns-in-Octets
returns-in-Octets g c = rw c.in-Octets.is c.put_connection.ensures

pub returns-in-Refused : goal.returns-in-Refused
returns-in-Refused g c = rw c.in-Refused.is c.put_refused_connection.ensures

pub returns-in-AllRefused : goal.returns-in-AllRefused
returns-in-AllRefused g c = rw c.in-AllRefused.is c.put_refused_between.ensures
