use Rattle.bgp_json_check.proofs.putting.put_total_object.Goals as goal

pub returns-in-CutShort : goal.returns-in-CutShort
returns-in-CutShort g c = rw c.in-CutShort.is c.put_plain.ensures

pub returns-in-Summary : goal.returns-in-Summary
returns-in-Summary g c = rw c.in-Summary.is c.put_plain-in-Summary.ensures
