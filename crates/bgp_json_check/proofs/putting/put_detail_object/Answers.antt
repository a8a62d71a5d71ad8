use Rattle.bgp_json_check.proofs.putting.put_detail_object.Goals as goal

pub returns-in-End : goal.returns-in-End
returns-in-End g c = rw c.in-End.is c.put_judged.ensures

pub returns-in-NotRead : goal.returns-in-NotRead
returns-in-NotRead g c = rw c.in-NotRead.is c.put_judged-in-NotRead.ensures
