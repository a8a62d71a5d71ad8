use Rattle.bgp_json_check.proofs.putting.put_verdict_object.Goals as goal

pub returns-in-Yes : goal.returns-in-Yes
returns-in-Yes g c = rw c.in-Yes.is c.put_judged.ensures

pub returns-in-Unfinished : goal.returns-in-Unfinished
returns-in-Unfinished g c = rw c.in-Unfinished.is c.put_judged-in-Unfinished.ensures

pub returns-in-NotJudged : goal.returns-in-NotJudged
returns-in-NotJudged g c = rw c.in-NotJudged.is c.put_judged-in-NotJudged.ensures
