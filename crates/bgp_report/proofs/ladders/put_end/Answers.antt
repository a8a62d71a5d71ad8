use Rattle.bgp_report.proofs.ladders.put_end.Goals as goal

pub returns-in-Some : goal.returns-in-Some
returns-in-Some g c = λ port packets text held noted. rw c.in-Some.is (c.put_judged.ensures port packets text held noted)
