use Rattle.bgp_json_check.proofs.Told.{failed, still_failed, told_made}
use Rattle.bgp_json_check.proofs.teller.CheckTeller.put_made.Goals as goal

pub returns-then-self : goal.returns-then-self
returns-then-self g c = λ objects are.
    still_failed g.met.W.Sink.nothing c.args.lines.now c.args.self.now c.args.self.now.judged objects c.if-self.true

pub returns-in-Ok : goal.returns-in-Ok
returns-in-Ok g c = λ objects are.
    told_made c.args.lines.now c.put.new.self c.args.self.now objects c.in-Ok.text.items c.if-self.false (rw c.in-Ok.is at are) (rw c.as_slice.ensures.value at c.put.ensures)

pub returns-in-Err : goal.returns-in-Err
returns-in-Err g c = λ objects are.
    rw c.fail.ensures (failed g.met.W.Sink.nothing c.args.lines.now c.args.self.now c.args.self.now.judged objects)
