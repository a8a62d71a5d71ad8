use Rattle.std.proofs.Common.{◌∷◌, []}
use Rattle.bgp_json_check.specs.Objects.{route_json}
use Rattle.bgp_json_check.proofs.Told.{still_failed, told_more, told_none}
use Rattle.bgp_json_check.proofs.teller.CheckTeller.put_route.Goals as goal

pub returns-then-self : goal.returns-then-self
returns-then-self g c = still_failed g.met.W.Sink.nothing c.args.lines.now c.args.self.now c.args.self.now.judged (route_json c.args.kind.now c.args.self.now.judged c.args.end (c.args.destination, c.args.path.now) ∷ []) c.if-self.true

pub returns-in-Ok : goal.returns-in-Ok
returns-in-Ok g c =
    let (wrote, value) = c.in-Ok.ensures in
    told_more c.args.lines.now c.put_route_object.new.lines c.args.self.now (route_json c.args.kind.now c.args.self.now.judged c.args.end (c.args.destination, c.args.path.now)) c.if-self.false wrote value

pub returns-in-Err : goal.returns-in-Err
returns-in-Err g c = rw c.fail.ensures (told_none c.args.lines.now c.put_route_object.new.lines c.args.self.now (route_json c.args.kind.now c.args.self.now.judged c.args.end (c.args.destination, c.args.path.now)) c.args.self.now.judged c.in-Err.ensures)
