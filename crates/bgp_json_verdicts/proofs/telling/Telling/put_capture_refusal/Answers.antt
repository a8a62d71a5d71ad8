use Rattle.std.proofs.Common.{◌∷◌, [], refl}
use Rattle.bgp_json_verdicts.specs.Lines.{RefusesCapture}
use Rattle.bgp_json_verdicts.proofs.Told.{still_failed, told_none, told_one}
use Rattle.bgp_json_verdicts.proofs.telling.Telling.put_capture_refusal.Goals as goal

pub returns-then-self : goal.returns-then-self
returns-then-self g c = still_failed g.met.W.Sink.nothing c.args.lines.now c.args.self.now (RefusesCapture c.args.fault ∷ []) c.if-self.true

pub returns-in-Ok : goal.returns-in-Ok
returns-in-Ok g c =
    let (wrote, value) = c.in-Ok.ensures in
    told_one c.args.lines.now c.put_json_capture_refusal.new.lines c.args.self.now (RefusesCapture c.args.fault) c.args.self.now.counts c.if-self.false refl wrote value

pub returns-in-Err : goal.returns-in-Err
returns-in-Err g c = rw c.fail.ensures (told_none c.args.lines.now c.put_json_capture_refusal.new.lines c.args.self.now (RefusesCapture c.args.fault) c.in-Err.ensures)
