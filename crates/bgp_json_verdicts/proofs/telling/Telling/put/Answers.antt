use Rattle.std.proofs.Common.{◌∷◌, []}
use Rattle.bgp_json_verdicts.specs.Lines.{line_value}
use Rattle.bgp_json_verdicts.proofs.Told.{still_failed, told_none, told_one}
use Rattle.bgp_json_verdicts.proofs.telling.Telling.put.Goals as goal

pub returns-then-self : goal.returns-then-self
returns-then-self g c = still_failed g.met.W.Sink.nothing c.args.lines.now c.args.self.now (line_value c.args.line.now ∷ []) c.if-self.true

pub returns-in-Ok : goal.returns-in-Ok
returns-in-Ok g c =
    let (is, wrote, value) = c.in-Ok.ensures in
    told_one c.args.lines.now c.put_counted.new.lines c.args.self.now (line_value c.args.line.now) c.in-Ok.counts c.if-self.false is wrote value

pub returns-in-Err : goal.returns-in-Err
returns-in-Err g c = rw c.fail.ensures (told_none c.args.lines.now c.put_counted.new.lines c.args.self.now (line_value c.args.line.now) c.in-Err.ensures)
