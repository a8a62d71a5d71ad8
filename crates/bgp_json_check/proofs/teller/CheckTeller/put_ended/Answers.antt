use Rattle.std.proofs.Common.{◌∷◌, []}
use Rattle.bgp_list.specs.Values.{how_value}
use Rattle.bgp_json_check.specs.Objects.{ended_json}
use Rattle.bgp_json_check.proofs.Told.{still_failed, told_more, told_none}
use Rattle.bgp_json_check.proofs.teller.CheckTeller.put_ended.Goals as goal

pub returns-then-self : goal.returns-then-self
returns-then-self g c = still_failed g.met.W.Sink.nothing c.args.lines.now c.args.self.now c.args.self.now.judged (ended_json c.args.self.now.judged c.args.at.now c.args.by.now (how_value c.args.how) ∷ []) c.if-self.true

pub returns-in-Ok : goal.returns-in-Ok
returns-in-Ok g c =
    let (wrote, value) = c.in-Ok.ensures in
    told_more c.args.lines.now c.put_ended_object.new.lines c.args.self.now (ended_json c.args.self.now.judged c.args.at.now c.args.by.now (how_value c.args.how)) c.if-self.false wrote value

pub returns-in-Err : goal.returns-in-Err
returns-in-Err g c = rw c.fail.ensures (told_none c.args.lines.now c.put_ended_object.new.lines c.args.self.now (ended_json c.args.self.now.judged c.args.at.now c.args.by.now (how_value c.args.how)) c.args.self.now.judged c.in-Err.ensures)
