use Rattle.std.proofs.Common.{◌∷◌, []}
use Rattle.bgp_list.specs.ConnectionJson.{refused_json}
use Rattle.bgp_json_check.proofs.Told.{still_failed, told_more}
use Rattle.bgp_json_check.proofs.teller.CheckTeller.put_refused.Goals as goal

pub returns-then-self : goal.returns-then-self
returns-then-self g c = still_failed g.met.W.Sink.nothing c.args.lines.now c.args.self.now c.args.self.now.judged (refused_json c.args.refusal ∷ []) c.if-self.true

pub returns : goal.returns
returns g c = told_more c.args.lines.now c.put_refused_json.new.lines c.args.self.now (refused_json c.args.refusal) c.if-self.false c.put_refused_json.ensures.wrote c.put_refused_json.ensures.is_value
