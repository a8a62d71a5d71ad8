use Rattle.std.proofs.Common.{◌∷◌, []}
use Rattle.bgp_json.specs.Others.{capture_json}
use Rattle.bgp_json_check.proofs.Told.{still_failed, told_more}
use Rattle.bgp_json_check.proofs.teller.CheckTeller.put_capture_fault.Goals as goal

pub returns-then-self : goal.returns-then-self
returns-then-self g c = still_failed g.met.W.Sink.nothing c.args.lines.now c.args.self.now c.args.self.now.judged (capture_json c.args.fault ∷ []) c.if-self.true

pub returns : goal.returns
returns g c = told_more c.args.lines.now c.put_fault_json.new.lines c.args.self.now (capture_json c.args.fault) c.if-self.false c.put_fault_json.ensures.wrote c.put_fault_json.ensures.is_value
