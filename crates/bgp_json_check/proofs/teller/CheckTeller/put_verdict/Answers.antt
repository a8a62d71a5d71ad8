use Rattle.std.proofs.Common.{◌+◌, ◌∷◌, []}
use Rattle.bgp_json_check.specs.Objects.{verdict_json}
use Rattle.bgp_json_check.proofs.Told.{failed, still_failed}
use Rattle.bgp_json_check.proofs.teller.CheckTeller.put_verdict.Goals as goal

pub returns-then-self : goal.returns-then-self
returns-then-self g c =
    let judged = c.args.self.now.judged + 1 in
    still_failed g.met.W.Sink.nothing c.args.lines.now c.args.self.now judged (verdict_json judged c.args.verdict.now ∷ []) c.if-self.true

pub returns-in_default : goal.returns-in_default
returns-in_default g c =
    let judged = c.args.self.now.judged + 1 in
    rw c.fail.ensures (failed g.met.W.Sink.nothing c.args.lines.now c.args.self.now judged (verdict_json judged c.args.verdict.now ∷ []))
