use Rattle.bgp_judge.specs.Verdict.{No}
use Rattle.bgp_json_verdicts.specs.Lines.{verdict_lines}
use Rattle.bgp_json_verdicts.proofs.Told.{failed}
use Rattle.bgp_json_verdicts.proofs.telling.Telling.put_no.Goals as goal

pub returns-in-None : goal.returns-in-None
returns-in-None g c = rw c.fail.ensures (failed g.met.W.Sink.nothing c.args.lines.now c.args.self.now (verdict_lines (No c.args.count)))
