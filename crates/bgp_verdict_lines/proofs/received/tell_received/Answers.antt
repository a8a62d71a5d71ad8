use Rattle.std.proofs.Common.{◌∷◌, []}
use Rattle.bgp_json_verdicts.specs.Lines.{LastReceived, Reasons}
use Rattle.bgp_json_verdicts.proofs.Told.{failed}
use Rattle.bgp_verdict_lines.proofs.received.tell_received.Goals as goal

pub returns-in_default : goal.returns-in_default
returns-in_default g c = λ named asks is so.
    rw c.fail.ensures (failed g.met.W.Sink.nothing c.args.lines.now c.args.telling.now (Reasons (LastReceived c.args.at named asks) ∷ []))
