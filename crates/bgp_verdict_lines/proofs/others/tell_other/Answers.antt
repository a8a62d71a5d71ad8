use Rattle.std.proofs.Common.{◌∷◌, []}
use Rattle.bgp_why.specs.Items.{item_text}
use Rattle.bgp_json_verdicts.specs.Lines.{InAnotherOrder, Reasons}
use Rattle.bgp_json_verdicts.proofs.Told.{failed, nothing_told}
use Rattle.bgp_verdict_lines.proofs.others.tell_other.Goals as goal

pub returns-in_default : goal.returns-in_default
returns-in_default g c = rw c.in_default.is (nothing_told g.met.W.Sink.nothing c.args.lines.now c.args.telling.now)

pub returns-in-Err : goal.returns-in-Err
returns-in-Err g c =
    rw (c.in-Some.is, c.fail.ensures)
    (failed g.met.W.Sink.nothing c.args.lines.now c.args.telling.now (Reasons (InAnotherOrder (item_text c.args.style.now.first c.in-Some.item)) ∷ []))
