use Rattle.std.proofs.Common.{◌∷◌, []}
use Rattle.bgp_why.specs.Items.{item_text}
use Rattle.bgp_why.specs.Lacks.{but_text}
use Rattle.bgp_json_verdicts.specs.Lines.{Possible, Reasons}
use Rattle.bgp_json_verdicts.proofs.Told.{failed}
use Rattle.bgp_verdict_lines.proofs.possible.tell_item.Goals as goal

pub returns-in_default : goal.returns-in_default
returns-in_default g c =
    let style = c.args.style.now in
    let item = c.args.item.now in
    rw c.fail.ensures
    (failed g.met.W.Sink.nothing c.args.lines.now c.args.telling.now
    (Reasons (Possible c.args.way.is_owed c.args.way.is_next c.args.is_first (item_text style.first item) (but_text style.own_faults c.args.lacks.now item)) ∷ []))
