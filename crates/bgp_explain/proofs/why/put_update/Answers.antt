use Rattle.std.proofs.Common.{List, ℕ, subst}
use Rattle.bgp_verdict_lines.specs.Lines.{PutsLines}
use Rattle.bgp_explain.proofs.LackedText.{same_line}
use Rattle.bgp_explain.proofs.why.put_update.Goals as goal

pub returns : goal.returns
returns g c =
    subst (λ (t : List ℕ). PutsLines c.args.lines.now c.put_last_update.new.lines t) (same_line c.args.style.now c.args.place.now c.args.name.now c.args.update.now) c.put_last_update.ensures
