use Rattle.std.proofs.Common.{List, ℕ, subst}
use Rattle.bgp_verdict_lines.specs.Lines.{PutsLines}
use Rattle.bgp_explain.proofs.LackedText.{same_lines}
use Rattle.bgp_explain.proofs.why.put_following.Goals as goal

pub returns : goal.returns
returns g c =
    subst (λ (t : List ℕ). PutsLines c.args.lines.now c.put_possible_but.new.lines t) (same_lines c.args.style.now c.args.possible.now c.args.lacks.now) c.put_possible_but.ensures
