use Rattle.std.proofs.Common.{List, ℕ, subst}
use Rattle.bgp_text.specs.Lines.{Writes}
use Rattle.bgp_explain.proofs.LackedText.{same_cause}
use Rattle.bgp_explain.proofs.deed.put_lacked_cause.Goals as goal

pub returns : goal.returns
returns g c =
    subst (λ (t : List ℕ). Writes c.args.lines.now c.put_cause.new.lines t) (same_cause c.args.style.now.own_faults c.args.possible.now c.args.lacks.now)
    c.put_cause.ensures
