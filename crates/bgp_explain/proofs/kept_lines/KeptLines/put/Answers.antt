use Rattle.std.proofs.Common.{◌∙◌, List, ℕ, subst}
use Rattle.bgp_verdict_lines.specs.Lines.{PutsLines}
use Rattle.bgp_explain.proofs.kept_lines.KeptLines.put.Goals as goal

pub returns-clause-ok : goal.returns-clause-ok
returns-clause-ok g c =
    let (text, is, put) = c.put_lines_with.ensures in
    subst (λ (t : List ℕ). PutsLines c.args.lines.now c.put_lines_with.new.lines t) (c.self.invariant.one text is ∙ c.self.view_is) put
