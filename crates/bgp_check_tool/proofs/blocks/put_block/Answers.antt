use Rattle.std.proofs.Common.{List, ℕ, subst}
use Rattle.bgp_check_lines.specs.Lines.{PutsLines}
use Rattle.bgp_check_tool.proofs.Texts.{text_of_ends}
use Rattle.bgp_check_tool.proofs.blocks.put_block.Goals as goal

pub returns-in-Ok : goal.returns-in-Ok
returns-in-Ok g c =
    rw c.in-Ok.is
    (subst (λ (text : List ℕ). PutsLines c.args.lines.now c.put_ends.new.lines text) (text_of_ends c.args.printing c.args.session.now c.args.opening c.in-Ok.ends) c.put_ends.ensures)
