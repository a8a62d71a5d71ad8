use Rattle.std.proofs.Common.{◌∙◌, Bool, [], if◌then◌else◌, subst, sym}
use Rattle.bgp_check_lines.specs.Lines.{PutsLines}
use Rattle.bgp_check_lines.proofs.Puts.{no_lines}
use Rattle.bgp_check_tool.specs.Text.{told_lines}
use Rattle.bgp_check_tool.specs.Told.{told_value}
use Rattle.bgp_check_tool.proofs.blocks.put_kept.Goals as goal

pub returns-then-is_left_out : goal.returns-then-is_left_out
returns-then-is_left_out g c =
    let left = sym c.is_left_out.ensures ∙ c.if-is_left_out.true in
    subst (λ (b : Bool). PutsLines c.args.lines.now c.args.lines.now (if b then [] else told_lines c.args.printing.routes (told_value c.args.told.now))) (sym left)
    (no_lines g.met.W.Sink.nothing c.args.lines.now)
