use Rattle.std.proofs.Common.{◌∙◌, Bool, [], if◌then◌else◌, subst, sym}
use Rattle.bgp_check_lines.specs.Lines.{PutsLines}
use Rattle.bgp_check_lines.specs.Values.{nothing_at_line}
use Rattle.bgp_check_lines.proofs.Puts.{no_lines}
use Rattle.bgp_check_tool.proofs.nothing.put_nothing.Goals as goal

pub returns-else-is_empty : goal.returns-else-is_empty
returns-else-is_empty g c =
    let some = sym c.is_empty.ensures ∙ c.if-is_empty.false in
    subst (λ (b : Bool). PutsLines c.args.lines.now c.args.lines.now (if b then nothing_at_line c.args.port else [])) (sym some) (no_lines g.met.W.Sink.nothing c.args.lines.now)
