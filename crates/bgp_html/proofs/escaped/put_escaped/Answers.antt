use Rattle.std.proofs.Common.{ℕ, List, subst, sym}
use Rattle.bgp_text.specs.Lines.{Writes}
use Rattle.bgp_html.proofs.escaped.put_escaped.Goals as goal

pub returns-then-are_plain : goal.returns-then-are_plain
returns-then-are_plain g c =
    subst (λ (t : List ℕ). Writes c.args.lines.now c.put.new.self t) (sym (c.are_plain.ensures c.if-are_plain.true)) c.put.ensures
