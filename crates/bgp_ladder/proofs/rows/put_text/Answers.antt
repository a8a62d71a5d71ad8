use Rattle.std.proofs.Common.{ℕ, List, subst, sym}
use Rattle.bgp_text.specs.Lines.{Writes}
use Rattle.bgp_ladder.proofs.rows.put_text.Goals as goal

pub returns-then-is_plain : goal.returns-then-is_plain
returns-then-is_plain g c =
    subst (λ (t : List ℕ). Writes c.args.lines.now c.put.new.self t) (sym (c.requires c.if-is_plain.true)) c.put.ensures
