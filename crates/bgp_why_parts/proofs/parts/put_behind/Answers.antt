use Rattle.std.proofs.Common.{◌∙◌, List, ℕ, length, subst, sym}
use Rattle.std.proofs.lemmas.Bool.{eqb-false, eqb-true}
use Rattle.bgp_names.proofs.Pieces.{Joins, and_then, nothing_yet}
use Rattle.bgp_names.specs.Lines.{Writes}
use Rattle.bgp_why_parts.proofs.Behind.{none_behind, some_behind}
use Rattle.bgp_why_parts.proofs.parts.put_behind.Goals as goal

pub returns-then-is_empty : goal.returns-then-is_empty
returns-then-is_empty g c = λ text front.
    let none = eqb-true (length c.args.front.now) 0 (sym c.is_empty.ensures ∙ c.if-is_empty.true) in
    subst (λ (t : List ℕ). Writes c.args.lines.now c.args.lines.now t) (sym (none_behind c.args.before.now text c.args.front.now front none))
    (nothing_yet g.W.Sink g.met.W.Sink.nothing c.args.lines.now.outlet c.args.lines.now.held.items)

pub returns : goal.returns
returns g c = λ text front.
    let law : Joins g.W.Sink = record { joined = g.met.W.Sink.joined } in
    let some = eqb-false (length c.args.front.now) 0 (sym c.is_empty.ensures ∙ c.if-is_empty.false) in
    subst (λ (t : List ℕ). Writes c.args.lines.now c.put_cut.new.lines t) (sym (some_behind c.args.before.now text c.args.front.now front some))
    (and_then law c.put.ensures (c.put_cut.ensures text front))
