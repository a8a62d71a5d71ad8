use Rattle.std.proofs.Common.{◌∙◌, List, ℕ, subst, sym}
use Rattle.bgp_text.proofs.Pieces.{Joins, and_then}
use Rattle.bgp_text.specs.Lines.{Writes}
use Rattle.bgp_html.proofs.Steps.{last_none, last_some}
use Rattle.bgp_html.proofs.printed.put_last.Goals as goal

pub returns-then-is_empty : goal.returns-then-is_empty
returns-then-is_empty g c =
    subst (λ (text : List ℕ). Writes c.args.lines.now c.put_open_end.new.lines text)
    (last_none c.args.count c.args.front.now (sym c.if-is_empty.true ∙ c.is_empty.ensures)) c.put_open_end.ensures

pub returns : goal.returns
returns g c =
    let law : Joins g.W.Sink = record { joined = g.met.W.Sink.joined } in
    let front = c.args.front.now in
    subst (λ (text : List ℕ). Writes c.args.lines.now c.put_end.new.lines text) (last_some c.args.count front (sym c.if-is_empty.false ∙ c.is_empty.ensures))
    (rw c.kind_of-kind.ensures at (and_then law c.put_begun.ensures c.put_end.ensures))
