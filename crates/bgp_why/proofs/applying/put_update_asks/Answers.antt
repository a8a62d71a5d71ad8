use Rattle.std.proofs.Common.{◌∙◌, length, sym}
use Rattle.std.proofs.lemmas.Bool.{eqb-false, eqb-true}
use Rattle.bgp_text.proofs.Pieces.{Joins, and_then}
use Rattle.bgp_why.proofs.Applied.{asks_nothing, asks_of_parts}
use Rattle.bgp_why.proofs.applying.put_update_asks.Goals as goal

pub returns-then-is_empty : goal.returns-then-is_empty
returns-then-is_empty g c =
    rw (asks_nothing c.args.applied c.args.refused.now c.args.parts.now (eqb-true (length c.args.parts.now) 0 (sym c.is_empty.ensures ∙ c.if-is_empty.true))) c.put.ensures

pub returns-else-is_empty : goal.returns-else-is_empty
returns-else-is_empty g c =
    let law : Joins g.W.Sink = record { joined = g.met.W.Sink.joined } in
    rw (asks_of_parts c.args.applied c.args.refused.now c.args.parts.now (eqb-false (length c.args.parts.now) 0 (sym c.is_empty.ensures ∙ c.if-is_empty.false)))
    (and_then law c.put_outcomes.ensures (and_then law c.put-else-is_empty.ensures c.put_parts.ensures))
