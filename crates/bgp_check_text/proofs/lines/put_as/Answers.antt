use Rattle.std.proofs.lemmas.Bool.{eq-eqb, ne_eqb}
use Rattle.bgp_text.proofs.Pieces.{Joins, and_then}
use Rattle.bgp_check_text.proofs.lines.put_as.Goals as goal

pub returns-then-number-eq-AS_TRANS : goal.returns-then-number-eq-AS_TRANS
returns-then-number-eq-AS_TRANS g c =
    let law : Joins g.W.Sink = record { joined = g.met.W.Sink.joined } in
    rw (eq-eqb c.args.number 23456 c.if-number-eq-AS_TRANS.true) (and_then law c.put_decimal.ensures c.put.ensures)

pub returns-else-number-eq-AS_TRANS : goal.returns-else-number-eq-AS_TRANS
returns-else-number-eq-AS_TRANS g c =
    let law : Joins g.W.Sink = record { joined = g.met.W.Sink.joined } in
    rw (ne_eqb c.args.number 23456 c.if-number-eq-AS_TRANS.false) (and_then law c.put_decimal.ensures c.put-else-number-eq-AS_TRANS.ensures)
