use Rattle.std.proofs.lemmas.Bool.{ne_eqb}
use Rattle.bgp_text.proofs.Pieces.{Joins, and_then}
use Rattle.bgp_why.proofs.items.put_from.Goals as goal

pub returns-else-from-eq0 : goal.returns-else-from-eq0
returns-else-from-eq0 g c =
    let law : Joins g.W.Sink = record { joined = g.met.W.Sink.joined } in
    rw (ne_eqb c.args.from 0 c.if-from-eq0.false) (and_then law c.put-else-from-eq0.ensures (and_then law c.put_short.ensures c.put-else-from-eq0-2.ensures))
