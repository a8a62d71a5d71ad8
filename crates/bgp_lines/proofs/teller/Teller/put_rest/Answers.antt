use Rattle.bgp_text.proofs.Pieces.{Joins, and_then}
use Rattle.bgp_lines.proofs.teller.Teller.put_rest.Goals as goal

pub returns-in-Names : goal.returns-in-Names
returns-in-Names g c =
    let law : Joins g.W.Sink = record { joined = g.met.W.Sink.joined } in
    rw c.in-Names.is (and_then law c.put_named_rest.ensures c.put.ensures)
