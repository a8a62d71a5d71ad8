use Rattle.bgp_text.proofs.Pieces.{Joins, and_then}
use Rattle.bgp_lines.proofs.quoting.put_quoted.Goals as goal

pub returns : goal.returns
returns g c =
    let law : Joins g.W.Sink = record { joined = g.met.W.Sink.joined } in
    rw c.as_bytes.ensures.value at (and_then law c.put.ensures (and_then law c.put_all_escaped.ensures c.put-2.ensures))
