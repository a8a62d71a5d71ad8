use Rattle.bgp_text.proofs.Pieces.{Joins, and_then}
use Rattle.bgp_verdict_lines.proofs.reasons.put_unfit_text.Goals as goal

pub returns : goal.returns
returns g c =
    let law : Joins g.W.Sink = record { joined = g.met.W.Sink.joined } in
    and_then law c.put.ensures (and_then law (rw (c.as_bytes.ensures.value, c.unfit_text.ensures) at c.put-2.ensures) c.put-3.ensures)
