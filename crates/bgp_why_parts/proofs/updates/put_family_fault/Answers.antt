use Rattle.bgp_names.proofs.Pieces.{Joins, and_then}
use Rattle.bgp_why_parts.proofs.updates.put_family_fault.Goals as goal

pub returns : goal.returns
returns g c =
    let law : Joins g.W.Sink = record { joined = g.met.W.Sink.joined } in
    let family = rw (c.as_bytes.ensures.value, c.family_word.ensures) at c.put-2.ensures in
    and_then law c.put.ensures (and_then law family c.put-3.ensures)
