use Rattle.bgp_text.proofs.Pieces.{Joins, and_then}
use Rattle.bgp_report.proofs.ladder.put_start.Goals as goal

pub returns : goal.returns
returns g c =
    let law : Joins g.W.Sink = record { joined = g.met.W.Sink.joined } in
    and_then law (rw c.details_of.ensures at c.put_tag.ensures) (and_then law (rw c.deref.ensures.value at c.put_escaped.ensures) (and_then law c.put_tag-2.ensures
    (rw c.deref-2.ensures.value at (rw c.deref-3.ensures.value at c.put_head.ensures))))
