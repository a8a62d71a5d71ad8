use Rattle.bgp_text.proofs.Pieces.{Joins, and_then}
use Rattle.bgp_report.proofs.Written.{ended}
use Rattle.bgp_report.proofs.stretches.put_lost.Goals as goal

pub returns : goal.returns
returns g c =
    let law : Joins g.W.Sink = record { joined = g.met.W.Sink.joined } in
    and_then law c.put_tag.ensures (and_then law c.put_escaped.ensures (and_then law c.put_tag-2.ensures (and_then law c.put_escaped-2.ensures (ended c.put_tag-3.ensures))))
