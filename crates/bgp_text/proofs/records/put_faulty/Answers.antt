use Rattle.bgp_text.specs.Capture.{faulty_text}
use Rattle.bgp_text.proofs.Pieces.{Joins, and_then}
use Rattle.bgp_text.proofs.records.put_faulty.Goals as goal

pub returns : goal.returns
unfolding faulty_text
returns g c =
    let law : Joins g.W.Sink = record { joined = g.met.W.Sink.joined } in
    and_then law c.put.ensures c.put_subcodes.ensures
