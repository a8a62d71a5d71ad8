use Rattle.bgp_text.proofs.Pieces.{Joins, and_then}
use Rattle.bgp_clock.specs.When.{when_text}
use Rattle.bgp_clock.proofs.texts.put_when.Goals as goal

pub returns : goal.returns
unfolding when_text
returns g c =
    let law : Joins g.W.Sink = record { joined = g.met.W.Sink.joined } in
    and_then law c.put_date.ensures (and_then law c.put.ensures c.put_clock.ensures)
