use Rattle.bgp_text.proofs.Pieces.{Joins, and_then}
use Rattle.bgp_clock.specs.When.{time_text}
use Rattle.bgp_clock.proofs.texts.put_time.Goals as goal

pub returns : goal.returns
unfolding time_text
returns g c =
    let law : Joins g.W.Sink = record { joined = g.met.W.Sink.joined } in
    and_then law c.put_two.ensures (and_then law c.put.ensures (and_then law c.put_two-2.ensures (and_then law c.put-2.ensures c.put_two-3.ensures)))
