use Rattle.bgp_text.proofs.Pieces.{Joins, and_then}
use Rattle.bgp_clock.specs.When.{clock_text}
use Rattle.bgp_clock.proofs.texts.put_clock.Goals as goal

pub returns : goal.returns
unfolding clock_text
returns g c =
    let law : Joins g.W.Sink = record { joined = g.met.W.Sink.joined } in
    and_then law c.put_time.ensures c.put_fraction.ensures
