use Rattle.bgp_check_text.specs.States.{established_text}
use Rattle.bgp_text.proofs.Pieces.{Joins, and_then}
use Rattle.bgp_check_text.proofs.states.put_established.Goals as goal

pub returns : goal.returns
unfolding established_text
returns g c =
    let law : Joins g.W.Sink = record { joined = g.met.W.Sink.joined } in
    and_then law c.put.ensures (and_then law c.put_disabled.ensures (and_then law c.put-2.ensures c.put_decimal.ensures))
