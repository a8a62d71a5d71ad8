use Rattle.bgp_check_text.specs.States.{before_line}
use Rattle.bgp_text.proofs.Pieces.{Joins, and_then}
use Rattle.bgp_check_text.proofs.states.put_before_line.Goals as goal

pub returns : goal.returns
unfolding before_line
returns g c =
    let law : Joins g.W.Sink = record { joined = g.met.W.Sink.joined } in
    and_then law c.put.ensures (and_then law c.put_disabled.ensures (and_then law c.put-2.ensures (and_then law c.put_decimal.ensures c.put-3.ensures)))
