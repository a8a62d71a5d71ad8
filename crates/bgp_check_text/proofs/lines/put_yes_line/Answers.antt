use Rattle.bgp_check_text.specs.Text.{yes_line}
use Rattle.bgp_text.proofs.Pieces.{Joins, and_then}
use Rattle.bgp_check_text.proofs.lines.put_yes_line.Goals as goal

pub returns : goal.returns
unfolding yes_line
returns g c =
    let law : Joins g.W.Sink = record { joined = g.met.W.Sink.joined } in
    and_then law c.put.ensures (and_then law c.put_end.ensures (and_then law c.put_peer.ensures (and_then law c.put-2.ensures (and_then law c.put_states.ensures c.put-3.ensures))))
