use Rattle.bgp_why.specs.State.{sent_line}
use Rattle.bgp_text.proofs.Pieces.{Joins, and_then}
use Rattle.bgp_why.proofs.state.put_sent.Goals as goal

pub returns : goal.returns
unfolding sent_line
returns g c =
    let law : Joins g.W.Sink = record { joined = g.met.W.Sink.joined } in
    and_then law c.put.ensures (and_then law c.put_full_code.ensures (and_then law c.put-2.ensures (and_then law c.put_place_at.ensures c.put-3.ensures)))
