use Rattle.bgp_why.specs.Deed.{sent_deed}
use Rattle.bgp_text.proofs.Pieces.{Joins, and_then}
use Rattle.bgp_why.proofs.deed.put_sent.Goals as goal

pub returns : goal.returns
unfolding sent_deed
returns g c =
    let law : Joins g.W.Sink = record { joined = g.met.W.Sink.joined } in
    and_then law c.put.ensures (and_then law c.put_name.ensures (and_then law c.put-2.ensures c.put_endpoint.ensures))
