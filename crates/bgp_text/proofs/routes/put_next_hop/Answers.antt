use Rattle.bgp_text.specs.RouteText.{next_hop_text}
use Rattle.bgp_text.proofs.Pieces.{Joins, and_then}
use Rattle.bgp_text.proofs.routes.put_next_hop.Goals as goal

pub returns-in-V6WithLinkLocal : goal.returns-in-V6WithLinkLocal
unfolding next_hop_text
returns-in-V6WithLinkLocal g c =
    let law : Joins g.W.Sink = record { joined = g.met.W.Sink.joined } in
    rw c.in-V6WithLinkLocal.is (and_then law c.put_address-in-V6WithLinkLocal.ensures (and_then law c.put.ensures c.put_address-in-V6WithLinkLocal-2.ensures))
