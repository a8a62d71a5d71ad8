use Rattle.bgp_text.specs.RouteText.{optional_text}
use Rattle.bgp_text.proofs.Pieces.{Joins, and_then}
use Rattle.bgp_text.proofs.routes.put_optional.Goals as goal

pub returns : goal.returns
unfolding optional_text
returns g c =
    let law : Joins g.W.Sink = record { joined = g.met.W.Sink.joined } in
    let communities = rw c.as_slice.ensures.numbers at c.put_communities.ensures in
    let extended = rw c.as_slice-2.ensures.values at c.put_extended.ensures in
    let large = rw c.as_slice-3.ensures.values at c.put_large.ensures in
    let clusters = rw c.as_slice-4.ensures.values at c.put_clusters.ensures in
    let lists = and_then law communities (and_then law extended (and_then law large (and_then law c.put_router.ensures clusters))) in
    rw (← c.parts-parts.ensures.value)
    (and_then law c.put_number.ensures (and_then law c.put_number-2.ensures (and_then law c.put_if.ensures (and_then law c.put_aggregator.ensures lists))))
