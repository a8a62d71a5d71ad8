use Rattle.bgp_import.specs.Refusals.{refusal_line}
use Rattle.bgp_text.proofs.Pieces.{Joins, and_then}
use Rattle.bgp_import.proofs.listing.put_refusal.Goals as goal

pub returns : goal.returns
unfolding refusal_line
returns g c =
    let law : Joins g.W.Sink = record { joined = g.met.W.Sink.joined } in
    let text = and_then law c.put.ensures (and_then law c.put_reason.ensures (and_then law c.put_place.ensures c.put-2.ensures)) in
    rw c.place.ensures at text
