use Rattle.bgp_import.specs.ListText.{refused_text}
use Rattle.bgp_text.proofs.Pieces.{Joins, and_then}
use Rattle.bgp_import.proofs.listing.put_refused.Goals as goal

pub returns : goal.returns
unfolding refused_text
returns g c =
    let law : Joins g.W.Sink = record { joined = g.met.W.Sink.joined } in
    and_then law c.put.ensures c.put_reason.ensures
