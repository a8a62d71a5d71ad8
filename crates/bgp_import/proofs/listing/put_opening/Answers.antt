use Rattle.bgp_import.specs.ListText.{opening_text}
use Rattle.bgp_text.proofs.Pieces.{Joins, and_then}
use Rattle.bgp_import.proofs.listing.put_opening.Goals as goal

pub returns : goal.returns
unfolding opening_text
returns g c =
    let law : Joins g.W.Sink = record { joined = g.met.W.Sink.joined } in
    let text = and_then law c.put.ensures (and_then law c.put_decimal.ensures (and_then law c.put-2.ensures (and_then law c.put_end.ensures (and_then law c.put-3.ensures (and_then law c.put_end-2.ensures (and_then law c.put-4.ensures c.put_decimal-2.ensures)))))) in
    rw (c.end_of.ensures, c.end_of-2.ensures, c.other_side.ensures) at text
