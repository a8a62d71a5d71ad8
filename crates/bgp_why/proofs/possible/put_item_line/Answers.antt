use Rattle.bgp_why.specs.Possible.{item_line}
use Rattle.bgp_text.proofs.Pieces.{Joins, and_then}
use Rattle.bgp_why.proofs.possible.put_item_line.Goals as goal

pub returns : goal.returns
unfolding item_line
returns g c =
    let law : Joins g.W.Sink = record { joined = g.met.W.Sink.joined } in
    and_then law c.put.ensures (and_then law c.put-2.ensures (and_then law c.put_item.ensures (and_then law c.put_but.ensures c.put-3.ensures)))
