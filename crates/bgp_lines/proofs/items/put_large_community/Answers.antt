use Rattle.bgp_lines.specs.ItemText.{item_text}
use Rattle.bgp_text.proofs.Pieces.{Joins, and_then}
use Rattle.bgp_lines.proofs.items.put_large_community.Goals as goal

pub returns : goal.returns
unfolding item_text
returns g c =
    let law : Joins g.W.Sink = record { joined = g.met.W.Sink.joined } in
    rw (c.read_u32.ensures, c.read_u32-2.ensures, c.read_u32-3.ensures, c.behind.ensures, c.behind-2.ensures) at (and_then law c.put_decimal.ensures (and_then law c.put.ensures (and_then law c.put_decimal-2.ensures (and_then law c.put-2.ensures c.put_decimal-3.ensures))))
