use Rattle.std.proofs.Common.{◌∙◌}
use Rattle.bgp_text.proofs.Pieces.{Joins, and_then}
use Rattle.bgp_lines.proofs.items.put_joined.Goals as goal

pub returns-in_default : goal.returns-in_default
returns-in_default g c = rw (rw c.size.ensures.size at c.in_default.ensures.none) c.put.ensures

pub put_item-requires : goal.put_item-requires
put_item-requires g c = c.in-Some.ensures.size ∙ c.size.ensures.size

pub returns : goal.returns
returns g c =
    let law : Joins g.W.Sink = record { joined = g.met.W.Sink.joined } in
    rw (rw c.size.ensures.size at c.in-Some.ensures.some) (and_then law c.put_item.ensures c.put_each.ensures)
