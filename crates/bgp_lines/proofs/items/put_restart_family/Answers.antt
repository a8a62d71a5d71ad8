use Rattle.bgp_lines.specs.ItemText.{item_text}
use Rattle.bgp_text.proofs.Pieces.{Joins, and_then}
use Rattle.bgp_lines.proofs.items.put_restart_family.Goals as goal

pub returns : goal.returns
unfolding item_text
returns g c =
    let law : Joins g.W.Sink = record { joined = g.met.W.Sink.joined } in
    and_then law c.put_family.ensures c.put_preserved.ensures
