use Rattle.bgp_lines.specs.OpenLine.{named_capability}
use Rattle.bgp_text.proofs.Pieces.{Joins, and_then}
use Rattle.bgp_lines.proofs.open_line.put_capability.Goals as goal

pub returns : goal.returns
unfolding named_capability
returns g c =
    let law : Joins g.W.Sink = record { joined = g.met.W.Sink.joined } in
    rw c.of.ensures at (and_then law c.put_capability_name.ensures c.put_said.ensures)
