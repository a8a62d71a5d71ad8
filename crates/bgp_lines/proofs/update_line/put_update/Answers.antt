use Rattle.bgp_lines.specs.UpdateLine.{named_update}
use Rattle.bgp_text.proofs.Pieces.{Joins, and_then}
use Rattle.bgp_lines.proofs.update_line.put_update.Goals as goal

pub returns : goal.returns
unfolding named_update
returns g c =
    let law : Joins g.W.Sink = record { joined = g.met.W.Sink.joined } in
    and_then law c.put.ensures c.put_body.ensures
