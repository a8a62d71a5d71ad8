use Rattle.bgp_text.specs.Text.{fault_line}
use Rattle.bgp_text.proofs.Pieces.{Joins, and_then}
use Rattle.bgp_text.proofs.messages.put_fault.Goals as goal

pub returns : goal.returns
unfolding fault_line
returns g c =
    let law : Joins g.W.Sink = record { joined = g.met.W.Sink.joined } in
    and_then law c.put.ensures (and_then law c.put_decimal.ensures (and_then law c.put_subcodes.ensures c.put-2.ensures))
