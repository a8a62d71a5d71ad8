use Rattle.bgp_lines.specs.Others.{named_stream_fault}
use Rattle.bgp_text.proofs.Pieces.{Joins, and_then}
use Rattle.bgp_lines.proofs.others.put_named_stream_fault.Goals as goal

pub returns : goal.returns
unfolding named_stream_fault
returns g c =
    let law : Joins g.W.Sink = record { joined = g.met.W.Sink.joined } in
    rw c.fault_subcodes.ensures at (and_then law c.put.ensures (and_then law c.put_decimal.ensures (and_then law c.put-2.ensures (and_then law c.put_faults.ensures c.put_header.ensures))))
