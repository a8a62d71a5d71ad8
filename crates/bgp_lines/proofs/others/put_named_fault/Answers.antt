use Rattle.bgp_lines.specs.Others.{named_fault}
use Rattle.bgp_text.proofs.Pieces.{Joins, and_then}
use Rattle.bgp_lines.proofs.others.put_named_fault.Goals as goal

pub returns : goal.returns
unfolding named_fault
returns g c =
    let law : Joins g.W.Sink = record { joined = g.met.W.Sink.joined } in
    rw (c.fault_subcodes.ensures, c.in-Some.ensures.some) at (and_then law c.put.ensures (and_then law c.put_faults.ensures c.put_header.ensures))
