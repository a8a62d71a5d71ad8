use Rattle.bgp_text.proofs.Pieces.{Joins, and_then}
use Rattle.bgp_check_lines.specs.Values.{unnamed_line}
use Rattle.bgp_check_lines.proofs.verdicts.put_unnamed_text.Goals as goal

pub returns : goal.returns
unfolding unnamed_line
returns g c =
    let law : Joins g.W.Sink = record { joined = g.met.W.Sink.joined } in
    let why = rw c.as_bytes.ensures.value at c.put-3.ensures in
    and_then law c.put.ensures (and_then law c.put_unnamed_end.ensures (and_then law c.put-2.ensures (and_then law why c.put-4.ensures)))
