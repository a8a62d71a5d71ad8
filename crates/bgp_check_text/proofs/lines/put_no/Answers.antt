use Rattle.bgp_check_text.specs.Text.{no_line}
use Rattle.bgp_text.proofs.Pieces.{Joins, and_then}
use Rattle.bgp_check_text.proofs.lines.put_no.Goals as goal

pub returns : goal.returns
unfolding no_line
returns g c =
    let law : Joins g.W.Sink = record { joined = g.met.W.Sink.joined } in
    and_then law c.put.ensures (and_then law c.put_place_when.ensures (and_then law c.put_end.ensures (and_then law c.put_deed_if.ensures c.put-2.ensures)))
