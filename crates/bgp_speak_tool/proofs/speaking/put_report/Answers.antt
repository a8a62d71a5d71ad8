use Rattle.bgp_text.proofs.Pieces.{Joins, and_then}
use Rattle.bgp_speak_tool.proofs.speaking.put_report.Goals as goal

pub returns : goal.returns
returns g c =
    let law : Joins g.O.Sink = record { joined = g.met.O.Sink.joined } in
    and_then law c.put.ensures (and_then law c.put_decimal.ensures (and_then law c.put-2.ensures c.put_routes.ensures))
