use Rattle.bgp_text.proofs.Pieces.{Joins, and_then}
use Rattle.bgp_list.specs.RefusalLine.{packet_end}
use Rattle.bgp_list.proofs.refusal_json.put_packet_end.Goals as goal

pub returns-clause-wrote : goal.returns-clause-wrote
unfolding packet_end
returns-clause-wrote g c =
    let law : Joins g.W.Sink = record { joined = g.met.W.Sink.joined } in
    and_then law c.put.ensures (and_then law c.put_decimal.ensures c.put-2.ensures)
