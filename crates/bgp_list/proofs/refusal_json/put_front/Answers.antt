use Rattle.bgp_text.proofs.Pieces.{Joins, and_then}
use Rattle.bgp_list.specs.RefusalLine.{front_text}
use Rattle.bgp_list.proofs.refusal_json.put_front.Goals as goal

pub returns-clause-wrote : goal.returns-clause-wrote
unfolding front_text
returns-clause-wrote g c =
    let law : Joins g.W.Sink = record { joined = g.met.W.Sink.joined } in
    let what = rw c.as_bytes.ensures.value at c.put-2.ensures in
    let name = rw c.as_bytes-2.ensures.value at c.put-5.ensures in
    and_then law c.put.ensures (and_then law what (and_then law c.put-3.ensures (and_then law c.put_decimal.ensures (and_then law c.put-4.ensures (and_then law name c.put-6.ensures)))))
