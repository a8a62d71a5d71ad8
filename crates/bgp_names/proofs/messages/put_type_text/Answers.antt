use Rattle.bgp_text.proofs.Pieces.{Joins, and_then}
use Rattle.bgp_names.proofs.messages.put_type_text.Goals as goal

pub returns : goal.returns
returns g c =
    let law : Joins g.W.Sink = record { joined = g.met.W.Sink.joined } in
    and_then law c.put_decimal.ensures (rw c.name_of_type.ensures at c.put_after_blank.ensures)
