use Rattle.bgp_text.specs.Text.{path_id_text}
use Rattle.bgp_text.proofs.Pieces.{Joins, and_then}
use Rattle.bgp_text.proofs.updates.put_path_id.Goals as goal

pub returns-in-Some : goal.returns-in-Some
unfolding path_id_text
returns-in-Some g c =
    let law : Joins g.W.Sink = record { joined = g.met.W.Sink.joined } in
    rw c.in-Some.is (and_then law c.put.ensures (rw c.number.ensures at c.put_decimal.ensures))
