use Rattle.bgp_text.proofs.Pieces.{Joins, and_then}
use Rattle.bgp_ended.specs.HowText.{caused_text}
use Rattle.bgp_ended.proofs.how_text.put_caused.Goals as goal

pub returns-in-Some : goal.returns-in-Some
unfolding caused_text
returns-in-Some g c =
    let law : Joins g.W.Sink = record { joined = g.met.W.Sink.joined } in
    rw c.in-Some.is (and_then law c.put_full_code.ensures (and_then law c.put.ensures c.put_plain_error-in-Some.ensures))
