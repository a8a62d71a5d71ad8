use Rattle.bgp_lines.specs.Notifications.{caused_data_text}
use Rattle.bgp_text.proofs.Pieces.{Joins, and_then}
use Rattle.bgp_lines.proofs.notifications.put_caused_data.Goals as goal

pub returns-in-None : goal.returns-in-None
unfolding caused_data_text
returns-in-None g c = rw c.in-None.is (rw c.of.ensures at c.put_plain_data.ensures)

pub returns-in-Some : goal.returns-in-Some
unfolding caused_data_text
returns-in-Some g c =
    let law : Joins g.W.Sink = record { joined = g.met.W.Sink.joined } in
    rw c.in-Some.is (rw c.of-in-Some.ensures at (and_then law c.put_bracketed_codes.ensures c.put_detail.ensures))
