use Rattle.bgp_lines.specs.Notifications.{error_text}
use Rattle.bgp_text.proofs.Pieces.{Joins, and_then}
use Rattle.bgp_lines.proofs.notifications.put_error.Goals as goal

pub returns-in-None : goal.returns-in-None
unfolding error_text
returns-in-None g c = rw c.in-None.is c.put_plain_error.ensures

pub returns-in-Some : goal.returns-in-Some
unfolding error_text
returns-in-Some g c =
    let law : Joins g.W.Sink = record { joined = g.met.W.Sink.joined } in
    rw c.in-Some.is (and_then law c.put_codes.ensures (and_then law c.put.ensures c.put_plain_error-in-Some.ensures))
