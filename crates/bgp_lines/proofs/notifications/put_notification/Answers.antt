use Rattle.bgp_lines.specs.Notifications.{named_notification}
use Rattle.bgp_text.proofs.Pieces.{Joins, and_then}
use Rattle.bgp_lines.proofs.notifications.put_notification.Goals as goal

pub returns : goal.returns
unfolding named_notification
returns g c =
    let law : Joins g.W.Sink = record { joined = g.met.W.Sink.joined } in
    rw c.cause_of.ensures at (and_then law c.put.ensures c.put_error.ensures)
