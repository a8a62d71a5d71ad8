use Rattle.bgp_lines.specs.Notifications.{data_text}
use Rattle.bgp_text.proofs.Pieces.{Joins, and_then}
use Rattle.bgp_lines.proofs.notifications.put_data.Goals as goal

pub returns-in-Maximum : goal.returns-in-Maximum
unfolding data_text
returns-in-Maximum g c =
    let law : Joins g.W.Sink = record { joined = g.met.W.Sink.joined } in
    rw c.in-Maximum.is (and_then law c.put_family_name.ensures (and_then law c.put.ensures (and_then law c.put_decimal.ensures c.put-in-Maximum.ensures)))
