use Rattle.bgp_text.proofs.Pieces.{Joins, and_then}
use Rattle.bgp_lines.specs.Notifications.{bracketed_codes_text}
use Rattle.bgp_lines.proofs.notifications.put_bracketed_codes.Goals as goal

pub returns : goal.returns
unfolding bracketed_codes_text
returns g c =
    let law : Joins g.W.Sink = record { joined = g.met.W.Sink.joined } in
    and_then law c.put_decimal.ensures (and_then law c.put.ensures (and_then law c.put_decimal-2.ensures (and_then law c.put-2.ensures (and_then law c.put_error_name.ensures c.put-3.ensures))))
