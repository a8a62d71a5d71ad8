use Rattle.bgp_names.proofs.Pieces.{Joins, and_then}
use Rattle.bgp_why_parts.specs.Codes.{full_code_text}
use Rattle.bgp_why_parts.proofs.codes.put_full_code.Goals as goal

pub returns : goal.returns
unfolding full_code_text
returns g c =
    let law : Joins g.W.Sink = record { joined = g.met.W.Sink.joined } in
    and_then law c.put_decimal.ensures (and_then law c.put.ensures (and_then law c.put_decimal-2.ensures (and_then law c.put-2.ensures (and_then law c.put_error_name.ensures c.put-3.ensures))))
