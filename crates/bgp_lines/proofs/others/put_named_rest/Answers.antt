use Rattle.bgp_lines.specs.Others.{named_rest}
use Rattle.bgp_text.proofs.Pieces.{Joins, and_then}
use Rattle.bgp_lines.proofs.others.put_named_rest.Goals as goal

pub returns : goal.returns
unfolding named_rest
returns g c =
    let law : Joins g.W.Sink = record { joined = g.met.W.Sink.joined } in
    and_then law c.put.ensures (and_then law c.put_decimal.ensures (and_then law c.put-2.ensures c.put_digits.ensures))
