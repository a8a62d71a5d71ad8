use Rattle.bgp_text.specs.Text.{malformed_open_text}
use Rattle.bgp_text.proofs.Pieces.{Joins, and_then}
use Rattle.bgp_text.proofs.messages.put_malformed_open.Goals as goal

pub returns : goal.returns
unfolding malformed_open_text
returns g c =
    let law : Joins g.W.Sink = record { joined = g.met.W.Sink.joined } in
    let text = and_then law c.put.ensures c.put_decimal.ensures in
    rw (c.number.ensures) at text
