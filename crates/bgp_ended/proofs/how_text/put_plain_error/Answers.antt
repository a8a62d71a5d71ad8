use Rattle.bgp_text.proofs.Pieces.{Joins, and_then}
use Rattle.bgp_ended.specs.HowText.{plain_error_text}
use Rattle.bgp_ended.proofs.how_text.put_plain_error.Goals as goal

pub returns : goal.returns
unfolding plain_error_text
returns g c =
    let law : Joins g.W.Sink = record { joined = g.met.W.Sink.joined } in
    rw c.of.ensures at (and_then law c.put_full_code.ensures c.put_detail.ensures)
