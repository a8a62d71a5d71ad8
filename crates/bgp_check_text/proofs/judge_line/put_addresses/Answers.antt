use Rattle.bgp_text.proofs.Pieces.{Joins, and_then}
use Rattle.bgp_check_text.specs.JudgeLine.{addresses_text}
use Rattle.bgp_check_text.proofs.judge_line.put_addresses.Goals as goal

pub returns : goal.returns
unfolding addresses_text
returns g c =
    let law : Joins g.W.Sink = record { joined = g.met.W.Sink.joined } in
    and_then law c.put.ensures (and_then law c.put_address.ensures (and_then law c.put-2.ensures c.put_address-2.ensures))
