use Rattle.bgp_why.specs.Deed.{changed_deed}
use Rattle.bgp_text.proofs.Pieces.{Joins, and_then}
use Rattle.bgp_why.proofs.deed.put_changed.Goals as goal

pub returns : goal.returns
unfolding changed_deed
returns g c =
    let law : Joins g.W.Sink = record { joined = g.met.W.Sink.joined } in
    and_then law c.put.ensures (and_then law c.put_state_name.ensures (and_then law c.put-2.ensures c.put_state_name-2.ensures))
