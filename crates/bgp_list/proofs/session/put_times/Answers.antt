use Rattle.bgp_text.proofs.Pieces.{Joins, and_then}
use Rattle.bgp_list.specs.Sessions.{times_text}
use Rattle.bgp_list.proofs.session.put_times.Goals as goal

pub returns : goal.returns
unfolding times_text
returns g c =
    let law : Joins g.W.Sink = record { joined = g.met.W.Sink.joined } in
    and_then law c.put_when.ensures (and_then law c.put.ensures (and_then law c.put_short.ensures c.put-2.ensures))
