use Rattle.bgp_text.proofs.Pieces.{Joins}
use Rattle.bgp_json_verdicts.proofs.Told.{and_tell}
use Rattle.bgp_json_verdicts.proofs.telling.Telling.put_end.Goals as goal

pub returns : goal.returns
returns g c =
    let law : Joins g.W.Sink = record { joined = g.met.W.Sink.joined } in
    and_tell law (rw c.disabled.ensures.families at c.put.ensures) c.put_routes.ensures
