use Rattle.bgp_text.proofs.Pieces.{Joins}
use Rattle.bgp_json_verdicts.proofs.Told.{and_tell}
use Rattle.bgp_json_verdicts.proofs.telling.Telling.put_verdict.Goals as goal

pub returns-in-Yes : goal.returns-in-Yes
returns-in-Yes g c =
    let law : Joins g.W.Sink = record { joined = g.met.W.Sink.joined } in
    let ends = rw c.as_slice.ensures.value at c.put_ends.ensures in
    rw c.in-Yes.is (and_tell law c.put.ensures ends)

pub returns-in-No : goal.returns-in-No
returns-in-No g c = rw c.in-No.is c.put_no.ensures

pub returns-in-Unfinished : goal.returns-in-Unfinished
returns-in-Unfinished g c = rw c.in-Unfinished.is c.put-in-Unfinished.ensures
