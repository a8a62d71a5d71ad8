use Rattle.bgp_text.proofs.Pieces.{Joins, and_then}
use Rattle.bgp_check_text.specs.JudgeLine.{refresh_text}
use Rattle.bgp_check_text.proofs.judge_line.put_refresh.Goals as goal

pub returns : goal.returns
unfolding refresh_text
returns g c =
    let law : Joins g.W.Sink = record { joined = g.met.W.Sink.joined } in
    and_then law c.put_flag.ensures c.put_flag-2.ensures
