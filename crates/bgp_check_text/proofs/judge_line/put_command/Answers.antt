use Rattle.bgp_text.proofs.Pieces.{Joins, and_then}
use Rattle.bgp_check_text.specs.JudgeLine.{command_text}
use Rattle.bgp_check_text.proofs.judge_line.put_command.Goals as goal

pub returns : goal.returns
unfolding command_text
returns g c =
    let law : Joins g.W.Sink = record { joined = g.met.W.Sink.joined } in
    and_then law c.put.ensures (and_then law c.put_needs.ensures (and_then law c.put_addresses.ensures (and_then law c.put_choices.ensures
    (and_then law c.put_refresh.ensures c.put_asked.ensures))))
