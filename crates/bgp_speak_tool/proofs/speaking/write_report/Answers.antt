use Rattle.std.proofs.Common.{rules, refl, arith}
use Rattle.bgp_text.proofs.Pieces.{Joins, and_nothing}
use Rattle.bgp_text.proofs.Fresh.{IsFresh}
use Rattle.bgp_tool.proofs.CaptureJudged.{is_written}
use Rattle.bgp_speak_tool.proofs.PairJudged.{told_as, below}
use Rattle.bgp_speak_tool.proofs.speaking.write_report.Goals as goal

pub returns-clause-writes : goal.returns-clause-writes
returns-clause-writes g c =
    let law : Joins g.O.Sink = record { joined = g.met.O.Sink.joined } in
    let fresh : IsFresh c.new-lines.result = record { empty = c.new-lines.ensures.empty; calm = c.new-lines.ensures.fresh } in
    let wrote = and_nothing law c.put_report.ensures c.hand_over-status.ensures.writes in
    rw c.code.ensures
    (is_written c.new-lines.result c.hand_over-status.new.lines c.args.sink.now _ fresh c.new-lines.ensures.now (search rules)
    _ _ _ wrote c.hand_over-status.ensures.none (told_as _ _ _ _ c.hand_over-status.ensures.told refl))

pub returns-clause-statuses : goal.returns-clause-statuses
returns-clause-statuses g c = rw c.code.ensures (below _ _ _ _ c.hand_over-status.ensures.told refl (omega arith))
