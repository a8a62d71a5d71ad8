use Rattle.std.proofs.Common.{◌≤◌, ℕ, rules}
use Rattle.bgp_text.proofs.Fresh.{IsFresh}
use Rattle.bgp_text.proofs.Pieces.{Joins}
use Rattle.bgp_tool.proofs.CaptureJudged.{answer_below}
use Rattle.bgp_tool.specs.Answer.{answer_status, answer_text}
use Rattle.bgp_verdict_lines.proofs.Printed.{handed_below, printed_in, status_below}
use Rattle.bgp_explain.proofs.opened.write_verdict.Goals as goal

pub returns-clause-writes : goal.returns-clause-writes
returns-clause-writes g c =
    let law : Joins g.W.Sink = record { joined = g.met.W.Sink.joined } in
    let first = c.new-lines.result in
    let answer = c.args.answer.now in
    let fresh : IsFresh first.lines = record { empty = c.new-lines.ensures.empty; calm = c.new-lines.ensures.fresh } in
    let told = rw c.put_answer-status.ensures.status at c.finish-status.ensures.told in
    rw c.code.ensures
    (printed_in law c.args.form first c.put_answer-status.new.lines c.finish-status.new.self.lines c.args.sink.now _ (answer_text answer) (answer_status answer) _ fresh
    c.new-lines.ensures.now (search rules) c.new-lines.ensures.starts c.put_answer-status.ensures.puts c.finish-status.ensures.writes c.finish-status.ensures.none told)

pub returns-clause-statuses : goal.returns-clause-statuses
returns-clause-statuses g c =
    let told = rw c.put_answer-status.ensures.status at c.finish-status.ensures.told in
    rw c.code.ensures (handed_below told (status_below c.put_answer-status.new.lines.teller (answer_status c.args.answer.now) (answer_below c.args.answer.now)))
