use Rattle.std.proofs.Common.{◌≤◌, ℕ, is_some, rules, subst, sym}
use Rattle.bgp_text.proofs.Fresh.{IsFresh}
use Rattle.bgp_text.proofs.Pieces.{Joins}
use Rattle.bgp_tool.proofs.CaptureJudged.{answer_below}
use Rattle.bgp_tool.specs.Answer.{answer_status}
use Rattle.bgp_verdict_lines.proofs.Printed.{handed_below, printed_in, status_below}
use Rattle.bgp_verdict_lines.specs.Teller.{teller_status}
use Rattle.bgp_explain.proofs.headline.write_explained.Goals as goal

pub returns-clause-writes : goal.returns-clause-writes
returns-clause-writes g c =
    let law : Joins g.W.Sink = record { joined = g.met.W.Sink.joined } in
    let first = c.new-lines.result in
    let last = c.put_explained-status.new.lines in
    let fresh : IsFresh first.lines = record { empty = c.new-lines.ensures.empty; calm = c.new-lines.ensures.fresh } in
    let (text, is_text, put) = c.put_explained-status.ensures.writes in
    let told = rw c.put_explained-status.ensures.status at c.finish-status.ensures.told in (
      text,
      is_some c.details_of-details.result,
      is_text,
      rw c.code.ensures
          (printed_in law c.args.form first last c.finish-status.new.self.lines c.args.sink.now _ text (answer_status c.args.explained.now.answer) _ fresh c.new-lines.ensures.now
          (search rules) c.new-lines.ensures.starts put c.finish-status.ensures.writes c.finish-status.ensures.none told),
    )

pub returns-clause-statuses : goal.returns-clause-statuses
returns-clause-statuses g c =
    let few = answer_below c.args.explained.now.answer in
    let told = rw c.put_explained-status.ensures.status at c.finish-status.ensures.told in
    rw c.code.ensures (handed_below told (status_below c.put_explained-status.new.lines.teller (answer_status c.args.explained.now.answer) few))
