use Rattle.std.proofs.Common.{ℕ, List, subst}
use Rattle.bgp_judge.specs.Verdict.{verdict_value}
use Rattle.bgp_verdict_lines.specs.Lines.{PutsLines}
use Rattle.bgp_text.proofs.Pieces.{Joins}
use Rattle.bgp_verdict_lines.proofs.Puts.{then_lines}
use Rattle.bgp_recording_tool.proofs.Texts.{more_text}
use Rattle.bgp_recording_tool.proofs.connection.put_report.Goals as goal

pub returns : goal.returns
returns g c =
    let law : Joins g.W.Sink = record { joined = g.met.W.Sink.joined } in
    let verdict = verdict_value c.args.explained.now.verdict in
    let unexplained = c.args.unexplained in
    let (more, is_more, put) = c.put_more.ensures in (
      more,
      is_more,
      subst (λ (t : List ℕ). PutsLines c.args.lines.now c.put_more.new.lines t) (more_text verdict unexplained more) (then_lines law c.put_answer.ensures put),
      c.answer_status.ensures more,
    )
