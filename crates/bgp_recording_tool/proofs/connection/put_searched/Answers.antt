use Rattle.std.proofs.Common.{◌∙◌, List, None, ap, subst, sym}
use Rattle.bgp_judge.specs.Verdict.{VerdictValue, verdict_value}
use Rattle.bgp_recording.specs.Captured.{records_of}
use Rattle.bgp_recording.specs.declared.entry.Entry.{Entry}
use Rattle.bgp_verdict_lines.specs.Lines.{PutsLines}
use Rattle.bgp_explain.specs.Records.{AreExplained}
use Rattle.bgp_why.specs.declared.other_orders.OtherOrders.TheVariants.{Unasked}
use Rattle.bgp_recording_tool.specs.Connections.{IsMore}
use Rattle.bgp_recording_tool.specs.Told.{told_of, told_status, told_text}
use Rattle.bgp_recording_tool.proofs.Searchings.{yes_can}
use Rattle.bgp_recording_tool.proofs.connection.put_searched.Goals as goal

pub put_report-requires-in-Another-clause-explained : goal.put_report-requires-in-Another-clause-explained
put_report-requires-in-Another-clause-explained g c =
    let sought = rw c.in-Another.is at c.requires.sought in
    subst (λ (es : List Entry). AreExplained c.args.config.now (records_of es) c.in-Another.another.explained) (sym c.as_slice-entries.ensures.value) sought.0

pub put_report-requires-in-Another-clause-can : goal.put_report-requires-in-Another-clause-can
put_report-requires-in-Another-clause-can g c =
    let sought = rw c.in-Another.is at c.requires.sought in
    let explained = c.in-Another.another.explained in
    yes_can c.args.config.now.parts.session c.args.config.now _ explained.verdict explained.reason sought.1 sought.0.reason

pub returns-in-Another : goal.returns-in-Another
returns-in-Another g c =
    let config = c.args.config.now in
    let report = c.args.report in
    let sought = rw c.in-Another.is at c.requires.sought in
    let verdict = verdict_value c.in-Another.another.explained.verdict in
    let (more, is_more, wrote, tells) = c.put_report-in-Another.ensures in
    let others = c.in-Another.another.recording.entries.items in
    let is_more' = subst (λ (es : List Entry). IsMore report config es Unasked verdict more) c.as_slice-entries.ensures.value is_more in
    rw c.in-Another.is (
      more,
      subst (λ (v : VerdictValue). IsMore report config others Unasked v more) sought.1 is_more',
      subst (λ (v : VerdictValue). PutsLines c.args.lines.now c.put_report-in-Another.new.lines (told_text (told_of v None more))) sought.1 wrote,
      tells ∙ ap (λ (v : VerdictValue). told_status (told_of v None more)) sought.1,
    )
