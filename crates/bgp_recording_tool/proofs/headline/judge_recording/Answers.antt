use Rattle.std.proofs.Common.{◌≡◌, ◌∙◌, ◌++◌, List, None, sym, ap, subst, inr, rules}
use Rattle.bgp_tool.specs.Status.{code_of}
use Rattle.bgp_text.proofs.Pieces.{Joins}
use Rattle.bgp_text.proofs.Fresh.{IsFresh}
use Rattle.bgp_verdict_lines.proofs.Printed.{printed_in}
use Rattle.bgp_import.specs.declared.importing.Import.{Import}
use Rattle.bgp_recording_tool.specs.Judging.{TellsRecording}
use Rattle.bgp_recording_tool.specs.Options.{IsMisfit}
use Rattle.bgp_recording_tool.specs.declared.remark.Remark.{Remark}
use Rattle.bgp_recording_tool.proofs.SameSink.{same_sink}
use Rattle.bgp_recording_tool.proofs.headline.judge_recording.Goals as goal

pub returns : goal.returns
returns g c =
    let law : Joins g.W.Sink = record { joined = g.met.W.Sink.joined } in
    let fresh : IsFresh c.new-lines.result.lines = record { empty = c.new-lines.ensures.empty; calm = c.new-lines.ensures.fresh } in
    let puts = c.judge_source-status.ensures in
    let one = same_sink c.new-lines.result.lines c.judge_source-status.new.lines.lines c.new-lines.result.teller c.judge_source-status.new.lines.teller puts.text puts.wrote.puts in
    let same = c.finish-status.ensures.writes.same_sink ∙ (one ∙ c.new-lines.ensures.same) in
    let meant = c.import_of-import.ensures in
    let own : puts.own ≡ c.judge_source-status.new.remarks.items =
    sym (puts.added ∙ ap (λ (o : List Remark). o ++ puts.own) c.new-remarks.ensures.items) in
    inr (
      subst (λ (w : Import). IsMisfit w None) meant c.in_default.ensures,
      record {
        text = puts.text;
        code = code_of c.judge_source-status.result.0;
        told = subst
            (λ (w : Import). TellsRecording g.R.Source.gives g.R.Source.has_ended g.R.Source.failures c.args.config.now c.args.report w c.args.source.now
            c.judge_source-status.new.source c.judge_source-status.result.1 puts.text (code_of c.judge_source-status.result.0) c.judge_source-status.new.remarks.items)
            meant
            (subst
            (λ (o : List Remark). TellsRecording g.R.Source.gives g.R.Source.has_ended g.R.Source.failures c.args.config.now c.args.report c.import_of-import.result
            c.args.source.now c.judge_source-status.new.source c.judge_source-status.result.1 puts.text (code_of c.judge_source-status.result.0) o)
            own puts.holds);
        written = rw c.code.ensures
            (printed_in law c.args.form c.new-lines.result c.judge_source-status.new.lines c.finish-status.new.self.lines c.args.sink.now _ puts.text (code_of c.judge_source-status.result.0) _ fresh
            c.new-lines.ensures.now (search rules) c.new-lines.ensures.starts puts.wrote c.finish-status.ensures.writes c.finish-status.ensures.none c.finish-status.ensures.told);
      },
    )
