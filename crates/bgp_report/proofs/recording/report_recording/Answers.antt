use Rattle.std.proofs.Common.{◌∙◌, rules}
use Rattle.bgp_text.proofs.Fresh.{IsFresh}
use Rattle.bgp_text.proofs.Pieces.{Joins}
use Rattle.bgp_report.proofs.Written.{handed_report}
use Rattle.bgp_report.proofs.recording.report_recording.Goals as goal

pub returns-clause-no : goal.returns-clause-no
returns-clause-no g c =
    let law : Joins g.W.Sink = record { joined = g.met.W.Sink.joined } in
    let begun = c.new-report.result in
    let last = c.handed_over.new.lines in
    let fresh : IsFresh begun.lines = record { empty = c.new-report.ensures.empty; calm = c.new-report.ensures.fresh } in
    let it = rw c.recording_options-options.ensures at c.put_report-checked.ensures.no in
    let one_sink = c.handed_over.ensures.writes.same_sink ∙ it.written.same_sink ∙ c.new-report.ensures.same in
    handed_report law c.args.name.now _ begun.lines c.put_report-checked.result.1 last c.args.sink.now _
    c.put_report-checked.result.0.status c.handed_over.result
    fresh c.new-report.ensures.now (search (rules, one_sink)) it c.handed_over.ensures.writes c.handed_over.ensures.none c.handed_over.ensures.told

pub returns-clause-yes : goal.returns-clause-yes
returns-clause-yes g c =
    let law : Joins g.W.Sink = record { joined = g.met.W.Sink.joined } in
    let begun = c.new-report.result in
    let last = c.handed_over.new.lines in
    let fresh : IsFresh begun.lines = record { empty = c.new-report.ensures.empty; calm = c.new-report.ensures.fresh } in
    let it = rw c.recording_options-options.ensures at c.put_report-checked.ensures.yes in
    let one_sink = c.handed_over.ensures.writes.same_sink ∙ it.written.same_sink ∙ c.new-report.ensures.same in
    handed_report law c.args.name.now _ begun.lines c.put_report-checked.result.1 last c.args.sink.now _
    c.put_report-checked.result.0.status c.handed_over.result
    fresh c.new-report.ensures.now (search (rules, one_sink)) it c.handed_over.ensures.writes c.handed_over.ensures.none c.handed_over.ensures.told

pub returns-clause-unfinished : goal.returns-clause-unfinished
returns-clause-unfinished g c =
    let law : Joins g.W.Sink = record { joined = g.met.W.Sink.joined } in
    let begun = c.new-report.result in
    let last = c.handed_over.new.lines in
    let fresh : IsFresh begun.lines = record { empty = c.new-report.ensures.empty; calm = c.new-report.ensures.fresh } in
    let it = rw c.recording_options-options.ensures at c.put_report-checked.ensures.unfinished in
    let one_sink = c.handed_over.ensures.writes.same_sink ∙ it.written.same_sink ∙ c.new-report.ensures.same in
    handed_report law c.args.name.now _ begun.lines c.put_report-checked.result.1 last c.args.sink.now _
    c.put_report-checked.result.0.status c.handed_over.result
    fresh c.new-report.ensures.now (search (rules, one_sink)) it c.handed_over.ensures.writes c.handed_over.ensures.none c.handed_over.ensures.told

pub returns-clause-all : goal.returns-clause-all
returns-clause-all g c =
    let law : Joins g.W.Sink = record { joined = g.met.W.Sink.joined } in
    let begun = c.new-report.result in
    let last = c.handed_over.new.lines in
    let fresh : IsFresh begun.lines = record { empty = c.new-report.ensures.empty; calm = c.new-report.ensures.fresh } in
    let it = rw c.recording_options-options.ensures at c.put_report-checked.ensures.all in
    let one_sink = c.handed_over.ensures.writes.same_sink ∙ it.written.same_sink ∙ c.new-report.ensures.same in
    handed_report law c.args.name.now _ begun.lines c.put_report-checked.result.1 last c.args.sink.now _
    c.put_report-checked.result.0.status c.handed_over.result
    fresh c.new-report.ensures.now (search (rules, one_sink)) it c.handed_over.ensures.writes c.handed_over.ensures.none c.handed_over.ensures.told
