use Rattle.std.proofs.Common.{◌∙◌, rules}
use Rattle.bgp_text.proofs.Fresh.{IsFresh}
use Rattle.bgp_text.proofs.Pieces.{Joins}
use Rattle.bgp_report.proofs.Written.{handed_report, put_as}
use Rattle.bgp_report.proofs.capture.report_capture.Goals as goal

pub returns-clause-no : goal.returns-clause-no
returns-clause-no g c =
    let law : Joins g.W.Sink = record { joined = g.met.W.Sink.joined } in
    let begun = c.new-report.result in
    let last = c.handed_over.new.lines in
    let fresh : IsFresh begun.lines = record { empty = c.new-report.ensures.empty; calm = c.new-report.ensures.fresh } in
    let it = rw c.capture_options-options.ensures at c.put_report-checked.ensures.no in
    let held = c.hold-held.ensures.held in
    let so = put_as c.args.name.now _ _ _ _ _ (λ text code behind its. record { octets = c.hold-held.result.octets.items; ending = c.hold-held.result.ending; held = held; writes = its }) it in
    let one_sink = c.handed_over.ensures.writes.same_sink ∙ it.written.same_sink ∙ c.new-report.ensures.same in
    handed_report law c.args.name.now _ begun.lines c.put_report-checked.result.1 last c.args.sink.now _
    c.put_report-checked.result.0.status c.handed_over.result
    fresh c.new-report.ensures.now (search (rules, one_sink)) so c.handed_over.ensures.writes c.handed_over.ensures.none c.handed_over.ensures.told

pub returns-clause-all : goal.returns-clause-all
returns-clause-all g c =
    let law : Joins g.W.Sink = record { joined = g.met.W.Sink.joined } in
    let begun = c.new-report.result in
    let last = c.handed_over.new.lines in
    let fresh : IsFresh begun.lines = record { empty = c.new-report.ensures.empty; calm = c.new-report.ensures.fresh } in
    let it = rw c.capture_options-options.ensures at c.put_report-checked.ensures.all in
    let held = c.hold-held.ensures.held in
    let so = put_as c.args.name.now _ _ _ _ _ (λ text code behind its. record { checks = record { octets = c.hold-held.result.octets.items; ending = c.hold-held.result.ending; held = held; counted = c.hold-held.ensures.failures; checks = its.checks }; ladders = its.ladders }) it in
    let one_sink = c.handed_over.ensures.writes.same_sink ∙ it.written.same_sink ∙ c.new-report.ensures.same in
    handed_report law c.args.name.now _ begun.lines c.put_report-checked.result.1 last c.args.sink.now _
    c.put_report-checked.result.0.status c.handed_over.result
    fresh c.new-report.ensures.now (search (rules, one_sink)) so c.handed_over.ensures.writes c.handed_over.ensures.none c.handed_over.ensures.told
