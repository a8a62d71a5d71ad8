use Rattle.std.proofs.Common.{◌≡◌, ◌∙◌, ap, subst, sym}
use Rattle.bgp_text.proofs.Pieces.{Joins}
use Rattle.bgp_check_tool.specs.Marks.{marks_of}
use Rattle.bgp_html.proofs.InNotes.{noted_lines}
use Rattle.bgp_html.specs.Noted.{nothing_noted}
use Rattle.bgp_html.specs.Notes.{noted_by}
use Rattle.bgp_html.specs.declared.notes.Notes.{Notes}
use Rattle.bgp_report.proofs.Memory.{laddered_of, printed_of}
use Rattle.bgp_report.proofs.Written.{all_marks, put_whole}
use Rattle.bgp_report.specs.Notes.{AreNotes}
use Rattle.bgp_report.proofs.recording.put_report.Goals as goal

pub put_ladders-requires : goal.put_ladders-requires
put_ladders-requires g c =
    let marked = c.check_marking-checked.ensures.all in
    (c.args.options.now.port, marked.checks.packets, marked.held)

pub returns-clause-no : goal.returns-clause-no
returns-clause-no g c =
    let law : Joins g.W.Sink = record { joined = g.met.W.Sink.joined } in
    let begun = c.args.report in
    let from = c.put_head.new.self in
    let to = c.check_marking-checked.new.sink in
    let loose = c.into_parts-lines.result.0 in
    let head = rw c.as_bytes.ensures.value at c.put_head.ensures.writes in
    let marked = c.check_marking-checked.ensures.all in
    let all = marks_of c.args.options.now.printing marked.checks.blocks in
    let took = printed_of _ from to _ _ g.R.Source.failures _ _ _ _ _ _ c.check_marking-checked.ensures.no c.requires.form in
    let element = c.put_head.ensures.element ∙ c.requires.element in
    let front = c.put_head.ensures.front ∙ c.requires.front in
    let fresh : noted_by from.notes ≡ nothing_noted = ap (λ (n : Notes _). noted_by n) c.put_head.ensures.notes ∙ c.requires.noted in
    let noted = subst (λ (n : Notes _). AreNotes took.0 n) (sym c.into_parts-lines.ensures.notes)
    (noted_lines from.lines to.lines from.element to.element from.front.items to.front.items from.notes to.notes c.end.new.self.notes took.0 element front fresh took.1 c.end.ensures.noted) in
    let put = c.put_ladders.ensures c.args.options.now.port marked.checks.packets took.0 all marked.held noted
    (all_marks c.new-marks.result c.check_marking-checked.new.marks all marked.marked c.new-marks.ensures.both) in
    let ends = rw (← c.into_parts-lines.ensures.lines) at c.end.ensures.writes in
    put_whole law c.args.name.now _ begun.lines from.lines to.lines loose c.put_ladders.new.lines
    from.element to.element from.front.items to.front.items from.notes to.notes c.check_marking-checked.result.status
    element front head
    took.0 took.1 ends put.0 put.2 put.3 took.2

pub returns-clause-yes : goal.returns-clause-yes
returns-clause-yes g c =
    let law : Joins g.W.Sink = record { joined = g.met.W.Sink.joined } in
    let begun = c.args.report in
    let from = c.put_head.new.self in
    let to = c.check_marking-checked.new.sink in
    let loose = c.into_parts-lines.result.0 in
    let head = rw c.as_bytes.ensures.value at c.put_head.ensures.writes in
    let marked = c.check_marking-checked.ensures.all in
    let all = marks_of c.args.options.now.printing marked.checks.blocks in
    let took = printed_of _ from to _ _ g.R.Source.failures _ _ _ _ _ _ c.check_marking-checked.ensures.yes c.requires.form in
    let element = c.put_head.ensures.element ∙ c.requires.element in
    let front = c.put_head.ensures.front ∙ c.requires.front in
    let fresh : noted_by from.notes ≡ nothing_noted = ap (λ (n : Notes _). noted_by n) c.put_head.ensures.notes ∙ c.requires.noted in
    let noted = subst (λ (n : Notes _). AreNotes took.0 n) (sym c.into_parts-lines.ensures.notes)
    (noted_lines from.lines to.lines from.element to.element from.front.items to.front.items from.notes to.notes c.end.new.self.notes took.0 element front fresh took.1 c.end.ensures.noted) in
    let put = c.put_ladders.ensures c.args.options.now.port marked.checks.packets took.0 all marked.held noted
    (all_marks c.new-marks.result c.check_marking-checked.new.marks all marked.marked c.new-marks.ensures.both) in
    let ends = rw (← c.into_parts-lines.ensures.lines) at c.end.ensures.writes in
    put_whole law c.args.name.now _ begun.lines from.lines to.lines loose c.put_ladders.new.lines
    from.element to.element from.front.items to.front.items from.notes to.notes c.check_marking-checked.result.status
    element front head
    took.0 took.1 ends put.0 put.2 put.3 took.2

pub returns-clause-unfinished : goal.returns-clause-unfinished
returns-clause-unfinished g c =
    let law : Joins g.W.Sink = record { joined = g.met.W.Sink.joined } in
    let begun = c.args.report in
    let from = c.put_head.new.self in
    let to = c.check_marking-checked.new.sink in
    let loose = c.into_parts-lines.result.0 in
    let head = rw c.as_bytes.ensures.value at c.put_head.ensures.writes in
    let marked = c.check_marking-checked.ensures.all in
    let all = marks_of c.args.options.now.printing marked.checks.blocks in
    let took = printed_of _ from to _ _ g.R.Source.failures _ _ _ _ _ _ c.check_marking-checked.ensures.unfinished c.requires.form in
    let element = c.put_head.ensures.element ∙ c.requires.element in
    let front = c.put_head.ensures.front ∙ c.requires.front in
    let fresh : noted_by from.notes ≡ nothing_noted = ap (λ (n : Notes _). noted_by n) c.put_head.ensures.notes ∙ c.requires.noted in
    let noted = subst (λ (n : Notes _). AreNotes took.0 n) (sym c.into_parts-lines.ensures.notes)
    (noted_lines from.lines to.lines from.element to.element from.front.items to.front.items from.notes to.notes c.end.new.self.notes took.0 element front fresh took.1 c.end.ensures.noted) in
    let put = c.put_ladders.ensures c.args.options.now.port marked.checks.packets took.0 all marked.held noted
    (all_marks c.new-marks.result c.check_marking-checked.new.marks all marked.marked c.new-marks.ensures.both) in
    let ends = rw (← c.into_parts-lines.ensures.lines) at c.end.ensures.writes in
    put_whole law c.args.name.now _ begun.lines from.lines to.lines loose c.put_ladders.new.lines
    from.element to.element from.front.items to.front.items from.notes to.notes c.check_marking-checked.result.status
    element front head
    took.0 took.1 ends put.0 put.2 put.3 took.2

pub returns-clause-all : goal.returns-clause-all
returns-clause-all g c =
    let law : Joins g.W.Sink = record { joined = g.met.W.Sink.joined } in
    let begun = c.args.report in
    let from = c.put_head.new.self in
    let to = c.check_marking-checked.new.sink in
    let loose = c.into_parts-lines.result.0 in
    let head = rw c.as_bytes.ensures.value at c.put_head.ensures.writes in
    let marked = c.check_marking-checked.ensures.all in
    let all = marks_of c.args.options.now.printing marked.checks.blocks in
    let took = laddered_of _ from to _ _ g.R.Source.failures _ _ _ _ _ _ _ _ _ _ _ marked c.requires.form in
    let element = c.put_head.ensures.element ∙ c.requires.element in
    let front = c.put_head.ensures.front ∙ c.requires.front in
    let fresh : noted_by from.notes ≡ nothing_noted = ap (λ (n : Notes _). noted_by n) c.put_head.ensures.notes ∙ c.requires.noted in
    let noted = subst (λ (n : Notes _). AreNotes took.0 n) (sym c.into_parts-lines.ensures.notes)
    (noted_lines from.lines to.lines from.element to.element from.front.items to.front.items from.notes to.notes c.end.new.self.notes took.0 element front fresh took.1 c.end.ensures.noted) in
    let put = c.put_ladders.ensures c.args.options.now.port marked.checks.packets took.0 all marked.held noted
    (all_marks c.new-marks.result c.check_marking-checked.new.marks all marked.marked c.new-marks.ensures.both) in
    let ends = rw (← c.into_parts-lines.ensures.lines) at c.end.ensures.writes in
    put_whole law c.args.name.now _ begun.lines from.lines to.lines loose c.put_ladders.new.lines
    from.element to.element from.front.items to.front.items from.notes to.notes c.check_marking-checked.result.status
    element front head
    took.0 took.1 ends put.0 put.2 put.3 (took.2 put.0 put.1)
