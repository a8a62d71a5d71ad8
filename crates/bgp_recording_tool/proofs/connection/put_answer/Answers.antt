use Rattle.std.proofs.Common.{◌∙◌, List, [], ℕ, Option, sym, subst, append-nil}
use Rattle.bgp_judge.specs.Verdict.{verdict_value}
use Rattle.bgp_orders.specs.declared.connection.Unexplained.{Unexplained}
use Rattle.bgp_json_verdicts.specs.Lines.{line_text}
use Rattle.bgp_verdict_lines.specs.Lines.{PutsLines}
use Rattle.bgp_recording_tool.specs.Told.{no_order_line, told_of, told_text, value_text}
use Rattle.bgp_recording_tool.proofs.Texts.{text_same}
use Rattle.bgp_recording_tool.proofs.connection.put_answer.Goals as goal

pub returns-in-None : goal.returns-in-None
returns-in-None g c =
    let verdict = verdict_value c.args.verdict.now in
    subst (λ (o : Option Unexplained). PutsLines c.args.lines.now c.put_verdict.new.lines (told_text (told_of verdict o []))) (sym c.in-None.is)
    (subst (λ (t : List ℕ). PutsLines c.args.lines.now c.put_verdict.new.lines t) (text_same c.args.verdict.now ∙ sym (append-nil (value_text verdict))) c.put_verdict.ensures)

pub returns-in-Some : goal.returns-in-Some
unfolding line_text no_order_line
returns-in-Some g c =
    let verdict = verdict_value c.args.verdict.now in
    subst (λ (o : Option Unexplained). PutsLines c.args.lines.now c.put_no_order.new.lines (told_text (told_of verdict o []))) (sym c.in-Some.is)
    (subst (λ (t : List ℕ). PutsLines c.args.lines.now c.put_no_order.new.lines t) (sym (append-nil (no_order_line c.in-Some.unexplained.packet))) c.put_no_order.ensures)
