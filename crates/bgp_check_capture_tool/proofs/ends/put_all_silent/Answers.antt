use Rattle.std.proofs.Common.{◌≡◌, ◌∙◌, Bool, List, [], ℕ, ap, length, map, subst, sym}
use Rattle.std.proofs.lemmas.Bool.{eqb-true}
use Rattle.mrt.specs.Reader.{shown_of}
use Rattle.bgp_prefix.specs.Shown.{ShownRecord}
use Rattle.bgp_check_lines.proofs.Puts.{no_lines}
use Rattle.bgp_check_capture_tool.specs.Ends.{silent_ends}
use Rattle.bgp_check_capture_tool.specs.Putting.{Adds}
use Rattle.bgp_check_capture_tool.specs.Text.{ends_text}
use Rattle.bgp_check_capture_tool.proofs.Adds.{nothing_added, silent_left_out}
use Rattle.bgp_check_capture_tool.proofs.ToldSoFar.{none_left}
use Rattle.bgp_check_capture_tool.proofs.ends.put_all_silent.Goals as goal

pub returns-then-is_empty-clause-adds : goal.returns-then-is_empty-clause-adds
returns-then-is_empty-clause-adds g c = λ heading.
    let lines = c.args.lines.now in
    let put = c.args.so_far.is_headed in
    let none : map shown_of c.args.records.now ≡ [] = ap (map shown_of) (none_left c.args.records.now (eqb-true (length c.args.records.now) 0 (sym c.is_empty.ensures ∙ c.if-is_empty.true))) in
    subst (λ (rs : List ShownRecord). Adds heading lines lines put put (ends_text c.args.view.now.telling.printing c.args.view.now.session.local (silent_ends rs))) (sym none)
    (nothing_added heading lines lines put (no_lines g.met.W.Sink.nothing lines))

pub returns-then-view-clause-adds : goal.returns-then-view-clause-adds
returns-then-view-clause-adds g c = λ heading.
    let lines = c.args.lines.now in
    let put = c.args.so_far.is_headed in
    let view = c.args.view.now in
    subst (λ (b : Bool). Adds heading lines lines put b (ends_text view.telling.printing view.session.local (silent_ends (map shown_of c.args.records.now)))) (sym c.with_unjudged.ensures.is_headed)
    (subst (λ (text : List ℕ). Adds heading lines lines put put text) (sym (silent_left_out view.telling.printing view.session.local (map shown_of c.args.records.now) c.if-view.true))
    (nothing_added heading lines lines put (no_lines g.met.W.Sink.nothing lines)))
