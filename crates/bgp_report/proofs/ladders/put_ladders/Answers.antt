use Rattle.std.proofs.Common.{◌≡◌, ◌∙◌, List, inl, inr, refl, subst, sym, true}
use Rattle.std.specs.List.{list_any}
use Rattle.bgp_check_tool.specs.declared.marks.BothMarks.{BothMarks as Both}
use Rattle.bgp_report.specs.Ladders.{AreBehind, AreLadders, missing_pieces, section_pieces, some_judged}
use Rattle.bgp_report.proofs.InLadders.{behind_silent}
use Rattle.bgp_report.proofs.ladders.put_ladders.Goals as goal

pub returns-then-marks : goal.returns-then-marks
returns-then-marks g c = λ port packets text all held noted whole.
    let within = c.args.options.now.within in
    let are : AreBehind port within packets text all missing_pieces = inr (inl refl) in
    (missing_pieces, are, behind_silent c.rows_are_not_printed.ensures port within packets text all missing_pieces are, c.put_missing.ensures)

pub returns-then-are_some_judged : goal.returns-then-are_some_judged
returns-then-are_some_judged g c = λ port packets text all held noted whole.
    let within = c.args.options.now.within in
    let same = c.deref-then-are_some_judged.ensures.value ∙ whole c.if-marks.false in
    let (pieces, are, put) = c.put_section.ensures port packets text held noted in
    let ladders = subst (λ (ms : List Both). AreLadders port within packets text 0 ms pieces) same are in
    let some = subst (λ (ms : List Both). list_any some_judged ms ≡ true) (c.deref.ensures.value ∙ whole c.if-marks.false) (sym c.are_some_judged.ensures ∙ c.if-are_some_judged.true) in
    let behind : AreBehind port within packets text all (section_pieces pieces) = inr (inr (some, pieces, ladders, refl)) in
    (section_pieces pieces, behind, behind_silent c.rows_are_not_printed.ensures port within packets text all (section_pieces pieces) behind, put)
