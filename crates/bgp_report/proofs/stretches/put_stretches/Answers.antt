use Rattle.std.proofs.Common.{◌≡◌, ◌<◌, ◌∙◌, List, ap, inl, inr, length, map, refl, subst, sym}
use Rattle.std.proofs.lemmas.List.{length-map}
use Rattle.bgp_check_capture_tool.specs.Marks.{MarkValue, mark_value}
use Rattle.bgp_check_capture_tool.specs.declared.marks.StretchMark.{StretchMark}
use Rattle.bgp_report.proofs.InStretches.{some_of, stretches_behind_silent}
use Rattle.bgp_report.specs.Stretches.{AreStretches, AreStretchesBehind, none_pieces, stretches_pieces}
use Rattle.bgp_report.proofs.stretches.put_stretches.Goals as goal

pub returns-then-marks : goal.returns-then-marks
returns-then-marks g c = λ text all noted whole.
    let are : AreStretchesBehind text all none_pieces = inr (inl refl) in
    (none_pieces, are, stretches_behind_silent c.rows_are_not_printed.ensures text all none_pieces are, c.put_none.ensures)

pub returns-else-is_empty : goal.returns-else-is_empty
returns-else-is_empty g c = λ text all noted whole.
    let same = ap (λ (ms : List (StretchMark _)). map mark_value ms) c.deref.ensures.value ∙ whole c.if-marks.false in
    let (pieces, are, put) = c.put_section.ensures text noted in
    let ladders = subst (λ (ms : List MarkValue). AreStretches text ms pieces) same are in
    let count = sym c.deref.ensures.len ∙ sym (length-map c.deref.result.now mark_value) ∙ ap (λ (ms : List MarkValue). length ms) same in
    let some : 0 < length all = some_of _ (length all) (sym c.is_empty.ensures ∙ c.if-is_empty.false) count in
    let behind : AreStretchesBehind text all (stretches_pieces pieces) = inr (inr (some, pieces, ladders, refl)) in
    (stretches_pieces pieces, behind, stretches_behind_silent c.rows_are_not_printed.ensures text all (stretches_pieces pieces) behind, put)
