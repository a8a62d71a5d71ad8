-- Outputs with one text in JSON have one text.
use Rattle.std.proofs.Common.{◌≡◌, ◌≢◌, ◌⊎◌, ◌∙◌, ℕ, List, [], ◌∷◌, refl, sym, ap₂, arith, inl, inr}
use Rattle.json.specs.Json.{Json}
use Rattle.bgp_json_verdicts.specs.Telling.{ArePutInPart, AreValues, lines_of}
use Rattle.bgp_check_lines.specs.Values.{CheckValue, objects_of}
use Rattle.bgp_json_laws.proofs.Printing.{same_first_line}
use Rattle.bgp_list_laws.proofs.Printed.{none_printed}
use Rattle.bgp_check_laws.specs.Laws.{OutputsAreDetermined, PrintedIsDetermined}
use Rattle.bgp_check_laws.proofs.Lines.{same_objects}
use Rattle.bgp_check_laws.proofs.Numbers.{ArePrinted, all_printed}

-- objects with the same lines are the same
same_values : (vs ws : List Json) → ArePrinted vs → ArePrinted ws → lines_of vs ≡ lines_of ws → vs ≡ ws
same_values [] [] are too e = refl
same_values [] (w ∷ ws) are too e = absurd (none_printed w (lines_of ws) (sym e))
same_values (v ∷ vs) [] are too e = absurd (none_printed v (lines_of vs) e)
same_values (v ∷ vs) (w ∷ ws) are too e =
    let both = same_first_line v w (lines_of vs) (lines_of ws) are.0 too.0 e in
    ap₂ ◌∷◌ both.0 (same_values vs ws are.1 too.1 both.1)

pub same_outputs : OutputsAreDetermined
same_outputs lines others are too e =
    let few = are.count in
    let also = too.count in
    same_objects lines others are too
    (same_values (objects_of lines) (objects_of others) (all_printed 0 lines (omega (arith, few)) are.each) (all_printed 0 others (omega (arith, also)) too.each) e)

-- it was printed whole
whole : (lines : List CheckValue) (printed : List ℕ) (code status : ℕ) → status ≢ 4
    → ((printed ≡ lines_of (objects_of lines)) × AreValues (objects_of lines) × (status ≡ code)) ⊎ (ArePutInPart (objects_of lines) printed × (status ≡ 4))
    → printed ≡ lines_of (objects_of lines)
whole lines printed code status calm (inl told) = told.0
whole lines printed code status calm (inr told) = absurd (calm told.1)

pub same_printed : PrintedIsDetermined
same_printed text other printed code also status state calm still told retold are too =
    sym told.text_is
    ∙ same_outputs told.values retold.values are too (sym (whole told.values printed code status calm told.told) ∙ whole retold.values printed also state still retold.told)
    ∙ retold.text_is
