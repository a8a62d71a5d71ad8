-- Outputs with one text in JSON have one text.
use Rattle.std.proofs.Common.{◌≡◌, ◌≢◌, ◌⊎◌, ◌∙◌, ◌++◌, ◌==◌, ◌≤◌, ℕ, true, false, not, List, [], ◌∷◌, All, append_assoc, codes, refl, sym, ap, ap₂, arith, inl, inr}
use Rattle.std.specs.List.{flat_map}
use Rattle.std.proofs.lemmas.Bool.{and_from, ne_eqb, not_from_false}
use Rattle.std.proofs.lemmas.List.Elements.{All-head, All-tail}
use Rattle.std.proofs.lemmas.Option.{same_Some}
use mathlib.Core.List.{append_cancel_left}
use Rattle.json.specs.Json.{Json, document, max_depth}
use Rattle.json.specs.Print.{print}
use Rattle.json.specs.Tree.{HasNumbers, depth, json_tokens}
use Rattle.json.proofs.Printed.Trees.{ArePrintable-json_tokens, document-print}
use Rattle.bgp_names.proofs.Distinct.{lacks, one_front}
use Rattle.bgp_json.specs.Object.{json_line}
use Rattle.bgp_json_laws.specs.Visible.{AreVisible}
use Rattle.bgp_json_laws.proofs.Visible.{of_tokens}
use Rattle.bgp_json_verdicts.specs.Lines.{LineValue, line_text}
use Rattle.bgp_json_verdicts.specs.Objects.{counted_with, line_json, no_counts, objects_from, objects_of}
use Rattle.bgp_json_verdicts.specs.Telling.{ArePutInPart, AreValues, lines_of}
use Rattle.bgp_json_verdicts.specs.declared.telling.Counts.{Counts}
use Rattle.bgp_json_verdicts.proofs.Shallow.{line_shallow}
use Rattle.bgp_verdict_laws.specs.Laws.{IsLine, OutputsAreDetermined, PrintedIsDetermined}
use Rattle.bgp_verdict_laws.proofs.Lines.{same_line}

-- ---- the first line of two

no_feed : (text : List ℕ) → AreVisible text → lacks 10 text ≡ true
no_feed [] are = refl
no_feed (c ∷ text) are =
    let above = are.0 in
    and_from (not (c == 10)) (lacks 10 text) (not_from_false (c == 10) (ne_eqb c 10 (λ e. omega (arith, e, above)))) (no_feed text are.1)

text_lacks : (v : Json) → HasNumbers v → lacks 10 (print (json_tokens v)) ≡ true
text_lacks v has = no_feed (print (json_tokens v)) (of_tokens false (json_tokens v) (ArePrintable-json_tokens v has))

read_back : (v w : Json) → HasNumbers v → HasNumbers w → depth v ≤ max_depth → depth w ≤ max_depth → print (json_tokens v) ≡ print (json_tokens w) → v ≡ w
read_back v w has also shallow low e =
    same_Some v w (sym (document-print v has shallow) ∙ ap document e ∙ document-print w also low)

first_line : (v w : Json) (rest others : List ℕ) → HasNumbers v → HasNumbers w → depth v ≤ max_depth → depth w ≤ max_depth
    → json_line v ++ rest ≡ json_line w ++ others → (v ≡ w) × (rest ≡ others)
unfolding json_line
first_line v w rest others has also shallow low e =
    let text = print (json_tokens v) in
    let text' = print (json_tokens w) in
    let whole : text ++ (10 ∷ rest) ≡ text' ++ (10 ∷ others) = sym (append_assoc text (codes "\n") rest) ∙ e ∙ append_assoc text' (codes "\n") others in
    let parts = one_front 10 text text' (10 ∷ rest) (10 ∷ others) (text_lacks v has) (text_lacks w also) refl refl whole in
    (read_back v w has also shallow low parts.0, append_cancel_left (codes "\n") rest others parts.1)

no_line : (text : List ℕ) (rest : List ℕ) → (text ++ codes "\n") ++ rest ≡ [] → ⊥
no_line [] rest e = cc
no_line (c ∷ text) rest e = cc

none_printed : (v : Json) (rest : List ℕ) → json_line v ++ rest ≡ [] → ⊥
unfolding json_line
none_printed v rest e = no_line (print (json_tokens v)) rest e

-- ---- all lines

same_from : (counts also : Counts) (lines others : List LineValue) → All IsLine lines → All IsLine others
    → All HasNumbers (objects_from counts lines) → All HasNumbers (objects_from also others)
    → lines_of (objects_from counts lines) ≡ lines_of (objects_from also others) → flat_map line_text lines ≡ flat_map line_text others
same_from counts also [] [] are too have well e = refl
same_from counts also [] (y ∷ others) are too have well e =
    let next = counted_with also y in
    absurd (none_printed (line_json next y) (lines_of (objects_from next others)) (sym e))
same_from counts also (x ∷ lines) [] are too have well e =
    let next = counted_with counts x in
    absurd (none_printed (line_json next x) (lines_of (objects_from next lines)) e)
same_from counts also (x ∷ lines) (y ∷ others) are too have well e =
    let next = counted_with counts x in
    let behind = counted_with also y in
    let v = line_json next x in
    let w = line_json behind y in
    let both = first_line v w (lines_of (objects_from next lines)) (lines_of (objects_from behind others))
    (All-head HasNumbers v (objects_from next lines) have) (All-head HasNumbers w (objects_from behind others) well) (line_shallow next x) (line_shallow behind y) e in
    ap₂ ◌++◌ (same_line next behind x y (All-head IsLine x lines are) (All-head IsLine y others too) both.0)
    (same_from next behind lines others (All-tail IsLine x lines are) (All-tail IsLine y others too)
    (All-tail HasNumbers v (objects_from next lines) have) (All-tail HasNumbers w (objects_from behind others) well) both.1)

pub same_outputs : OutputsAreDetermined
same_outputs lines others are too e = same_from no_counts no_counts lines others are.each too.each are.numbers too.numbers e

-- it was printed whole
whole : (lines : List LineValue) (printed : List ℕ) (code status : ℕ) → status ≢ 4
    → ((printed ≡ lines_of (objects_of lines)) × AreValues (objects_of lines) × (status ≡ code)) ⊎ (ArePutInPart (objects_of lines) printed × (status ≡ 4))
    → printed ≡ lines_of (objects_of lines)
whole lines printed code status calm (inl told) = told.0
whole lines printed code status calm (inr told) = absurd (calm told.1)

pub same_printed : PrintedIsDetermined
same_printed text other printed code also status state calm still told retold are too =
    sym told.text_is
    ∙ same_outputs told.lines retold.lines are too (sym (whole told.lines printed code status calm told.told) ∙ whole retold.lines printed also state still retold.told)
    ∙ retold.text_is
