-- The objects of a reason's lines, which are made in memory.
use Rattle.std.proofs.Common.{◌≡◌, ◌∙◌, ℕ, Bool, true, false, List, [], ◌∷◌, Result, Ok, Err, IfOk, OnErr, append-nil, if◌then◌else◌, refl, subst, sym}
use Rattle.std.specs.List.{flat_map}
use Rattle.json.specs.Json.{Json}
use Rattle.mrt.specs.declared.sink.Sink as sinks
use Rattle.bgp_text.specs.Lines.{Writes}
use Rattle.bgp_text.specs.declared.lines.Lines.{Lines}
use Rattle.bgp_check_text.specs.LinesKept.{IsOfLines}
use Rattle.bgp_json_check.specs.JsonVerdictsLines.{LineValue, line_text}
use Rattle.bgp_json_check.specs.JsonVerdictsObjects.{counts_behind, objects_from}
use Rattle.bgp_json_check.specs.JsonVerdictsTelling.{AreValues, PutsObjects, lines_of}
use Rattle.bgp_json_check.specs.Counts.{Counts}
use Rattle.bgp_json_check.specs.Telling.{Tells}
use Rattle.bgp_json_check.specs.declared.teller.CheckTeller.{CheckTeller}
use Rattle.bgp_check_text.specs.Teller as verdicts
use Rattle.bgp_check_text.specs.VerdictTeller.{VerdictTeller}
use Rattle.bgp_check_text.specs.VerdictTeller.TheVariants as tellers
use Rattle.bgp_check_lines.specs.Reason.{AreToldAs}
use Rattle.bgp_check_lines.specs.Teller.{TellsText}
use Rattle.bgp_check_lines.specs.Values.{Explains, value_text}
use Rattle.bgp_check_lines.proofs.Values.{one_value}

-- ---- as they are put

module _ {W : Type 0} {sink : sinks.Ghosts W} (a b : Lines W sink) (judged : ℕ) (text : List ℕ) where
  of_objects : (x y : Bool) (lines : List LineValue) → flat_map line_text lines ≡ text → x ≡ false → ◌≡◌ {A = ℕ} (if y then 4 else 0) 0
      → PutsObjects a b (objects_from (counts_behind judged) lines) x y → (printed : List ℕ) × AreToldAs judged text printed × Writes a b printed
  of_objects false false lines is calm done puts = (lines_of (objects_from (counts_behind judged) lines), (lines, is, refl, puts.1), puts.0)
  of_objects x true lines is calm done puts = absurd (let k : ⊥ = cc in k)
  of_objects true false lines is calm done puts = absurd puts

  -- all of them were
  pub told_behind : (u v : VerdictTeller) → verdicts.StartsBehind judged u → verdicts.PutsText u v a b text → verdicts.teller_status v 0 ≡ 0
      → (printed : List ℕ) × AreToldAs judged text printed × Writes a b printed
  told_behind tellers.Text v starts puts done = absurd starts
  told_behind (tellers.Json t) tellers.Text starts puts done = absurd puts
  told_behind (tellers.Json t) (tellers.Json t') starts (lines, is, tells) done =
      of_objects t.has_failed t'.has_failed lines is starts.1 done
      (subst (λ (c : Counts). PutsObjects a b (objects_from c lines) t.has_failed t'.has_failed) starts.0 tells.puts)

  -- or some, and the text is that of lines
  pub of_lines_behind : (u v : VerdictTeller) → verdicts.StartsBehind judged u → verdicts.PutsText u v a b text → IsOfLines text
  of_lines_behind tellers.Text v starts puts = absurd starts
  of_lines_behind (tellers.Json t) tellers.Text starts puts = absurd puts
  of_lines_behind (tellers.Json t) (tellers.Json t') starts (lines, is, tells) = (lines, is)

-- ---- as they are told

module _ {W : Type 0} {sink : sinks.Ghosts W} {a b : CheckTeller} {old new : Lines W sink} (text : List ℕ) where
  told : (lines : List LineValue) → flat_map line_text lines ≡ text → Tells a b old new (objects_from (counts_behind a.judged) lines) → TellsText a b old new text
  unfolding value_text
  told lines is tells = (Explains lines ∷ [], append-nil (flat_map line_text lines) ∙ is, one_value (Explains lines) tells)

  pub told_made : {X E : Type 0} (items : X → List ℕ) (made : Result X E) → IfOk made (λ x. AreToldAs a.judged text (items x)) → OnErr made (IsOfLines text)
      → ((objects : List Json) → IfOk made (λ x. (items x ≡ lines_of objects) × AreValues objects) → Tells a b old new objects) → TellsText a b old new text
  told_made items (Ok x) (lines, is, same, values) err tells = told lines is (tells (objects_from (counts_behind a.judged) lines) (same, values))
  told_made items (Err e) ok (lines, is) tells = told lines is (tells (objects_from (counts_behind a.judged) lines) tt)
