-- What is written of a text in either form.
use Rattle.std.specs.Prelude.{◌≡◌, ◌⊎◌, ℕ, List}
use Rattle.std.specs.List.{flat_map}
use Rattle.bgp_json_verdicts.specs.Answer.{IsWritten}
use Rattle.bgp_json_verdicts.specs.Lines.{LineValue, line_text}
use Rattle.bgp_json_verdicts.specs.Objects.{objects_of}
use Rattle.bgp_json_verdicts.specs.Telling.{ArePutInPart, AreValues, lines_of}
use Rattle.bgp_verdict_lines.specs.declared.form.VerdictForm.{VerdictForm}
use Rattle.bgp_verdict_lines.specs.declared.form.VerdictForm.TheVariants as forms

-- The text is that of lines, and these are their objects, a line each; or memory was refused for
-- one, these are the objects before it, and the status is 4.
pub record IsToldInJson (text : List ℕ) (code : ℕ) (printed : List ℕ) (status : ℕ) : Type 0 where
  pub lines : List LineValue
  pub text_is : flat_map line_text lines ≡ text
  pub told : ((printed ≡ lines_of (objects_of lines)) × AreValues (objects_of lines)
      × (status ≡ code))
      ⊎ (ArePutInPart (objects_of lines) printed × (status ≡ 4))

-- In either form it was written to a sink, if that didn't fail.
abbrev pub IsWrittenIn : {W : Type 0} → VerdictForm → (W → W → List ℕ → Type 0) → (W → ℕ)
    → List ℕ → ℕ → W → W → ℕ → Type 0
IsWrittenIn forms.Text takes failures text code sink sink' status =
    IsWritten takes failures text code sink sink' status
IsWrittenIn forms.Json takes failures text code sink sink' status =
    (printed : List ℕ) × ((told : ℕ) × IsToldInJson text code printed told
    × IsWritten takes failures printed told sink sink' status)
