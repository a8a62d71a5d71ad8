-- What is written of a text in either form.
use Rattle.std.specs.Prelude.{◌≡◌, ◌⊎◌, ℕ, List}
use Rattle.std.specs.List.{flat_map}
use Rattle.bgp_tool.specs.Answer.{IsWritten}
use Rattle.bgp_json_check.specs.JsonVerdictsTelling.{ArePutInPart, AreValues, lines_of}
use Rattle.bgp_check_text.specs.VerdictForm.{VerdictForm}
use Rattle.bgp_check_text.specs.VerdictForm.TheVariants as forms
use Rattle.bgp_check_lines.specs.Values.{CheckValue, objects_of, value_text}

-- The text is that of lines, and these are their objects, a line each; or memory was refused for
-- one, these are the objects before it, and the status is 4.
pub record IsToldInJson (text : List ℕ) (code : ℕ) (printed : List ℕ) (status : ℕ) : Type 0 where
  pub values : List CheckValue
  pub text_is : flat_map value_text values ≡ text
  pub told : ((printed ≡ lines_of (objects_of values)) × AreValues (objects_of values)
      × (status ≡ code))
      ⊎ (ArePutInPart (objects_of values) printed × (status ≡ 4))

-- In either form it was written to a sink, if that didn't fail.
abbrev pub IsWrittenIn : {W : Type 0} → VerdictForm → (W → W → List ℕ → Type 0) → (W → ℕ)
    → List ℕ → ℕ → W → W → ℕ → Type 0
IsWrittenIn forms.Text takes failures text code sink sink' status =
    IsWritten takes failures text code sink sink' status
IsWrittenIn forms.Json takes failures text code sink sink' status =
    (printed : List ℕ) × ((told : ℕ) × IsToldInJson text code printed told
    × IsWritten takes failures printed told sink sink' status)
