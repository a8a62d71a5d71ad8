-- Text that is put in either form: in turn, and all of it.
use Rattle.std.proofs.Common.{◌≡◌, ◌++◌, ℕ, Bool, true, false, List, [], if◌then◌else◌, inl, inr, refl, subst}
use Rattle.std.specs.List.{flat_map}
use Rattle.mrt.specs.declared.sink.Sink as sinks
use Rattle.bgp_text.specs.Lines.{Writes}
use Rattle.bgp_text.specs.declared.lines.Lines.{Lines}
use Rattle.bgp_text.proofs.Pieces.{Joins, and_then, nothing_yet}
use Rattle.bgp_json_verdicts.specs.Answer.{IsWritten}
use Rattle.bgp_json_verdicts.specs.Lines.{LineValue, line_text}
use Rattle.bgp_json_verdicts.specs.Objects.{no_counts, objects_from, objects_of}
use Rattle.bgp_verdict_lines.specs.Printed.{IsToldInJson, IsWrittenIn}
use Rattle.bgp_verdict_lines.specs.Teller.{PutsText, Starts, teller_status}
use Rattle.bgp_json_verdicts.specs.Telling.{PutsObjects, TellsText, lines_of, told_status}
use Rattle.bgp_verdict_lines.specs.declared.form.VerdictForm.{VerdictForm}
use Rattle.bgp_verdict_lines.specs.declared.form.VerdictForm.TheVariants as forms
use Rattle.bgp_verdict_lines.specs.declared.teller.VerdictTeller.{VerdictTeller}
use Rattle.bgp_verdict_lines.specs.declared.teller.VerdictTeller.TheVariants as tellers
use Rattle.bgp_json_verdicts.specs.declared.telling.Counts.{Counts}
use Rattle.bgp_json_verdicts.specs.declared.telling.Telling.{Telling}
use Rattle.bgp_json_verdicts.proofs.Told.{and_text, no_text}

-- ---- in turn

pub and_puts : {W : Type 0} {sink : sinks.Ghosts W} → Joins sink → (u v w : VerdictTeller) (a b c : Lines W sink) (t s : List ℕ) → PutsText u v a b t → PutsText v w b c s
    → PutsText u w a c (t ++ s)
and_puts law tellers.Text tellers.Text tellers.Text a b c t s first second = and_then law first second
and_puts law (tellers.Json x) (tellers.Json y) (tellers.Json z) a b c t s first second = and_text law first second
and_puts law tellers.Text tellers.Text (tellers.Json z) a b c t s first second = absurd second
and_puts law tellers.Text (tellers.Json y) w a b c t s first second = absurd first
and_puts law (tellers.Json x) tellers.Text w a b c t s first second = absurd first
and_puts law (tellers.Json x) (tellers.Json y) tellers.Text a b c t s first second = absurd second

pub no_puts : {W : Type 0} {sink : sinks.Ghosts W} → ((a : W) → sink.takes a a []) → (u : VerdictTeller) (a : Lines W sink) → PutsText u u a a []
no_puts {sink} nothing tellers.Text a = nothing_yet sink nothing a.outlet a.held.items
no_puts nothing (tellers.Json x) a = no_text nothing a x

-- ---- all of it

module _ {W : Type 0} {sink : sinks.Ghosts W} (a b : Lines W sink) (text : List ℕ) (code : ℕ) where
  printed_by : (x y : Bool) (lines : List LineValue) → flat_map line_text lines ≡ text → x ≡ false → PutsObjects a b (objects_of lines) x y
      → (printed : List ℕ) × IsToldInJson text code printed (if y then 4 else code) × Writes a b printed
  printed_by false false lines is calm puts =
      (lines_of (objects_of lines), record { lines = lines; text_is = is; told = inl (refl, puts.1, refl) }, puts.0)
  printed_by false true lines is calm (printed, part, wrote) =
      (printed, record { lines = lines; text_is = is; told = inr (part, refl) }, wrote)
  printed_by true y lines is calm puts = absurd (let k : ⊥ = cc in k)

  -- what is printed of a text that was told from the start
  pub printed_of : (t t' : Telling) → t.counts ≡ no_counts → t.has_failed ≡ false → TellsText t t' a b text
      → (printed : List ℕ) × IsToldInJson text code printed (told_status t' code) × Writes a b printed
  printed_of t t' fresh calm (lines, is, tells) =
      printed_by t.has_failed t'.has_failed lines is calm
      (subst (λ (c : Counts). PutsObjects a b (objects_from c lines) t.has_failed t'.has_failed) fresh tells.puts)

-- it is written, if what is put is written
module _ {W X : Type 0} {sink : sinks.Ghosts X} (takes : W → W → List ℕ → Type 0) (failures : W → ℕ) where
  pub written_in : (form : VerdictForm) (u v : VerdictTeller) (a b : Lines X sink) (old new : W) (text : List ℕ) (code status : ℕ) → Starts form u → PutsText u v a b text
      → ((printed : List ℕ) (told : ℕ) → told ≡ teller_status v code → Writes a b printed → IsWritten takes failures printed told old new status)
      → IsWrittenIn form takes failures text code old new status
  written_in forms.Text tellers.Text tellers.Text a b old new text code status starts puts written = written text code refl puts
  written_in forms.Json (tellers.Json t) (tellers.Json t') a b old new text code status starts puts written =
      let (printed, told, wrote) = printed_of a b text code t t' starts.0 starts.1 puts in
      (printed, (told_status t' code, told, written printed (told_status t' code) refl wrote))
  written_in forms.Text tellers.Text (tellers.Json t) a b old new text code status starts puts written = absurd puts
  written_in forms.Text (tellers.Json t) v a b old new text code status starts puts written = absurd starts
  written_in forms.Json tellers.Text v a b old new text code status starts puts written = absurd starts
  written_in forms.Json (tellers.Json t) tellers.Text a b old new text code status starts puts written = absurd puts
