-- What is written of lines that are put from the start.
use Rattle.std.proofs.Common.{◌≡◌, ◌∙◌, ◌⊎◌, ◌≤◌, ◌<◌, ℕ, Bool, true, false, List, [], IsTrue, IsFalse, arith, if◌then◌else◌, inl, inr, subst, sym}
use Rattle.mrt.specs.declared.sink.Sink as sinks
use Rattle.bgp_text.specs.Lines.{Writes}
use Rattle.bgp_text.specs.declared.lines.Lines.{Lines}
use Rattle.bgp_text.proofs.Fresh.{IsFresh, all_taken}
use Rattle.bgp_text.proofs.Pieces.{Joins, and_nothing}
use Rattle.bgp_json_verdicts.specs.Answer.{IsWritten}
use Rattle.bgp_json_verdicts.proofs.CaptureJudged.{is_written}
use Rattle.bgp_json_verdicts.specs.Telling.{told_status}
use Rattle.bgp_json_verdicts.specs.declared.telling.Telling.{Telling}
use Rattle.bgp_verdict_lines.specs.Lines.{PutsLines}
use Rattle.bgp_verdict_lines.specs.Printed.{IsToldInJson, IsWrittenIn}
use Rattle.bgp_verdict_lines.specs.Teller.{Starts, teller_status}
use Rattle.bgp_verdict_lines.specs.declared.form.VerdictForm.{VerdictForm}
use Rattle.bgp_verdict_lines.specs.declared.form.VerdictForm.TheVariants as forms
use Rattle.bgp_verdict_lines.specs.declared.teller.VerdictTeller.{VerdictTeller}
use Rattle.bgp_verdict_lines.specs.declared.teller.VerdictTeller.TheVariants as tellers
use Rattle.bgp_verdict_lines.specs.declared.verdict_lines.VerdictLines.{VerdictLines}
use Rattle.bgp_verdict_lines.proofs.Tellers.{written_in}

-- ---- all of it

told_as : {P Q : Type 0} {status one wanted : ℕ} → (P × (status ≡ one)) ⊎ (Q × (status ≡ 5)) → one ≡ wanted → (P × (status ≡ wanted)) ⊎ (Q × (status ≡ 5))
told_as (inl calm) is = inl (calm.0, calm.1 ∙ is)
told_as (inr broken) is = inr broken

module _ {X W : Type 0} {sink : sinks.Ghosts W} (law : Joins sink) (form : VerdictForm) (a b : VerdictLines X W sink) (c : Lines W sink) (old new : W) where
  pub printed_in : (text : List ℕ) (code status : ℕ) → IsFresh a.lines → a.lines.outlet.sink.now ≡ old → new ≡ c.outlet.sink.now → Starts form a.teller → PutsLines a b text → Writes b.lines c []
      → c.held.items ≡ [] → (IsFalse c.outlet.has_failed × (status ≡ teller_status b.teller code)) ⊎ (IsTrue c.outlet.has_failed × (status ≡ 5))
      → IsWrittenIn form sink.takes sink.failures text code old new status
  printed_in text code status fresh first last starts puts handed none told =
      written_in sink.takes sink.failures form a.teller b.teller a.lines b.lines old new text code status starts puts.puts
      (λ printed one is wrote. is_written a.lines c old new fresh first last printed one status (and_nothing law wrote handed) none
      (told_as told (sym is)))

-- ---- the exit status

told_below : (failed : Bool) (code : ℕ) → code ≤ 5 → (if failed then 4 else code) ≤ 5
told_below true code few = omega arith
told_below false code few = few

pub status_below : (u : VerdictTeller) (code : ℕ) → code ≤ 5 → teller_status u code ≤ 5
status_below tellers.Text code few = few
status_below (tellers.Json telling) code few = told_below telling.has_failed code few

pub handed_below : {P Q : Type 0} {status one : ℕ} → (P × (status ≡ one)) ⊎ (Q × (status ≡ 5)) → one ≤ 5 → status ≤ 5
handed_below (inl calm) few = let same = calm.1 in omega (arith, same, few)
handed_below (inr broken) few = let same = broken.1 in omega (arith, same)

-- ---- what was written by it

module _ {W : Type 0} (takes : W → W → List ℕ → Type 0) (failures : W → ℕ) (text : List ℕ) (code : ℕ) (old new : W) (status : ℕ) where
  -- the sink failed once, or it didn't
  pub counted_in : (form : VerdictForm) → IsWrittenIn form takes failures text code old new status → (failures new ≡ failures old) ⊎ (status ≡ 5)
  counted_in forms.Text wrote = elim wrote.all [
    | inl calm ↦ inl calm.0
    | inr broken ↦ inr broken.1
  ]
  counted_in forms.Json (printed, (told, is, wrote)) = elim wrote.all [
    | inl calm ↦ inl calm.0
    | inr broken ↦ inr broken.1
  ]

  -- a status below that of memory is the text's own
  own_code : (printed : List ℕ) (told : ℕ) → IsToldInJson text code printed told → status ≡ told → status < 4 → status ≡ code
  own_code printed told is same less = elim is.told [
    | inl all ↦ same ∙ all.2
    | inr part ↦ let four = part.1 in absurd (omega (arith, same, four, less))
  ]

  pub code_in : (form : VerdictForm) → IsWrittenIn form takes failures text code old new status → failures new ≤ failures old → status < 4 → status ≡ code
  code_in forms.Text wrote none less = elim wrote.all [
    | inl calm ↦ calm.2
    | inr broken ↦ let more = broken.0 in absurd (omega (arith, more, none))
  ]
  code_in forms.Json (printed, (told, is, wrote)) none less = elim wrote.all [
    | inl calm ↦ own_code printed told is calm.2 less
    | inr broken ↦ let more = broken.0 in absurd (omega (arith, more, none))
  ]

-- ---- in what is seen of a sink

seen_as : {V W : Type 0} (view : V → W) (takes : W → W → List ℕ → Type 0) (failures : W → ℕ) {text : List ℕ} {code : ℕ} {old new : V} {status : ℕ}
    → IsWritten (λ (a b : V) (octets : List ℕ). takes (view a) (view b) octets) (λ (a : V). failures (view a)) text code old new status → IsWritten takes failures text code (view old) (view new) status
seen_as view takes failures wrote = record { written = wrote.written; left = wrote.left; took = wrote.took; begun = wrote.begun; all = wrote.all }

pub viewed_in : {V W : Type 0} (view : V → W) (takes : W → W → List ℕ → Type 0) (failures : W → ℕ) (text : List ℕ) (code : ℕ) (old new : V) (status : ℕ) (form : VerdictForm)
    → IsWrittenIn form (λ (a b : V) (octets : List ℕ). takes (view a) (view b) octets) (λ (a : V). failures (view a)) text code old new status
    → IsWrittenIn form takes failures text code (view old) (view new) status
viewed_in view takes failures text code old new status forms.Text wrote = seen_as view takes failures wrote
viewed_in view takes failures text code old new status forms.Json (printed, (told, is, wrote)) = (printed, (told, is, seen_as view takes failures wrote))

-- ---- what a sink took of fresh lines

pub took_all : {W : Type 0} {sink : sinks.Ghosts W} (lines lines' : Lines W sink) (first last : W) (text : List ℕ) → IsFresh lines → lines.outlet.sink.now ≡ first → last ≡ lines'.outlet.sink.now
    → Writes lines lines' text → lines'.held.items ≡ [] → IsFalse lines'.outlet.has_failed → sink.takes first last text
took_all {W} {sink} lines lines' first last text fresh begins ends wrote none calm =
    subst (λ (t : List ℕ). sink.takes first last t) (sym (all_taken lines lines' text fresh wrote none calm))
    (subst (λ (w : W). sink.takes w last wrote.taken) begins (subst (λ (w : W). sink.takes lines.outlet.sink.now w wrote.taken) (sym ends) wrote.took))
