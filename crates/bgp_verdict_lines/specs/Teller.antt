-- Text that is put in either form.
use Rattle.std.specs.Prelude.{◌≡◌, ℕ, false, List}
use Rattle.mrt.specs.declared.sink.Sink as sinks
use Rattle.bgp_text.specs.Lines.{Writes}
use Rattle.bgp_text.specs.declared.lines.Lines.{Lines}
use Rattle.bgp_json_verdicts.specs.Objects.{counts_behind, no_counts}
use Rattle.bgp_json_verdicts.specs.Telling.{TellsText, told_status}
use Rattle.bgp_verdict_lines.specs.declared.form.VerdictForm.{VerdictForm}
use Rattle.bgp_verdict_lines.specs.declared.form.VerdictForm.TheVariants as forms
use Rattle.bgp_verdict_lines.specs.declared.teller.VerdictTeller.{VerdictTeller}
use Rattle.bgp_verdict_lines.specs.declared.teller.VerdictTeller.TheVariants as tellers

-- it tells in this form, and nothing yet
abbrev pub Starts : VerdictForm → VerdictTeller → Type 0
Starts forms.Text tellers.Text = Unit {0}
Starts forms.Json (tellers.Json telling) =
    (telling.counts ≡ no_counts) × (telling.has_failed ≡ false)
Starts form teller = ⊥

-- it tells in JSON, behind so many verdicts, the last of which has no ends yet
abbrev pub StartsBehind : ℕ → VerdictTeller → Type 0
StartsBehind judged tellers.Text = ⊥
StartsBehind judged (tellers.Json telling) =
    (telling.counts ≡ counts_behind judged) × (telling.has_failed ≡ false)

-- a text was put, or lines that have it were told as objects
abbrev pub PutsText : {W : Type 0} {sink : sinks.Ghosts W} → VerdictTeller → VerdictTeller
    → Lines W sink → Lines W sink → List ℕ → Type 0
PutsText tellers.Text tellers.Text old new text = Writes old new text
PutsText (tellers.Json before) (tellers.Json after) old new text =
    TellsText before after old new text
PutsText before after old new text = ⊥

abbrev pub teller_status : VerdictTeller → ℕ → ℕ
teller_status tellers.Text code = code
teller_status (tellers.Json telling) code = told_status telling code
