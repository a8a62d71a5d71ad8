-- Text that is put in either form.
use Rattle.std.specs.Prelude.{◌≡◌, ℕ, false, List}
use Rattle.std.specs.List.{flat_map}
use Rattle.mrt.specs.declared.sink.Sink as sinks
use Rattle.bgp_text.specs.Lines.{Writes}
use Rattle.bgp_text.specs.declared.lines.Lines.{Lines}
use Rattle.bgp_json_check.specs.Telling.{TellsUpTo, told_status}
use Rattle.bgp_json_check.specs.declared.teller.CheckTeller.{CheckTeller}
use Rattle.bgp_check_text.specs.VerdictForm.{VerdictForm}
use Rattle.bgp_check_text.specs.VerdictForm.TheVariants as forms
use Rattle.bgp_check_lines.specs.Values.{CheckValue, counted_from, objects_from, value_text}
use Rattle.bgp_check_lines.specs.declared.teller.LineTeller.{LineTeller}
use Rattle.bgp_check_lines.specs.declared.teller.LineTeller.TheVariants as tellers

-- it tells in this form, and nothing yet
abbrev pub Starts : VerdictForm → LineTeller → Type 0
Starts forms.Text tellers.Text = Unit {0}
Starts forms.Json (tellers.Json teller) = (teller.judged ≡ 0) × (teller.has_failed ≡ false)
Starts form teller = ⊥

-- the objects of lines were told, as far as there was memory
abbrev pub TellsValues : {W : Type 0} {sink : sinks.Ghosts W} → CheckTeller → CheckTeller
    → Lines W sink → Lines W sink → List CheckValue → Type 0
TellsValues before after old new values =
    TellsUpTo before after old new (counted_from before.judged values)
    (objects_from before.judged values)

-- of lines that have this text where they aren't told in JSON
abbrev pub TellsText : {W : Type 0} {sink : sinks.Ghosts W} → CheckTeller → CheckTeller
    → Lines W sink → Lines W sink → List ℕ → Type 0
TellsText before after old new text =
    (values : List CheckValue) × (flat_map value_text values ≡ text)
    × TellsValues before after old new values

-- a text was put, or lines that have it were told as objects
abbrev pub PutsText : {W : Type 0} {sink : sinks.Ghosts W} → LineTeller → LineTeller
    → Lines W sink → Lines W sink → List ℕ → Type 0
PutsText tellers.Text tellers.Text old new text = Writes old new text
PutsText (tellers.Json before) (tellers.Json after) old new text =
    TellsText before after old new text
PutsText before after old new text = ⊥

abbrev pub teller_status : LineTeller → ℕ → ℕ
teller_status tellers.Text code = code
teller_status (tellers.Json teller) code = told_status teller code
