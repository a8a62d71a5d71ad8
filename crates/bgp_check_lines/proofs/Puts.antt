-- Lines that are put in either form: in turn, and one by one.
use Rattle.std.proofs.Common.{◌≡◌, ◌∙◌, ◌++◌, ℕ, true, List, [], ◌∷◌, append-nil, subst, sym}
use Rattle.std.specs.List.{flat_map}
use Rattle.mrt.specs.declared.sink.Sink as sinks
use Rattle.bgp_text.specs.Lines.{Writes}
use Rattle.bgp_text.specs.declared.lines.Lines.{Lines}
use Rattle.bgp_text.proofs.Pieces.{Joins}
use Rattle.bgp_check_lines.specs.Values.{CheckValue, value_text}
use Rattle.bgp_json_check.specs.declared.teller.CheckTeller.{CheckTeller}
use Rattle.bgp_check_lines.proofs.Values.{failed_values}
use Rattle.bgp_check_lines.specs.Lines.{PutsLines}
use Rattle.bgp_check_lines.specs.Teller.{PutsText, Starts, TellsText, TellsValues}
use Rattle.bgp_check_text.specs.VerdictForm.TheVariants as forms
use Rattle.bgp_check_lines.specs.declared.teller.LineTeller.{LineTeller}
use Rattle.bgp_check_lines.specs.declared.teller.LineTeller.TheVariants as tellers
use Rattle.bgp_check_lines.specs.declared.check_lines.CheckLines.{CheckLines}
use Rattle.bgp_check_lines.proofs.Tellers.{and_puts, no_puts}

-- ---- in turn

pub then_lines : {X W : Type 0} {sink : sinks.Ghosts W} → Joins sink → {a b c : CheckLines X W sink} {t s : List ℕ} → PutsLines a b t → PutsLines b c s → PutsLines a c (t ++ s)
then_lines law {a} {b} {c} {t} {s} first second = record { puts = and_puts law a.teller b.teller c.teller a.lines b.lines c.lines t s first.puts second.puts }

pub no_lines : {X W : Type 0} {sink : sinks.Ghosts W} → ((a : W) → sink.takes a a []) → (a : CheckLines X W sink) → PutsLines a a []
no_lines nothing a = record { puts = no_puts nothing a.teller a.lines }

-- ---- in one of both forms

module _ {X W : Type 0} {sink : sinks.Ghosts W} (a : CheckLines X W sink) where
  pub in_text : (b : Lines W sink) (text : List ℕ) → a.teller ≡ tellers.Text → Writes a.lines b text → PutsLines a (record a { lines = b }) text
  in_text b text is wrote = record { puts = subst (λ (u : LineTeller). PutsText u u a.lines b text) (sym is) wrote }

  pub in_json : (b : Lines W sink) (t t' : CheckTeller) (text : List ℕ) → a.teller ≡ tellers.Json t → TellsText t t' a.lines b text → PutsLines a (record a { lines = b; teller = tellers.Json t' }) text
  in_json b t t' text is told = record { puts = subst (λ (u : LineTeller). PutsText u (tellers.Json t') a.lines b text) (sym is) told }

  pub one_line : (b : Lines W sink) (t t' : CheckTeller) (x : CheckValue) (text : List ℕ) → a.teller ≡ tellers.Json t → TellsValues t t' a.lines b (x ∷ []) → value_text x ≡ text
      → PutsLines a (record a { lines = b; teller = tellers.Json t' }) text
  one_line b t t' x text is told same = in_json b t t' text is (x ∷ [], append-nil (value_text x) ∙ same, told)

  pub all_lines : (b : Lines W sink) (t t' : CheckTeller) (xs : List CheckValue) (text : List ℕ) → a.teller ≡ tellers.Json t → TellsValues t t' a.lines b xs → flat_map value_text xs ≡ text
      → PutsLines a (record a { lines = b; teller = tellers.Json t' }) text
  all_lines b t t' xs text is told same = in_json b t t' text is (xs, same, told)

  -- memory was refused for a line
  pub failed_line : ((w : W) → sink.takes w w []) → (t : CheckTeller) (x : CheckValue) (text : List ℕ) → a.teller ≡ tellers.Json t → value_text x ≡ text
      → PutsLines a (record a { teller = tellers.Json (record t { has_failed = true }) }) text
  failed_line nothing t x text is same = one_line a.lines t (record t { has_failed = true }) x text is (failed_values nothing a.lines t (x ∷ [])) same

-- ---- as text alone

text_alone : {W : Type 0} {sink : sinks.Ghosts W} (u v : LineTeller) (a b : Lines W sink) (text : List ℕ) → Starts forms.Text u → PutsText u v a b text → Writes a b text
text_alone tellers.Text tellers.Text a b text starts puts = puts
text_alone tellers.Text (tellers.Json t) a b text starts puts = absurd puts
text_alone (tellers.Json t) v a b text starts puts = absurd starts

pub writes_text : {X W : Type 0} {sink : sinks.Ghosts W} {a b : CheckLines X W sink} {text : List ℕ} → Starts forms.Text a.teller → PutsLines a b text → Writes a.lines b.lines text
writes_text {a} {b} {text} starts put = text_alone a.teller b.teller a.lines b.lines text starts put.puts
