-- The lines of a text's answer by its number are those of the mark behind so many.
use Rattle.std.proofs.Common.{◌≡◌, ◌∙◌, ◌⊎◌, ◌+◌, ◌++◌, ℕ, List, [], ◌∷◌, ap, append-nil, arith, length, refl, slice_get, subst, sym, inl, inr}
use Rattle.std.proofs.lemmas.List.{length-append}
use Rattle.bgp_tool.specs.Answer.{IsWritten}
use Rattle.bgp_verdict_lines.specs.declared.form.VerdictForm.{VerdictForm}
use Rattle.bgp_verdict_lines.specs.declared.form.VerdictForm.TheVariants.{Text}
use Rattle.bgp_check_lines.specs.Printed.{IsWrittenIn}
use Rattle.bgp_answer_laws.specs.Answers.{Answer, NotesAreOfAnswers, answers_of, possible_at}
use Rattle.bgp_report.specs.Ladders.{IsPossible}
use Rattle.bgp_report.specs.Report.{TakesText, never_fails}
use Rattle.bgp_report_laws.specs.Ladders.{IsOwn}

-- the answers of a text behind so many
pub record AreBehind (text : List ℕ) (count : ℕ) (answers : List Answer) : Type 0 where
  pub before : List Answer
  pub is_count : count ≡ length before
  pub whole : answers_of text ≡ before ++ answers

at_length : (before : List Answer) (answer : Answer) (rest : List Answer) → possible_at (slice_get (before ++ answer ∷ rest) (length before)) ≡ answer.possible
at_length [] answer rest = refl
at_length (a ∷ before) answer rest = at_length before answer rest

pub one_more : (text : List ℕ) (count : ℕ) (answer : Answer) (rest : List Answer) → AreBehind text count (answer ∷ rest) → AreBehind text (count + 1) rest
one_more text count answer rest are = record {
  before = are.before ++ answer ∷ [];
  is_count = longer are.before count are.is_count;
  whole = are.whole ∙ pushed are.before;
} where
  longer : (before : List Answer) (n : ℕ) → n ≡ length before → n + 1 ≡ length (before ++ answer ∷ [])
  longer before n is = omega (arith, is, length-append before (answer ∷ []))

  pushed : (before : List Answer) → before ++ answer ∷ rest ≡ (before ++ answer ∷ []) ++ rest
  pushed [] = refl
  pushed (a ∷ before) = ap (λ (l : List Answer). a ∷ l) (pushed before)

pub own : NotesAreOfAnswers → (text : List ℕ) (count : ℕ) (answer : Answer) (rest : List Answer) (possible : List ℕ) → AreBehind text count (answer ∷ rest)
    → IsPossible text count possible → IsOwn answer possible
own notes text count answer rest possible are (inl is) =
    inl (is ∙ notes text count
    ∙ ap (λ (answers : List Answer). possible_at (slice_get answers count)) are.whole
    ∙ ap (λ (n : ℕ). possible_at (slice_get (are.before ++ answer ∷ rest) n)) are.is_count
    ∙ at_length are.before answer rest)
own notes text count answer rest possible are (inr refused) = inr refused

-- a text in memory takes all
pub all_of : (printed text : List ℕ) (code status : ℕ) → IsWritten TakesText never_fails printed code [] text status → text ≡ printed
all_of printed text code status is = by is.all
  where
    by : ((never_fails text ≡ never_fails []) × (is.left ≡ []) × (status ≡ code)) ⊎ ((never_fails text ≡ never_fails [] + 1) × (status ≡ 5)) → text ≡ printed
    by (inl all) = is.took ∙ sym (append-nil is.written) ∙ ap (λ (l : List ℕ). is.written ++ l) (sym all.1) ∙ sym is.begun
    by (inr failed) = absurd (omega (arith, failed.0))

pub in_text : (form : VerdictForm) (printed text : List ℕ) (code status : ℕ) → form ≡ Text → IsWrittenIn form TakesText never_fails printed code [] text status → text ≡ printed
in_text form printed text code status is written =
    all_of printed text code status (subst (λ (f : VerdictForm). IsWrittenIn f TakesText never_fails printed code [] text status) is written)
