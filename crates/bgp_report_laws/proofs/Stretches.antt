-- Each ladder of a report on an MRT file has the lines of its own stretch's reason.
use Rattle.std.proofs.Common.{◌≡◌, ◌∙◌, ◌+◌, ◌++◌, ℕ, Bool, List, [], ◌∷◌, Option, ap, map, refl, subst, inl, inr}
use Rattle.mrt.specs.declared.fault.CaptureFault.{CaptureFault}
use Rattle.mrt_sessions.specs.declared.holding.Ending.{Ending}
use Rattle.bgp_html.specs.Pieces.{Piece}
use Rattle.bgp_list.specs.Sessions.{fault_text}
use Rattle.bgp_check_text.specs.Tally.{last_text}
use Rattle.bgp_check_text.specs.declared.tally.Tally.{Tally}
use Rattle.bgp_check_capture_tool.specs.Checking.{Tells, nothing_text, told_marks}
use Rattle.bgp_check_capture_tool.specs.Marks.{MarkValue}
use Rattle.bgp_check_capture_tool.specs.declared.options.CaptureOptions.{CaptureOptions}
use Rattle.bgp_answer_laws.specs.Answers.{Answer, NotesAreOfAnswers, answers_of}
use Rattle.bgp_answer_laws.specs.Stretches.{EachMarkHasItsAnswer}
use Rattle.bgp_report.specs.Stretches.{AreFrom, AreStretchesBehind, IsJudged, stretch_is_open}
use Rattle.bgp_report_laws.specs.Stretches.{AreOwnBehind, AreOwnStretches, IsOwnStretch, LaddersHaveTheirOwn, ToldHaveLines, marks_in, told_pairs}
use Rattle.bgp_report_laws.proofs.Numbered.{AreBehind, in_text, one_more, own}

abbrev answers_in : List (MarkValue × Answer) → List Answer
answers_in pairs = map (λ (pair : MarkValue × Answer). pair.1) pairs

module _ (notes : NotesAreOfAnswers) (text : List ℕ) where
  judged : (is_open : Bool) (count : ℕ) (mark : MarkValue) (answer : Answer) (rest : List Answer) (pieces : List Piece) → AreBehind text count (answer ∷ rest)
      → IsJudged text is_open count mark pieces → IsOwnStretch is_open mark answer pieces
  judged is_open count mark answer rest pieces are (inl its) = inl (its.0, own notes text count answer rest its.0 are its.1, its.2)
  judged is_open count mark answer rest pieces are (inr lost) = inr lost

  stretches : (all : List MarkValue) (pairs : List (MarkValue × Answer)) (number : ℕ) (pieces : List Piece) → AreBehind text number (answers_in pairs)
      → AreFrom text all number (marks_in pairs) pieces → AreOwnStretches all number pairs pieces
  stretches all [] number pieces are is = is
  stretches all (pair ∷ pairs) number pieces are is = (
    is.0,
    is.1,
    judged (stretch_is_open all number pair.0) number pair.0 pair.1 (answers_in pairs) is.0 are is.2,
    stretches all pairs (number + 1) is.1 (one_more text number pair.1 (answers_in pairs) are) is.3,
    is.4,
  )

  behind_text : (pairs : List (MarkValue × Answer)) (behind : List Piece) → AreBehind text 0 (answers_in pairs) → AreStretchesBehind text (marks_in pairs) behind → AreOwnBehind pairs behind
  behind_text pairs behind are (inl none) = inl none
  behind_text pairs behind are (inr (inl refused)) = inr (inl refused)
  behind_text pairs behind are (inr (inr its)) = inr (inr (its.0, its.1, stretches (marks_in pairs) pairs 0 its.1 are its.2, its.3))

-- what is told, with the rest of what is printed
pub record AreTold (options : CaptureOptions) {octets : List ℕ} {ending : Ending} {its : List ℕ} {of_sessions : Tally} {firsts : List (Option CaptureFault)} {count : ℕ}
    {fault : Option CaptureFault} (tells : Tells options octets ending its of_sessions firsts count fault) (tally : Tally) : Type 0 where
  pub marks : told_marks options tells ≡ marks_in (told_pairs options tells)
  pub answers : answers_of (its ++ (fault_text fault ++ (nothing_text tally ++ last_text options.printing.quiet tally))) ≡ answers_in (told_pairs options tells)

are_told : EachMarkHasItsAnswer → (options : CaptureOptions) {octets : List ℕ} {ending : Ending} {its : List ℕ} {of_sessions : Tally} {firsts : List (Option CaptureFault)} {count : ℕ}
    {fault : Option CaptureFault} (tells : Tells options octets ending its of_sessions firsts count fault) (tally : Tally) → ToldHaveLines options tells → AreTold options tells tally
are_told marked options {fault = fault} (inl told) tally all =
    let all_of_it = told.0 in
    let answered = marked options.printing all_of_it.named all_of_it.blocks fault tally all in
    record {
      marks = answered.marks;
      answers =
          ap (λ (t : List ℕ). answers_of (t ++ (fault_text fault ++ (nothing_text tally ++ last_text options.printing.quiet tally)))) all_of_it.is_text
          ∙ answered.answers;
    }
are_told marked options {fault = fault} (inr none) tally all =
    let answered = marked options.printing [] [] fault tally tt in
    record {
      marks = refl;
      answers =
          ap (λ (t : List ℕ). answers_of (t ++ (fault_text fault ++ (nothing_text tally ++ last_text options.printing.quiet tally)))) none.0
          ∙ answered.answers;
    }

pub each_ladder : {S : Type 0} (gives : S → S → List ℕ → Type 0) (has_ended : S → Bool) (source_failures : S → ℕ) → NotesAreOfAnswers → EachMarkHasItsAnswer
    → LaddersHaveTheirOwn gives has_ended source_failures
each_ladder gives has_ended source_failures notes marked options source source' firsts count fault nothing text code behind form is all =
    let checks = is.checks.checks in
    let told = are_told marked options checks.tells checks.tally all in
    let same = in_text options.form _ text _ code form checks.written in
    behind_text notes text (told_pairs options checks.tells) behind
    (record { before = []; is_count = refl; whole = ap answers_of same ∙ told.answers })
    (subst (λ (marks : List MarkValue). AreStretchesBehind text marks behind) told.marks is.ladders)
