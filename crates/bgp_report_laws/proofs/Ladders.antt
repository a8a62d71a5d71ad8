-- Each ladder of a report on a pcap file has the lines of its own end's reason.
use Rattle.std.proofs.Common.{◌∙◌, ◌++◌, ℕ, Bool, true, false, List, [], ◌∷◌, Option, None, ap, append_assoc, if◌then◌else◌, map, refl, subst, inl, inr}
use Rattle.std.proofs.lemmas.List.{map-append}
use Rattle.packets.specs.Packet.{Recorded}
use Rattle.streams.specs.declared.connection.Opening.{Opening}
use Rattle.streams.specs.declared.passed.Side.{Side}
use Rattle.bgp_prefix.specs.declared.session.Session.{Session}
use Rattle.bgp_import.specs.ListText.{other_side}
use Rattle.bgp_html.specs.Pieces.{Piece}
use Rattle.bgp_check.specs.Answered.{AnswerValue, JudgedAs, Unjudged}
use Rattle.bgp_check_text.specs.Quiet.{is_left_out}
use Rattle.bgp_check_text.specs.declared.quiet.Printing.{Printing}
use Rattle.bgp_check_tool.specs.Blocks.{AllRefused, Block, BothEnds, OneEnd, Refused}
use Rattle.bgp_check_tool.specs.Marks.{end_mark, mark_if, marks_of}
use Rattle.bgp_check_tool.specs.Told.{EndTold}
use Rattle.bgp_check_tool.specs.declared.marks.BothMarks.{BothMarks}
use Rattle.bgp_check_tool.specs.declared.marks.EndMark.{EndMark}
use Rattle.bgp_answer_laws.specs.Answers.{Answer, NotesAreOfAnswers, answers_of}
use Rattle.bgp_answer_laws.specs.Ends.{EachMarkHasItsAnswer, block_pairs, end_pairs, judged_pair, pairs_of}
use Rattle.bgp_report.specs.Ladders.{AreLadders, AreOfBoth, IsJudgedEnd, IsOfEnd, behind_both, behind_end, opener_is_open, other_is_open}
use Rattle.bgp_report.specs.Ladders as report
use Rattle.bgp_report_laws.specs.Ladders.{AreOwn, AreOwnBehind, AreOwnLadders, IsOfPair, IsOwnLadder, LaddersHaveTheirOwn, marks_by}
use Rattle.bgp_report_laws.proofs.Numbered.{AreBehind, in_text, one_more, own}

abbrev answers_in : List (EndMark × Answer) → List Answer
answers_in pairs = map (λ (pair : EndMark × Answer). pair.1) pairs

module _ (notes : NotesAreOfAnswers) (port within : ℕ) (packets : List Recorded) (text : List ℕ) where
  -- an end, before whose answer so many stand; and then the rest
  pub record AndOn (both : BothMarks) (side : Side) (is_open : Bool) (pairs : List (EndMark × Answer)) (rest : List Answer) (count : ℕ) (mark : Option EndMark) (pieces : List Piece)
      : Type 0 where
    pub is : IsOfPair port within packets both side is_open pairs pieces
    pub are : AreBehind text (behind_end count mark) rest

  judged : (both : BothMarks) (side : Side) (is_open : Bool) (count : ℕ) (mark : EndMark) (answer : Answer) (rest : List Answer) (pieces : List Piece)
      → AreBehind text count (answer ∷ rest) → IsJudgedEnd port within packets text both side is_open count mark pieces
      → IsOwnLadder port within packets both side is_open mark answer pieces
  judged both side is_open count mark answer rest pieces are (inl its) =
      inl (its.0, its.1, its.2, own notes text count answer rest its.1 are its.3, its.4)
  judged both side is_open count mark answer rest pieces are (inr lacking) = inr lacking

  of_answer : (both : BothMarks) (side : Side) (is_open : Bool) (count : ℕ) (told : EndTold) (rest : List Answer) (pieces : List Piece) (answer : AnswerValue)
      → AreBehind text count (answers_in (judged_pair told answer) ++ rest) → IsOfEnd port within packets text both side is_open count (mark_if answer told) pieces
      → AndOn both side is_open (judged_pair told answer) rest count (mark_if answer told) pieces
  of_answer both side is_open count told rest pieces (Unjudged why) are is = record { is = is; are = are }
  of_answer both side is_open count told rest pieces (JudgedAs number peer under verdict) are is = record {
    is = judged both side is_open count _ _ rest pieces are is;
    are = one_more text count _ rest are;
  }

  of_end : (printing : Printing) (both : BothMarks) (side : Side) (is_open : Bool) (count : ℕ) (told : EndTold) (rest : List Answer) (pieces : List Piece)
      → AreBehind text count (answers_in (end_pairs printing told) ++ rest) → IsOfEnd port within packets text both side is_open count (end_mark printing told) pieces
      → AndOn both side is_open (end_pairs printing told) rest count (end_mark printing told) pieces
  of_end printing both side is_open count told rest pieces are is = by (is_left_out printing.quiet told.answer) are is
    where
      by : (left_out : Bool) → AreBehind text count (answers_in (if left_out then [] else judged_pair told told.answer) ++ rest)
          → IsOfEnd port within packets text both side is_open count (if left_out then None else mark_if told.answer told) pieces
          → AndOn both side is_open (if left_out then [] else judged_pair told told.answer) rest count (if left_out then None else mark_if told.answer told) pieces
      by true are its = record { is = its; are = are }
      by false are its = of_answer both side is_open count told rest pieces told.answer are its

  -- of both ends
  pub record AndOnBoth (printing : Printing) (session : Session) (opening : Opening) (opener other : EndTold) (rest : List Answer) (count : ℕ) (pieces : List Piece) : Type 0 where
    pub is : AreOwn port within packets printing session opening opener other pieces
    pub are : AreBehind text (behind_both count (marks_by printing session opening opener other)) rest

  of_both : (printing : Printing) (session : Session) (opening : Opening) (opener other : EndTold) (rest : List Answer) (count : ℕ) (pieces : List Piece)
      → AreBehind text count (answers_in (end_pairs printing opener) ++ (answers_in (end_pairs printing other) ++ rest))
      → AreOfBoth port within packets text count (marks_by printing session opening opener other) pieces
      → AndOnBoth printing session opening opener other rest count pieces
  of_both printing session opening opener other rest count pieces are is =
      let both = marks_by printing session opening opener other in
      let first = of_end printing both opening.opened_by (opener_is_open both) count opener (answers_in (end_pairs printing other) ++ rest) is.0 are is.2 in
      let second = of_end printing both (other_side opening.opened_by) (other_is_open both) (behind_end count (end_mark printing opener)) other rest is.1 first.are is.3 in
      record { is = (is.0, is.1, first.is, second.is, is.4); are = second.are }

  parted : (xs ys : List (EndMark × Answer)) (rest : List Answer) (count : ℕ) → AreBehind text count (answers_in (xs ++ ys) ++ rest)
      → AreBehind text count (answers_in xs ++ (answers_in ys ++ rest))
  parted xs ys rest count are =
      subst (λ (answers : List Answer). AreBehind text count answers)
      (ap (λ (l : List Answer). l ++ rest) (map-append (λ (pair : EndMark × Answer). pair.1) xs ys) ∙ append_assoc (answers_in xs) (answers_in ys) rest) are

  ladders : (printing : Printing) (blocks : List (ℕ × Block)) (count : ℕ) (pieces : List Piece) → AreBehind text count (answers_in (pairs_of printing blocks))
      → AreLadders port within packets text count (marks_of printing blocks) pieces → AreOwnLadders port within packets printing blocks pieces
  ladders printing [] count pieces are is = is
  ladders printing ((place, BothEnds session opening outline first second opener other) ∷ blocks) count pieces are is =
      let both = block_pairs printing (BothEnds session opening outline first second opener other) in
      let on =
      of_both printing session opening opener other (answers_in (pairs_of printing blocks)) count is.0
      (parted (end_pairs printing opener) (end_pairs printing other) (answers_in (pairs_of printing blocks)) count
      (subst (λ (answers : List Answer). AreBehind text count answers) (map-append (λ (pair : EndMark × Answer). pair.1) both (pairs_of printing blocks)) are))
      is.2 in
      (is.0, is.1, on.is, ladders printing blocks _ is.1 on.are is.3, is.4)
  ladders printing ((place, OneEnd session opening outline first second) ∷ blocks) count pieces are is = ([], pieces, refl, ladders printing blocks count pieces are is, refl)
  ladders printing ((place, Refused session opening refusal) ∷ blocks) count pieces are is = ([], pieces, refl, ladders printing blocks count pieces are is, refl)
  ladders printing ((place, AllRefused addresses refusal) ∷ blocks) count pieces are is = ([], pieces, refl, ladders printing blocks count pieces are is, refl)

  behind_text : (printing : Printing) (blocks : List (ℕ × Block)) (behind : List Piece) → AreBehind text 0 (answers_in (pairs_of printing blocks))
      → report.AreBehind port within packets text (marks_of printing blocks) behind → AreOwnBehind port within packets printing blocks behind
  behind_text printing blocks behind are (inl none) = inl none
  behind_text printing blocks behind are (inr (inl missing)) = inr (inl missing)
  behind_text printing blocks behind are (inr (inr its)) = inr (inr (its.0, its.1, ladders printing blocks 0 its.1 are its.2, its.3))

pub each_ladder : {S : Type 0} (gives : S → S → List ℕ → Type 0) (has_ended : S → Bool) (source_failures : S → ℕ) → NotesAreOfAnswers → EachMarkHasItsAnswer
    → LaddersHaveTheirOwn gives has_ended source_failures
each_ladder gives has_ended source_failures notes marked options source source' cut_short firsts refusal nothing text code behind form is all =
    let checks = is.checks in
    let answered = marked options checks.blocks checks.stopped checks.lacking cut_short checks.tally all in
    let same = in_text options.form _ text _ code form checks.written in
    behind_text notes options.port options.within checks.packets text options.printing checks.blocks behind
    (record { before = []; is_count = refl; whole = ap answers_of same ∙ answered.answers }) is.ladders
