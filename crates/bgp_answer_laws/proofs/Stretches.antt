-- Each mark of a capture has its answer in what is printed.
use Rattle.std.proofs.Common.{◌≡◌, ◌∙◌, ◌++◌, ℕ, Bool, true, false, not, List, [], ◌∷◌, Option, None, Some, append-nil, append_assoc, ap, ap₂, codes, if◌then◌else◌, map, refl, subst, sym}
use Rattle.std.specs.List.{AllByRecursion, flat_map}
use Rattle.std.proofs.lemmas.List.{map-append}
use Rattle.mrt_sessions.specs.File.{Located}
use Rattle.mrt_sessions.specs.Sessions.{records_between}
use Rattle.mrt_sessions.specs.declared.addresses.Addresses.{Addresses}
use Rattle.bgp_prefix.specs.declared.address.Address.{Address}
use Rattle.bgp_judge.specs.Verdict.{No, Unfinished, VerdictValue, Yes}
use Rattle.bgp_html.specs.Noted.{is_answer}
use Rattle.bgp_check.specs.Answered.{AnswerValue, JudgedAs, Unjudged}
use Rattle.bgp_check.specs.declared.not_judged.NotJudged.TheVariants.{NothingSent}
use Rattle.bgp_check.specs.declared.peer_as.PeerAs.{PeerAs}
use Rattle.bgp_check_text.specs.Quiet.{is_left_out}
use Rattle.bgp_check_text.specs.States.{routes_if}
use Rattle.bgp_check_text.specs.Tally.{is_empty}
use Rattle.bgp_check_text.specs.Text.{no_line, unfinished_line, why_text, yes_line}
use Rattle.bgp_check_text.specs.declared.options.JudgeOptions.{JudgeOptions}
use Rattle.bgp_check_text.specs.declared.quiet.Printing.{Printing}
use Rattle.bgp_check_text.specs.declared.tally.Tally.{Tally}
use Rattle.bgp_check_lines.specs.Values.{no_record_line}
use Rattle.bgp_list.specs.Sessions.{fault_text, session_line}
use Rattle.bgp_check_capture_tool.specs.Checking.{Block, block_text, blocks_text, marks_of, nothing_text}
use Rattle.bgp_check_capture_tool.specs.Ends.{End, Silent, Staying, Stretch}
use Rattle.bgp_check_capture_tool.specs.Judging.{judge_text}
use Rattle.bgp_check_capture_tool.specs.Marks.{MarkValue, end_marks, ends_marks, is_marked, mark_of}
use Rattle.bgp_check_capture_tool.specs.Naming.{endpoint_of}
use Rattle.bgp_check_capture_tool.specs.StretchEnd.{StretchEnd}
use Rattle.bgp_check_capture_tool.specs.Text.{answer_text, ends_text, headed, kept_text, notes_text, session_text, unjudged_line, verdict_text}
use Rattle.bgp_check_capture_tool.specs.ToldEnd.{ToldEndValue, is_over, open_text, told_end_line}
use Rattle.bgp_check_laws.specs.Deeds.{DeedsAreVisible}
use Rattle.bgp_answer_laws.specs.Answers.{Answer, Says, Tells, possible_lines}
use Rattle.bgp_answer_laws.specs.Stretches.{EachMarkHasItsAnswer, EndHasLines, HasLines, HaveLines, ToldStretchesHaveLines, answer_by, block_pairs, end_pairs, judged_pair, pairs_of, printed_text}
use Rattle.bgp_answer_laws.proofs.Heads.{ended_stretch_says, fault_says, session_says}
use Rattle.bgp_answer_laws.proofs.Lines.{answers_are, none_both, says_both, says_nothing, tells_answer, tells_both, tells_nothing, word}
use Rattle.bgp_answer_laws.proofs.Plain.{plain}
use Rattle.bgp_answer_laws.proofs.Reasons.{reasons_are_lines}
use Rattle.bgp_answer_laws.proofs.Verdicts.{judge_says, last_says, no_kind, no_record_says, no_whole, not_judged_says, open_says, passed_say, routes_if_say, silent_plain, unfinished_kind, unfinished_whole, unnamed_says, yes_kind, yes_whole}

-- ---- what a stretch's lines are made of

pub stretches_have_lines : DeedsAreVisible → ToldStretchesHaveLines
stretches_have_lines deeds view before stretch leaving end is all = record {
  deed = (plain (deeds _ _ _ false _ _ _ end.told.records end.told.answer end.deed end.reason all is.explains)).none;
  reason = reasons_are_lines _ _ _ false _ _ _ end.told.records end.told.answer end.deed end.reason all is.explains;
}

-- ---- the lines behind a verdict

judge_if : (options : Option JudgeOptions) → Says (judge_text options) []
judge_if None = says_nothing
judge_if (Some options) = judge_says options

open_if : (over : Bool) → Says (open_text over) []
open_if true = says_nothing
open_if false = open_says

ended_if : (over : Bool) (told : Option ToldEndValue) → Says (told_end_line over told) []
ended_if over None = open_if over
ended_if over (Some told) = ended_stretch_says told.first told.number told.micro told.by told.ended

notes_say : (end : StretchEnd) → Says (notes_text end) []
notes_say end = none_both (passed_say end.told.received end.told.sent) (judge_if end.judge)

-- a reason, and the notes behind it
reason_says : (end : StretchEnd) → HasLines end → Says (end.reason ++ notes_text end) (possible_lines end.reason)
reason_says end has =
    subst (λ (p : List ℕ). Says (end.reason ++ notes_text end) p) (append-nil (possible_lines end.reason))
    (says_both end.reason (notes_text end) (possible_lines end.reason) [] has.reason (notes_say end))

-- ---- the lines of an end

abbrev answers_in_pairs : List (MarkValue × Answer) → List Answer
answers_in_pairs pairs = map (λ (pair : MarkValue × Answer). pair.1) pairs

abbrev marks_in_pairs : List (MarkValue × Answer) → List MarkValue
marks_in_pairs pairs = map (λ (pair : MarkValue × Answer). pair.0) pairs

verdict_tells : (routes : Bool) (end : StretchEnd) (peer : PeerAs) (verdict : VerdictValue) → HasLines end
    → Tells (verdict_text routes end peer verdict) (answer_by end peer verdict ∷ [])
verdict_tells routes end peer (Yes its) has =
    let line = yes_line end.name peer end.reached its in
    let later = told_end_line (is_over its) end.ended ++ notes_text end in
    subst (λ (t : List ℕ). Tells t (answer_by end peer (Yes its) ∷ [])) (sym (append_assoc line (routes_if routes end.reached its) later))
    (tells_answer line (routes_if routes end.reached its ++ later) [] (yes_whole end.name peer end.reached its)
    (ap is_answer (yes_kind end.name peer end.reached its))
    (none_both (routes_if_say routes end.reached its) (none_both (ended_if (is_over its) end.ended) (notes_say end))))
verdict_tells routes end peer (No count) has =
    tells_answer (no_line end.place end.name end.deed) (end.reason ++ notes_text end) (possible_lines end.reason)
    (no_whole end.place end.name end.deed record { none = has.deed }) (ap is_answer (no_kind end.place end.name end.deed)) (reason_says end has)
verdict_tells routes end peer Unfinished has =
    tells_answer (unfinished_line end.place end.name) (end.reason ++ notes_text end) (possible_lines end.reason)
    (unfinished_whole end.place end.name) (ap is_answer (unfinished_kind end.place end.name)) (reason_says end has)

module _ (addresses : Addresses) (named : List Located) where
  answer_tells : (routes : Bool) (end : StretchEnd) (answer : AnswerValue) → HasLines end
      → Tells (answer_text routes end answer) (answers_in_pairs (judged_pair addresses named end answer))
  answer_tells routes end (Unjudged why) has = tells_nothing _ (not_judged_says end.name why)
  answer_tells routes end (JudgedAs number peer under verdict) has = verdict_tells routes end peer verdict has

  unjudged_tells : (quiet : Bool) (local : Address) (count : ℕ) (why : List ℕ) → Says (unjudged_line local count why) []
      → Tells (if quiet then [] else unjudged_line local count why) []
  unjudged_tells true local count why says = tells_nothing [] says_nothing
  unjudged_tells false local count why says = tells_nothing _ says

  end_tells : (printing : Printing) (end : End) → EndHasLines end
      → Tells (kept_text printing addresses.local end) (answers_in_pairs (end_pairs printing addresses named end))
  end_tells printing (Silent count) has =
      unjudged_tells printing.quiet addresses.local count (why_text NothingSent) (unnamed_says (endpoint_of addresses.local) (Some (1, count)) (why_text NothingSent) silent_plain)
  end_tells printing (Staying count) has =
      unjudged_tells printing.quiet addresses.local count (codes "these records do not begin with a change from Idle")
      (unnamed_says (endpoint_of addresses.local) (Some (1, count)) (codes "these records do not begin with a change from Idle")
      (word (codes "these records do not begin with a change from Idle") refl))
  end_tells printing (Stretch end) has = by (is_left_out printing.quiet end.told.answer)
    where
      by : (left_out : Bool) → Tells (if left_out then [] else answer_text printing.routes end end.told.answer)
          (answers_in_pairs (if left_out then [] else judged_pair addresses named end end.told.answer))
      by true = tells_nothing [] says_nothing
      by false = answer_tells printing.routes end end.told.answer has

  end_marked : (printing : Printing) (end : End) → end_marks printing.quiet addresses named end ≡ marks_in_pairs (end_pairs printing addresses named end)
  end_marked printing (Silent count) = refl
  end_marked printing (Staying count) = refl
  end_marked printing (Stretch end) = of_answer end.told.answer
    where
      none_left : (left_out : Bool) → [] ≡ marks_in_pairs (if left_out then [] else [])
      none_left true = refl
      none_left false = refl

      one_left : (left_out : Bool) (pair : MarkValue × Answer)
          → (if not left_out then pair.0 ∷ [] else []) ≡ marks_in_pairs (if left_out then [] else pair ∷ [])
      one_left true pair = refl
      one_left false pair = refl

      of_answer : (answer : AnswerValue) → (if is_marked printing.quiet answer then mark_of addresses named end ∷ [] else [])
          ≡ marks_in_pairs (if is_left_out printing.quiet answer then [] else judged_pair addresses named end answer)
      of_answer (Unjudged why) = none_left (is_left_out printing.quiet (Unjudged why))
      of_answer (JudgedAs number peer under verdict) =
          one_left (is_left_out printing.quiet (JudgedAs number peer under verdict)) (mark_of addresses named end, answer_by end peer verdict)

  ends_tell : (printing : Printing) (its : List End) → AllByRecursion EndHasLines its
      → Tells (ends_text printing addresses.local its) (answers_in_pairs (flat_map (end_pairs printing addresses named) its))
  ends_tell printing [] all = tells_nothing [] says_nothing
  ends_tell printing (end ∷ its) all =
      subst (λ (answers : List Answer). Tells (kept_text printing addresses.local end ++ ends_text printing addresses.local its) answers)
      (sym (map-append (λ (pair : MarkValue × Answer). pair.1) (end_pairs printing addresses named end) (flat_map (end_pairs printing addresses named) its)))
      (tells_both _ _ _ _ (end_tells printing end all.0) (ends_tell printing its all.1))

  ends_marked : (printing : Printing) (its : List End) → ends_marks printing.quiet addresses named its ≡ marks_in_pairs (flat_map (end_pairs printing addresses named) its)
  ends_marked printing [] = refl
  ends_marked printing (end ∷ its) =
      ap₂ (λ (xs ys : List MarkValue). xs ++ ys) (end_marked printing end) (ends_marked printing its)
      ∙ sym (map-append (λ (pair : MarkValue × Answer). pair.0) (end_pairs printing addresses named end) (flat_map (end_pairs printing addresses named) its))

-- ---- a session

headed_tells : (heading rest : List ℕ) (answers : List Answer) → Says heading [] → Tells rest answers → Tells (headed heading rest) answers
headed_tells heading [] answers says tells = tells
headed_tells heading (octet ∷ rest) answers says tells = tells_both heading (octet ∷ rest) [] answers (tells_nothing heading says) tells

session_tells : (quiet : Bool) (heading rest : List ℕ) (answers : List Answer) → Says heading [] → Tells rest answers → Tells (session_text quiet heading rest) answers
session_tells true heading rest answers says tells = headed_tells heading rest answers says tells
session_tells false heading rest answers says tells = tells_both heading rest [] answers (tells_nothing heading says) tells

block_tells : (printing : Printing) (named : List Located) (block : Block) → HaveLines block → Tells (block_text printing named block) (answers_in_pairs (block_pairs printing named block))
block_tells printing named block has =
    let its = records_between block.addresses named in
    session_tells printing.quiet (session_line block.addresses its) (ends_text printing block.addresses.local block.ends ++ fault_text block.fault) _ (session_says block.addresses its)
    (subst (λ (answers : List Answer). Tells (ends_text printing block.addresses.local block.ends ++ fault_text block.fault) answers)
    (append-nil (answers_in_pairs (block_pairs printing named block)))
    (tells_both _ _ _ [] (ends_tell block.addresses its printing block.ends has) (tells_nothing _ (fault_says block.fault))))

-- ---- all of them

blocks_tell : (printing : Printing) (named : List Located) (blocks : List Block) → AllByRecursion HaveLines blocks
    → Tells (blocks_text printing named blocks) (answers_in_pairs (pairs_of printing named blocks))
blocks_tell printing named [] all = tells_nothing [] says_nothing
blocks_tell printing named (block ∷ blocks) all =
    subst (λ (answers : List Answer). Tells (block_text printing named block ++ blocks_text printing named blocks) answers)
    (sym (map-append (λ (pair : MarkValue × Answer). pair.1) (block_pairs printing named block) (pairs_of printing named blocks)))
    (tells_both _ _ _ _ (block_tells printing named block all.0) (blocks_tell printing named blocks all.1))

blocks_marked : (printing : Printing) (named : List Located) (blocks : List Block) → marks_of printing named blocks ≡ marks_in_pairs (pairs_of printing named blocks)
blocks_marked printing named [] = refl
blocks_marked printing named (block ∷ blocks) =
    ap₂ (λ (xs ys : List MarkValue). xs ++ ys) (ends_marked block.addresses (records_between block.addresses named) printing block.ends) (blocks_marked printing named blocks)
    ∙ sym (map-append (λ (pair : MarkValue × Answer). pair.0) (block_pairs printing named block) (pairs_of printing named blocks))

none_says : (tally : Tally) → Says (nothing_text tally) []
none_says tally = by (is_empty tally)
  where
    by : (empty : Bool) → Says (if empty then no_record_line else []) []
    by true = no_record_says
    by false = says_nothing

pub each_mark : EachMarkHasItsAnswer
each_mark printing named blocks fault tally all =
    let behind_it = none_both (fault_says fault) (none_both (none_says tally) (last_says printing.quiet tally)) in
    record {
      marks = blocks_marked printing named blocks;
      answers =
          answers_are (printed_text printing named blocks fault tally) _
          (tells_both (blocks_text printing named blocks) _ (answers_in_pairs (pairs_of printing named blocks)) [] (blocks_tell printing named blocks all) (tells_nothing _ behind_it))
          ∙ append-nil (answers_in_pairs (pairs_of printing named blocks));
    }
