-- The answers on a capture: each mark that a report has of a stretch, and its answer.
use Rattle.std.specs.Prelude.{◌≡◌, ◌++◌, ℕ, List, [], ◌∷◌, Option, All, map}
use Rattle.std.specs.Prelude.{if◌then◌else◌}
use Rattle.std.specs.List.{AllByRecursion, flat_map}
use Rattle.mrt.specs.declared.fault.CaptureFault.{CaptureFault}
use Rattle.mrt_sessions.specs.File.{Located}
use Rattle.mrt_sessions.specs.Sessions.{records_between}
use Rattle.mrt_sessions.specs.declared.addresses.Addresses.{Addresses}
use Rattle.bgp_prefix.specs.Shown.{ShownRecord}
use Rattle.bgp_judge.specs.Verdict.{No, Unfinished, VerdictValue, Yes}
use Rattle.bgp_html.specs.Taking.{HasNoEnd}
use Rattle.bgp_list.specs.Sessions.{fault_text}
use Rattle.bgp_check.specs.Answered.{AnswerValue, JudgedAs, Unjudged}
use Rattle.bgp_check.specs.declared.peer_as.PeerAs.{PeerAs}
use Rattle.bgp_check_text.specs.Quiet.{is_left_out}
use Rattle.bgp_check_text.specs.Tally.{last_text}
use Rattle.bgp_check_text.specs.Text.{no_line, unfinished_line, yes_line}
use Rattle.bgp_check_text.specs.declared.quiet.Printing.{Printing}
use Rattle.bgp_check_text.specs.declared.tally.Tally.{Tally}
use Rattle.bgp_check_capture_tool.specs.Checking.{Block, blocks_text, marks_of, nothing_text}
use Rattle.bgp_check_capture_tool.specs.Ends.{End, Silent, Staying, Stretch}
use Rattle.bgp_check_capture_tool.specs.Marks.{MarkValue, mark_of}
use Rattle.bgp_check_capture_tool.specs.StretchEnd.{IsStretchEnd, StretchEnd, View}
use Rattle.bgp_visible_laws.specs.Laws.{HasOctets}
use Rattle.bgp_answer_laws.specs.Answers.{Answer, Says, answers_of, possible_lines}

-- ---- the answer on a stretch

-- the line of its verdict, and the lines of its reason that say what could have come, or had to; a
-- yes has no reason
abbrev pub answer_by : StretchEnd → PeerAs → VerdictValue → Answer
answer_by end peer (Yes ends) = record {
  line = yes_line end.name peer end.reached ends;
  possible = [];
}
answer_by end peer (No count) = record {
  line = no_line end.place end.name end.deed;
  possible = possible_lines end.reason;
}
answer_by end peer Unfinished = record {
  line = unfinished_line end.place end.name;
  possible = possible_lines end.reason;
}

-- its mark and its answer, if it is judged; it is of the session between these addresses, which has
-- these records in the file
abbrev pub judged_pair : Addresses → List Located → StretchEnd → AnswerValue
    → List (MarkValue × Answer)
judged_pair addresses named end (Unjudged why) = []
judged_pair addresses named end (JudgedAs number peer under verdict) =
    (mark_of addresses named end, answer_by end peer verdict) ∷ []

-- and isn't left out
abbrev pub end_pairs : Printing → Addresses → List Located → End → List (MarkValue × Answer)
end_pairs printing addresses named (Silent count) = []
end_pairs printing addresses named (Staying count) = []
end_pairs printing addresses named (Stretch end) =
    if is_left_out printing.quiet end.told.answer then []
    else judged_pair addresses named end end.told.answer

-- of a session, whose records are among these of the file
abbrev pub block_pairs : Printing → List Located → Block → List (MarkValue × Answer)
block_pairs printing named block =
    flat_map
    (end_pairs printing block.addresses (records_between block.addresses named)) block.ends

abbrev pub pairs_of : Printing → List Located → List Block → List (MarkValue × Answer)
pairs_of printing named blocks = flat_map (block_pairs printing named) blocks

-- ---- what a stretch's lines are made of

-- What was done at a no has no line feed, and the lines of the reason begin no answer.
pub record HasLines (end : StretchEnd) : Type 0 where
  pub deed : HasNoEnd end.deed
  pub reason : Says end.reason (possible_lines end.reason)

abbrev pub EndHasLines : End → Type 0
EndHasLines (Silent count) = Unit {0}
EndHasLines (Staying count) = Unit {0}
EndHasLines (Stretch end) = HasLines end

abbrev pub HaveLines : Block → Type 0
HaveLines block = AllByRecursion EndHasLines block.ends

-- So it is of each stretch that is told, if what its records hold are octets.
abbrev pub ToldStretchesHaveLines : Type 0
ToldStretchesHaveLines =
    (view : View) (before : ℕ) (stretch : List ShownRecord) (leaving : Option ShownRecord)
    (end : StretchEnd) → IsStretchEnd view before stretch leaving end
    → All HasOctets end.told.records → HasLines end

-- ---- what is printed

-- of a capture with these records, of which these blocks are told, and this of the whole file
abbrev pub printed_text : Printing → List Located → List Block → Option CaptureFault → Tally
    → List ℕ
printed_text printing named blocks fault tally =
    blocks_text printing named blocks
    ++ (fault_text fault ++ (nothing_text tally ++ last_text printing.quiet tally))

-- A text has the answers of these marks, each its own and in their order, and no other.
pub record AreAnswered (printing : Printing) (named : List Located) (blocks : List Block)
    (text : List ℕ) : Type 0 where
  pub marks : marks_of printing named blocks
      ≡ map (λ (pair : MarkValue × Answer). pair.0) (pairs_of printing named blocks)
  pub answers : answers_of text
      ≡ map (λ (pair : MarkValue × Answer). pair.1) (pairs_of printing named blocks)

abbrev pub EachMarkHasItsAnswer : Type 0
EachMarkHasItsAnswer =
    (printing : Printing) (named : List Located) (blocks : List Block)
    (fault : Option CaptureFault) (tally : Tally) → AllByRecursion HaveLines blocks
    → AreAnswered printing named blocks (printed_text printing named blocks fault tally)
