-- The answers on a recording: each mark that a report has of an end, and its answer.
use Rattle.std.specs.Prelude.{◌≡◌, ◌++◌, ℕ, List, [], ◌∷◌, Option, None, Some, All, IfSome, map}
use Rattle.std.specs.Prelude.{if◌then◌else◌}
use Rattle.std.specs.List.{AllByRecursion, flat_map}
use Rattle.bgp_prefix.specs.declared.session.Session.{Session}
use Rattle.segments.specs.declared.found.Endpoint.{Endpoint}
use Rattle.streams.specs.declared.connection.Connection.{Connection}
use Rattle.bgp_judge.specs.Verdict.{No, Unfinished, VerdictValue, Yes}
use Rattle.bgp_recording.specs.Captured.{records_of}
use Rattle.bgp_import.specs.declared.cut_short.CutShort.{CutShort}
use Rattle.bgp_import.specs.declared.refusal.Refusal.{Refusal}
use Rattle.bgp_html.specs.Taking.{HasNoEnd}
use Rattle.bgp_check.specs.Answered.{AnswerValue, JudgedAs, Unjudged}
use Rattle.bgp_check.specs.declared.peer_as.PeerAs.{PeerAs}
use Rattle.bgp_check_text.specs.Quiet.{is_left_out}
use Rattle.bgp_check_text.specs.Tally.{last_text}
use Rattle.bgp_check_text.specs.Text.{no_line, unfinished_line, yes_line}
use Rattle.bgp_check_text.specs.declared.options.Asked.{Asked}
use Rattle.bgp_check_text.specs.declared.quiet.Printing.{Printing}
use Rattle.bgp_check_text.specs.declared.tally.Tally.{Tally}
use Rattle.bgp_check_tool.specs.Blocks.{AllRefused, Block, BothEnds, OneEnd, Refused}
use Rattle.bgp_check_tool.specs.Checking.{blocks_text, cut_note, file_text, nothing_text}
use Rattle.bgp_check_tool.specs.Marks.{mark_by, marks_of}
use Rattle.bgp_check_tool.specs.Text.{deed_by, name_of}
use Rattle.bgp_check_tool.specs.Told.{EndTold, IsTold}
use Rattle.bgp_check_tool.specs.declared.marks.BothMarks.{BothMarks}
use Rattle.bgp_check_tool.specs.declared.marks.EndMark.{EndMark}
use Rattle.bgp_check_tool.specs.declared.options.CheckOptions.{CheckOptions}
use Rattle.bgp_visible_laws.specs.Laws.{HasOctets}
use Rattle.bgp_answer_laws.specs.Answers.{Answer, Says, answers_of, possible_lines}

-- ---- the answer on an end

-- the line of its verdict, and the lines of its reason that say what could have come, or had to; a
-- yes has no reason
abbrev pub answer_by : EndTold → PeerAs → VerdictValue → Answer
answer_by told peer (Yes ends) = record {
  line = yes_line (name_of told) peer told.reached ends;
  possible = [];
}
answer_by told peer (No count) = record {
  line = no_line told.place (name_of told) (deed_by told.deed told.other);
  possible = possible_lines told.reason;
}
answer_by told peer Unfinished = record {
  line = unfinished_line told.place (name_of told);
  possible = possible_lines told.reason;
}

-- its mark and its answer, if it is judged
abbrev pub judged_pair : EndTold → AnswerValue → List (EndMark × Answer)
judged_pair told (Unjudged why) = []
judged_pair told (JudgedAs number peer under verdict) =
    (mark_by verdict told, answer_by told peer verdict) ∷ []

-- and isn't left out
abbrev pub end_pairs : Printing → EndTold → List (EndMark × Answer)
end_pairs printing told =
    if is_left_out printing.quiet told.answer then [] else judged_pair told told.answer

-- of both ends of a connection
abbrev pub block_pairs : Printing → Block → List (EndMark × Answer)
block_pairs printing (BothEnds session opening outline first second opener other) =
    end_pairs printing opener ++ end_pairs printing other
block_pairs printing (OneEnd session opening outline first second) = []
block_pairs printing (Refused session opening refusal) = []
block_pairs printing (AllRefused addresses refusal) = []

abbrev pub pairs_of : Printing → List (ℕ × Block) → List (EndMark × Answer)
pairs_of printing blocks = flat_map (λ (b : ℕ × Block). block_pairs printing b.1) blocks

-- ---- the marks, one after another

abbrev pub mark_if : Option EndMark → List EndMark
mark_if None = []
mark_if (Some mark) = mark ∷ []

abbrev pub marks_in : List BothMarks → List EndMark
marks_in marks =
    flat_map (λ (both : BothMarks). mark_if both.opener ++ mark_if both.other) marks

-- ---- what an end's lines are made of

-- What was done at a no has no line feed, and the lines of the reason begin no answer.
pub record HasLines (told : EndTold) : Type 0 where
  pub deed : HasNoEnd told.deed
  pub other : IfSome told.other HasNoEnd
  pub reason : Says told.reason (possible_lines told.reason)

abbrev pub HaveLines : Block → Type 0
HaveLines (BothEnds session opening outline first second opener other) =
    HasLines opener × HasLines other
HaveLines (OneEnd session opening outline first second) = Unit {0}
HaveLines (Refused session opening refusal) = Unit {0}
HaveLines (AllRefused addresses refusal) = Unit {0}

-- So it is of each end that is told, if what its records hold are octets.
abbrev pub ToldEndsHaveLines : Type 0
ToldEndsHaveLines =
    (options : CheckOptions) (asked : Asked) (end : Endpoint) (session : Session)
    (connection : Connection) (told : EndTold)
    → (is : IsTold options asked end session connection told)
    → All HasOctets (records_of is.entries) → HasLines told

-- ---- what is printed

-- of a recording, of which these blocks are told, and this of the whole file
abbrev pub printed_text : CheckOptions → List (ℕ × Block) → Option Refusal → Option Refusal
    → Option CutShort → Tally → List ℕ
printed_text options blocks stopped lacking cut_short tally =
    blocks_text options.printing blocks
    ++ (file_text stopped ++ (file_text lacking ++ (cut_note options.printing.quiet cut_short
    ++ (nothing_text options.port tally ++ last_text options.printing.quiet tally))))

-- A text has the answers of these marks, each its own and in their order, and no other.
pub record AreAnswered (printing : Printing) (blocks : List (ℕ × Block)) (text : List ℕ) : Type 0
  where
    pub marks : marks_in (marks_of printing blocks)
        ≡ map (λ (pair : EndMark × Answer). pair.0) (pairs_of printing blocks)
    pub answers : answers_of text
        ≡ map (λ (pair : EndMark × Answer). pair.1) (pairs_of printing blocks)

abbrev pub EachMarkHasItsAnswer : Type 0
EachMarkHasItsAnswer =
    (options : CheckOptions) (blocks : List (ℕ × Block)) (stopped lacking : Option Refusal)
    (cut_short : Option CutShort) (tally : Tally)
    → AllByRecursion (λ (b : ℕ × Block). HaveLines b.1) blocks
    → AreAnswered options.printing blocks
    (printed_text options blocks stopped lacking cut_short tally)
