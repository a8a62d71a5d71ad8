-- What is known of the ends whose answers are printed: where a no stands.
use Rattle.std.specs.Prelude.{◌≡◌, ◌++◌, ℕ, List, [], ◌∷◌, Option, None, Some, IsFalse}
use Rattle.std.specs.Prelude.{if◌then◌else◌}
use Rattle.std.specs.List.{flat_map}
use Rattle.bgp_judge.specs.Verdict.{No, Unfinished, VerdictValue, Yes}
use Rattle.bgp_check.specs.Answered.{AnswerValue, JudgedAs, Unjudged}
use Rattle.bgp_check_lines.specs.Quiet.{is_left_out}
use Rattle.bgp_check_lines.specs.Printing.{Printing}
use Rattle.bgp_check_tool.specs.declared.marks.BothMarks.{BothMarks}
use Rattle.bgp_check_tool.specs.declared.marks.EndMark.{EndMark}
use Rattle.bgp_check_tool.specs.declared.marks.Marks.{Marks}
use Rattle.bgp_check_tool.specs.declared.marks.NoAt.{NoAt}
use Rattle.bgp_check_tool.specs.declared.marks.NoAt.TheVariants as noes
use Rattle.bgp_check_tool.specs.declared.orders.NoOrder.{NoOrder}
use Rattle.bgp_check_tool.specs.Blocks.{AllRefused, Block, BothEnds, OneEnd, Refused}
use Rattle.bgp_check_tool.specs.Told.{EndTold}

-- where a no stands, of which this is the first sent message that no order explains, if one is known
abbrev pub no_at : VerdictValue → Option NoOrder → NoAt
no_at (Yes ends) found = noes.Nowhere
no_at (No count) None = noes.Record count
no_at (No count) (Some found) = noes.Message found.unexplained.before
no_at Unfinished found = noes.Nowhere

-- of an end of which this is told, with this verdict
abbrev pub mark_by : VerdictValue → EndTold → EndMark
mark_by verdict told = record {
  order = told.order;
  no = no_at verdict told.found;
  asked = told.asked_at;
  lacks_memory = told.lacks_memory;
  lacks_memory_later = told.lacks_memory_later;
}

-- if it is judged
abbrev pub mark_if : AnswerValue → EndTold → Option EndMark
mark_if (Unjudged why) told = None
mark_if (JudgedAs number peer under verdict) told = Some (mark_by verdict told)

-- and isn't left out
abbrev pub end_mark : Printing → EndTold → Option EndMark
end_mark printing told =
    if is_left_out printing.quiet told.answer then None else mark_if told.answer told

-- of both ends of a connection
abbrev pub block_marks : Printing → Block → List BothMarks
block_marks printing (BothEnds session opening outline first second opener other) =
    record {
      session = session;
      opening = opening;
      opener = end_mark printing opener;
      other = end_mark printing other;
    } ∷ []
block_marks printing (OneEnd session opening outline first second) = []
block_marks printing (Refused session opening refusal) = []
block_marks printing (AllRefused addresses refusal) = []

abbrev pub marks_of : Printing → List (ℕ × Block) → List BothMarks
marks_of printing blocks = flat_map (λ (b : ℕ × Block). block_marks printing b.1) blocks

-- these were added, if none is missing
abbrev pub AddsMarks : {Y : Type 0} → Marks Y → Marks Y → List BothMarks → Type 0
AddsMarks old new marks =
    IsFalse new.are_missing
    → IsFalse old.are_missing × (new.both.items ≡ old.both.items ++ marks)
