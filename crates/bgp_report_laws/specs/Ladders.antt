-- The ladders of a report on a pcap file: each has the lines of its own end's reason.
use Rattle.std.specs.Prelude.{◌≡◌, ◌⊎◌, ◌++◌, ℕ, Bool, false, true, List, [], ◌∷◌, Option}
use Rattle.std.specs.List.{AllByRecursion, list_any}
use Rattle.packets.specs.Packet.{Recorded}
use Rattle.streams.specs.declared.connection.Connection.{Connection}
use Rattle.streams.specs.declared.connection.Opening.{Opening}
use Rattle.streams.specs.declared.passed.Side.{Side}
use Rattle.bgp_prefix.specs.declared.session.Session.{Session}
use Rattle.bgp_import.specs.ListText.{other_side}
use Rattle.bgp_import.specs.declared.cut_short.CutShort.{CutShort}
use Rattle.bgp_import.specs.declared.refusal.Refusal.{Refusal}
use Rattle.bgp_html.specs.Pieces.{Piece}
use Rattle.bgp_verdict_lines.specs.declared.form.VerdictForm.TheVariants.{Text}
use Rattle.bgp_check_text.specs.declared.quiet.Printing.{Printing}
use Rattle.bgp_check_tool.specs.Blocks.{AllRefused, Block, BothEnds, OneEnd, Refused}
use Rattle.bgp_check_tool.specs.Marks.{end_mark, marks_of}
use Rattle.bgp_check_tool.specs.Told.{EndTold}
use Rattle.bgp_check_tool.specs.declared.marks.BothMarks.{BothMarks}
use Rattle.bgp_check_tool.specs.declared.marks.EndMark.{EndMark}
use Rattle.bgp_check_tool.specs.declared.nothing.NothingJudged.{NothingJudged}
use Rattle.bgp_check_tool.specs.declared.options.CheckOptions.{CheckOptions}
use Rattle.bgp_answer_laws.specs.Answers.{Answer}
use Rattle.bgp_answer_laws.specs.Ends.{HaveLines, end_pairs}
use Rattle.bgp_report.specs.Ladders.{IsHeard, IsLadder, lacking_pieces, missing_pieces}
use Rattle.bgp_report.specs.Ladders.{opener_is_open, other_is_open, refused_line, section_pieces}
use Rattle.bgp_report.specs.Ladders.{some_judged}
use Rattle.bgp_report.specs.Report.{ChecksWithLadders}

-- These are the lines of an answer that say what could have come, or had to; or it is said that
-- memory was refused for them.
abbrev pub IsOwn : Answer → List ℕ → Type 0
IsOwn answer possible = (possible ≡ answer.possible) ⊎ (possible ≡ refused_line)

-- what a report has of a connection of whose ends this is told
abbrev pub marks_by : Printing → Session → Opening → EndTold → EndTold → BothMarks
marks_by printing session opening opener other = record {
  session = session;
  opening = opening;
  opener = end_mark printing opener;
  other = end_mark printing other;
}

module _ (port within : ℕ) (packets : List Recorded) where
  -- the ladder of one of them, with this mark and this answer
  abbrev pub IsOwnLadder : BothMarks → Side → Bool → EndMark → Answer → List Piece → Type 0
  IsOwnLadder both side is_open mark answer pieces =
      ((connection : Connection) × (possible : List ℕ)
      × IsHeard port packets both.session both.opening.number connection
      × IsOwn answer possible
      × IsLadder within connection both.session both.opening side is_open mark possible pieces)
      ⊎ (pieces ≡ lacking_pieces)

  -- if it has one
  abbrev pub IsOfPair : BothMarks → Side → Bool → List (EndMark × Answer) → List Piece → Type 0
  IsOfPair both side is_open [] pieces = pieces ≡ []
  IsOfPair both side is_open (pair ∷ pairs) pieces =
      IsOwnLadder both side is_open pair.0 pair.1 pieces

  -- of both ends
  abbrev pub AreOwn : Printing → Session → Opening → EndTold → EndTold → List Piece → Type 0
  AreOwn printing session opening opener other pieces =
      (one two : List Piece)
      × IsOfPair (marks_by printing session opening opener other) opening.opened_by
      (opener_is_open (marks_by printing session opening opener other))
      (end_pairs printing opener) one
      × IsOfPair (marks_by printing session opening opener other)
      (other_side opening.opened_by)
      (other_is_open (marks_by printing session opening opener other))
      (end_pairs printing other) two
      × (pieces ≡ one ++ two)

  abbrev pub AreOfBlock : Printing → Block → List Piece → Type 0
  AreOfBlock printing (BothEnds session opening outline first second opener other) pieces =
      AreOwn printing session opening opener other pieces
  AreOfBlock printing (OneEnd session opening outline first second) pieces = pieces ≡ []
  AreOfBlock printing (Refused session opening refusal) pieces = pieces ≡ []
  AreOfBlock printing (AllRefused addresses refusal) pieces = pieces ≡ []

  abbrev pub AreOwnLadders : Printing → List (ℕ × Block) → List Piece → Type 0
  AreOwnLadders printing [] pieces = pieces ≡ []
  AreOwnLadders printing (block ∷ blocks) pieces =
      (one rest : List Piece) × AreOfBlock printing block.1 one
      × AreOwnLadders printing blocks rest × (pieces ≡ one ++ rest)

  -- after the text: those of all ends that are judged; nothing if there are none; or that memory
  -- was refused
  abbrev pub AreOwnBehind : Printing → List (ℕ × Block) → List Piece → Type 0
  AreOwnBehind printing blocks behind =
      ((list_any some_judged (marks_of printing blocks) ≡ false) × (behind ≡ []))
      ⊎ (behind ≡ missing_pieces)
      ⊎ ((list_any some_judged (marks_of printing blocks) ≡ true) × (ladders : List Piece)
      × AreOwnLadders printing blocks ladders × (behind ≡ section_pieces ladders))

-- What a report says could have come in a ladder are the lines of that end's own reason, in their
-- order.
abbrev pub LaddersHaveTheirOwn : {S : Type 0} → (S → S → List ℕ → Type 0) → (S → Bool)
    → (S → ℕ) → Type 0
LaddersHaveTheirOwn {S} gives has_ended source_failures =
    (options : CheckOptions) (source source' : S) (cut_short : Option CutShort)
    (firsts : List (Option Refusal)) (refusal : Option Refusal)
    (nothing : Option NothingJudged) (text : List ℕ) (code : ℕ) (behind : List Piece)
    → options.form ≡ Text
    → (is : ChecksWithLadders gives has_ended source_failures options source source' cut_short
    firsts refusal nothing text code behind)
    → AllByRecursion (λ (b : ℕ × Block). HaveLines b.1) is.checks.blocks
    → AreOwnBehind options.port options.within is.checks.packets options.printing
    is.checks.blocks behind
