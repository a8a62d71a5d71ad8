-- The ladders of a report on an MRT file: each has the lines of its own stretch's reason.
use Rattle.std.specs.Prelude.{◌≡◌, ◌⊎◌, ◌<◌, ◌+◌, ◌++◌, ℕ, Bool, List, [], ◌∷◌, Option}
use Rattle.std.specs.Prelude.{length, map}
use Rattle.std.specs.List.{AllByRecursion}
use Rattle.std.proofs.Common.{inl, inr}
use Rattle.mrt.specs.declared.fault.CaptureFault.{CaptureFault}
use Rattle.mrt_sessions.specs.declared.holding.Ending.{Ending}
use Rattle.bgp_html.specs.Pieces.{Piece}
use Rattle.bgp_verdict_lines.specs.declared.form.VerdictForm.TheVariants.{Text}
use Rattle.bgp_check_text.specs.declared.tally.Tally.{Tally}
use Rattle.bgp_check_capture_tool.specs.Checking.{Tells}
use Rattle.bgp_check_capture_tool.specs.Marks.{MarkValue}
use Rattle.bgp_check_capture_tool.specs.declared.nothing.NothingJudged.{NothingJudged}
use Rattle.bgp_check_capture_tool.specs.declared.options.CaptureOptions.{CaptureOptions}
use Rattle.bgp_answer_laws.specs.Answers.{Answer}
use Rattle.bgp_answer_laws.specs.Stretches.{HaveLines, pairs_of}
use Rattle.bgp_report.specs.Report.{ChecksWithStretches}
use Rattle.bgp_report.specs.Stretches.{IsStretch, lost_pieces, none_pieces, stretch_is_open}
use Rattle.bgp_report.specs.Stretches.{stretches_pieces}
use Rattle.bgp_report_laws.specs.Ladders.{IsOwn}

-- the ladder of a stretch with this mark and this answer
abbrev pub IsOwnStretch : Bool → MarkValue → Answer → List Piece → Type 0
IsOwnStretch is_open mark answer pieces =
    ((possible : List ℕ) × IsOwn answer possible × IsStretch is_open mark possible pieces)
    ⊎ (pieces ≡ lost_pieces)

abbrev pub marks_in : List (MarkValue × Answer) → List MarkValue
marks_in pairs = map (λ (pair : MarkValue × Answer). pair.0) pairs

-- of a file with all these marks those of some, from the one with this number on
abbrev pub AreOwnStretches : List MarkValue → ℕ → List (MarkValue × Answer) → List Piece → Type 0
AreOwnStretches all number [] pieces = pieces ≡ []
AreOwnStretches all number (pair ∷ pairs) pieces =
    (one rest : List Piece)
    × IsOwnStretch (stretch_is_open all number pair.0) pair.0 pair.1 one
    × AreOwnStretches all (number + 1) pairs rest × (pieces ≡ one ++ rest)

-- after the text: those of all stretches that are judged; nothing if there are none; or that memory
-- was refused
abbrev pub AreOwnBehind : List (MarkValue × Answer) → List Piece → Type 0
AreOwnBehind pairs behind =
    ((marks_in pairs ≡ []) × (behind ≡ []))
    ⊎ (behind ≡ none_pieces)
    ⊎ ((0 < length (marks_in pairs)) × (ladders : List Piece)
    × AreOwnStretches (marks_in pairs) 0 pairs ladders × (behind ≡ stretches_pieces ladders))

-- the pairs of what is told of a capture
abbrev pub told_pairs : (options : CaptureOptions) {octets : List ℕ} {ending : Ending}
    {text : List ℕ} {tally : Tally} {firsts : List (Option CaptureFault)} {count : ℕ}
    {fault : Option CaptureFault} → Tells options octets ending text tally firsts count fault
    → List (MarkValue × Answer)
told_pairs options (inl told) = pairs_of options.printing told.0.named told.0.blocks
told_pairs options (inr none) = []

-- each stretch that is told has such lines
abbrev pub ToldHaveLines : (options : CaptureOptions) {octets : List ℕ} {ending : Ending}
    {text : List ℕ} {tally : Tally} {firsts : List (Option CaptureFault)} {count : ℕ}
    {fault : Option CaptureFault} → Tells options octets ending text tally firsts count fault
    → Type 0
ToldHaveLines options (inl told) = AllByRecursion HaveLines told.0.blocks
ToldHaveLines options (inr none) = Unit {0}

-- What a report says could have come in a ladder are the lines of that stretch's own reason, in
-- their order.
abbrev pub LaddersHaveTheirOwn : {S : Type 0} → (S → S → List ℕ → Type 0) → (S → Bool)
    → (S → ℕ) → Type 0
LaddersHaveTheirOwn {S} gives has_ended source_failures =
    (options : CaptureOptions) (source source' : S) (firsts : List (Option CaptureFault))
    (count : ℕ) (fault : Option CaptureFault) (nothing : Option NothingJudged) (text : List ℕ)
    (code : ℕ) (behind : List Piece)
    → options.form ≡ Text
    → (is : ChecksWithStretches gives has_ended source_failures options source source' firsts count
    fault nothing text code behind)
    → ToldHaveLines options is.checks.checks.tells
    → AreOwnBehind (told_pairs options is.checks.checks.tells) behind
