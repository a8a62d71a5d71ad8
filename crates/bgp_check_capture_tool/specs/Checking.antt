-- What checking a capture writes and answers.
use Rattle.std.specs.Prelude.{◌≡◌, ◌⊎◌, ◌+◌, ◌++◌, ℕ, Bool, true, false, List, [], ◌∷◌, map}
use Rattle.std.specs.Prelude.{Option, None, Some, length, if◌then◌else◌}
use Rattle.std.specs.List.{AllByRecursion, flat_map}
use Rattle.std.proofs.Common.{inl, inr}
use Rattle.mrt.specs.declared.fault.CaptureFault.{CaptureFault}
use Rattle.mrt.specs.declared.fault.FaultKind.{FaultKind}
use Rattle.mrt.specs.declared.sink.Sink as sinks
use Rattle.mrt_sessions.specs.File.{HasSuchRecords, Located, fault_by}
use Rattle.mrt_sessions.specs.Held.{IsHeld, failures_by}
use Rattle.mrt_sessions.specs.Sessions.{records_between, sessions_in}
use Rattle.mrt_sessions.specs.declared.addresses.Addresses.{Addresses}
use Rattle.mrt_sessions.specs.declared.holding.Ending.{Ending}
use Rattle.bgp_check_lines.specs.Lines.{PutsLines}
use Rattle.bgp_check_lines.specs.declared.check_lines.CheckLines.{CheckLines}
use Rattle.bgp_check_lines.specs.Printed.{IsWrittenIn}
use Rattle.bgp_check_lines.specs.Values.{no_record_line}
use Rattle.bgp_check_lines.specs.Capture.{no_memory}
use Rattle.bgp_check_lines.specs.Sessions.{fault_text, session_line}
use Rattle.bgp_check_lines.specs.Tally.{has_verdict, is_empty, is_incomplete, no_tally, status_of}
use Rattle.bgp_check_lines.specs.Tally.{last_text}
use Rattle.bgp_check_lines.specs.Printing.{Printing}
use Rattle.bgp_check_lines.specs.DeclaredTally.{Tally}
use Rattle.bgp_check_capture_tool.specs.Counted.{with_ends, with_fault}
use Rattle.bgp_check_capture_tool.specs.Ends.{End, IsSessionTold}
use Rattle.bgp_check_capture_tool.specs.Firsts.{firsts_after, with_first}
use Rattle.bgp_check_capture_tool.specs.Judging.{telling_where}
use Rattle.bgp_check_capture_tool.specs.Marks.{AddsMarks, MarkValue, ends_marks}
use Rattle.bgp_check_capture_tool.specs.Text.{ends_text, session_text}
use Rattle.bgp_check_capture_tool.specs.declared.marks.StretchMarks.{StretchMarks}
use Rattle.bgp_check_capture_tool.specs.declared.nothing.NothingJudged.{NothingJudged}
use Rattle.bgp_check_capture_tool.specs.declared.options.CaptureOptions.{CaptureOptions}
use Rattle.bgp_check_capture_tool.specs.declared.telling.Telling.{Telling}

-- ---- the blocks, one a session

-- what is printed of a session, and why not all of its records are read, if they aren't
pub record Block : Type 0 where
  pub addresses : Addresses
  pub ends : List End
  pub fault : Option CaptureFault

-- of the sessions of these records
abbrev pub IsBlock : Telling → List Located → Block → Type 0
IsBlock telling named block =
    IsSessionTold telling block.addresses (records_between block.addresses named) block.ends
    block.fault

abbrev pub block_text : Printing → List Located → Block → List ℕ
block_text printing named block =
    session_text printing.quiet
    (session_line block.addresses (records_between block.addresses named))
    (ends_text printing block.addresses.local block.ends ++ fault_text block.fault)

abbrev pub blocks_text : Printing → List Located → List Block → List ℕ
blocks_text printing named blocks = flat_map (block_text printing named) blocks

abbrev pub with_block : Tally → Block → Tally
with_block tally block = with_fault (with_ends tally block.ends) block.fault

abbrev pub tally_from : Tally → List Block → Tally
tally_from tally [] = tally
tally_from tally (block ∷ blocks) = tally_from (with_block tally block) blocks

-- why the sessions of these blocks aren't read to their ends, where they aren't
abbrev pub faults_in : List Block → List (Option CaptureFault)
faults_in blocks = map (λ (block : Block). block.fault) blocks

-- what is known of their stretches that are judged and not left out
abbrev pub block_marks : Printing → List Located → Block → List MarkValue
block_marks printing named block =
    ends_marks printing.quiet block.addresses (records_between block.addresses named) block.ends

abbrev pub marks_of : Printing → List Located → List Block → List MarkValue
marks_of printing named blocks = flat_map (block_marks printing named) blocks

-- Blocks of these sessions were put, and are counted; of their refusals the first of each number is
-- added to those that are.
pub record PutsBlocks {Y T : Type 0} {sink : sinks.Ghosts T} (telling : Telling)
    (named : List Located) (sessions : List Addresses) (lines lines' : CheckLines Y T sink)
    (tally tally' : Tally) (firsts firsts' : List (Option CaptureFault))
    (marks marks' : StretchMarks Y) : Type 0 where
  pub blocks : List Block
  pub are : map (λ b. b.addresses) blocks ≡ sessions
  pub told : AllByRecursion (IsBlock telling named) blocks
  pub wrote : PutsLines lines lines' (blocks_text telling.printing named blocks)
  pub tallied : tally' ≡ tally_from tally blocks
  pub added : firsts' ≡ firsts_after firsts (faults_in blocks)
  pub marked : AddsMarks marks marks' (marks_of telling.printing named blocks)

-- ---- the file

-- what else the blocks go by, of a file that isn't read on for this, if it isn't: whether no record
-- of it is too long for a session without extended messages
abbrev pub telling_of : CaptureOptions → Bool → Option CaptureFault → Telling
telling_of options plain fault = telling_where fault record {
  printing = options.printing;
  settings = options.settings;
  is_plain = plain;
}

-- A block is printed for each session whose records these octets have, in the order of their first
-- ones, and then why the file isn't read to its end, if it isn't.
pub record TellsAll (options : CaptureOptions) (octets : List ℕ) (ending : Ending) (text : List ℕ)
    (tally : Tally) (firsts : List (Option CaptureFault)) (fault : Option CaptureFault) : Type 0
  where
    pub named : List Located
    pub offset : ℕ
    pub refusal : Option FaultKind
    pub plain : Bool
    pub has : HasSuchRecords octets named offset refusal plain
    pub blocks : List Block
    pub are : map (λ b. b.addresses) blocks ≡ sessions_in named
    pub told : AllByRecursion (IsBlock (telling_of options plain fault) named) blocks
    pub is_text : text ≡ blocks_text options.printing named blocks
    pub is_tally : tally ≡ tally_from no_tally blocks
    pub are_firsts : firsts ≡ firsts_after [] (faults_in blocks)
    pub is_fault : fault ≡ fault_by ending refusal offset

-- So many sessions are printed; or none, and only that there was no memory for a list of the
-- records.
abbrev pub Tells : CaptureOptions → List ℕ → Ending → List ℕ → Tally → List (Option CaptureFault)
    → ℕ → Option CaptureFault → Type 0
Tells options octets ending text tally firsts count fault =
    ((all : TellsAll options octets ending text tally firsts fault)
    × (count ≡ length (sessions_in all.named)))
    ⊎ ((text ≡ []) × (tally ≡ no_tally) × (firsts ≡ []) × (count ≡ 0)
    × (fault ≡ Some no_memory))

-- what is known of the stretches of these sessions that are judged and not left out
abbrev pub told_marks : (options : CaptureOptions) {octets : List ℕ} {ending : Ending}
    {text : List ℕ} {tally : Tally} {firsts : List (Option CaptureFault)} {count : ℕ}
    {fault : Option CaptureFault} → Tells options octets ending text tally firsts count fault
    → List MarkValue
told_marks options (inl told) = marks_of options.printing told.0.named told.0.blocks
told_marks options (inr none) = []

pub record PutsFile {Y T : Type 0} {sink : sinks.Ghosts T} (options : CaptureOptions)
    (octets : List ℕ) (ending : Ending) (lines lines' : CheckLines Y T sink) (tally : Tally)
    (firsts : List (Option CaptureFault)) (count : ℕ) (fault : Option CaptureFault)
    (marks marks' : StretchMarks Y) : Type 0 where
  pub text : List ℕ
  pub wrote : PutsLines lines lines' text
  pub tells : Tells options octets ending text tally firsts count fault
  pub marked : AddsMarks marks marks' (told_marks options tells)

-- that there is no session, if nothing else is printed
abbrev pub nothing_text : Tally → List ℕ
nothing_text tally =
    if is_empty tally then no_record_line else []

-- that no end is judged is said if the file was read to its end, and whether more could be, if more
-- were recorded
abbrev pub nothing_where : Bool → Bool → Option CaptureFault → Option NothingJudged
nothing_where true incomplete fault = None
nothing_where false incomplete (Some fault) = None
nothing_where false incomplete None = Some (record { is_incomplete = incomplete })

abbrev pub nothing_by : Tally → Option CaptureFault → Option NothingJudged
nothing_by tally fault = nothing_where (has_verdict tally) (is_incomplete tally) fault

-- The sessions of these octets are printed, so many, and why the file isn't read to its end, if it
-- isn't; then that there is none, if so, and last how many ends there are of each verdict. All of
-- that was written, if the sink didn't fail. Of all refusals those are answered that are the first
-- of their number.
pub record ChecksHeld {T : Type 0} (takes : T → T → List ℕ → Type 0) (failures : T → ℕ)
    (options : CaptureOptions) (octets : List ℕ) (ending : Ending) (sink sink' : T) (status : ℕ)
    (firsts : List (Option CaptureFault)) (count : ℕ) (fault : Option CaptureFault)
    (nothing : Option NothingJudged) : Type 0
  where
    pub text : List ℕ
    pub of_sessions : Tally
    pub of_blocks : List (Option CaptureFault)
    pub tells : Tells options octets ending text of_sessions of_blocks count fault
    pub tally : Tally
    pub counts : tally ≡ with_fault of_sessions fault
    pub are_firsts : firsts ≡ with_first of_blocks fault
    pub is_nothing : nothing ≡ nothing_by tally fault
    pub written : IsWrittenIn options.form takes failures
        (text ++ (fault_text fault ++ (nothing_text tally
        ++ last_text options.printing.quiet tally)))
        (status_of tally) sink sink' status

-- And of these sessions it is known which records of each stretch were judged, and where a no
-- stands.
pub record ChecksMarked {T Y : Type 0} (takes : T → T → List ℕ → Type 0) (failures : T → ℕ)
    (options : CaptureOptions) (octets : List ℕ) (ending : Ending) (sink sink' : T) (status : ℕ)
    (firsts : List (Option CaptureFault)) (count : ℕ) (fault : Option CaptureFault)
    (nothing : Option NothingJudged) (marks marks' : StretchMarks Y) : Type 0 where
  pub checks : ChecksHeld takes failures options octets ending sink sink' status firsts count
      fault nothing
  pub marked : AddsMarks marks marks' (told_marks options checks.tells)

-- A source is held, and what it gave is checked.
pub record ChecksCapture {S T : Type 0} (gives : S → S → List ℕ → Type 0) (has_ended : S → Bool)
    (takes : T → T → List ℕ → Type 0) (source_failures : S → ℕ) (failures : T → ℕ)
    (options : CaptureOptions) (source source' : S) (sink sink' : T) (status : ℕ)
    (firsts : List (Option CaptureFault)) (count : ℕ) (fault : Option CaptureFault)
    (nothing : Option NothingJudged) : Type 0
  where
    pub octets : List ℕ
    pub ending : Ending
    pub held : IsHeld gives has_ended source source' octets ending
    pub counted : source_failures source' ≡ source_failures source + failures_by ending
    pub checks : ChecksHeld takes failures options octets ending sink sink' status firsts count
        fault nothing
