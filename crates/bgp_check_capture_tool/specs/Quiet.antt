-- What is left out of a capture's lines where only what isn't well is printed.
use Rattle.std.specs.Prelude.{◌≡◌, ◌++◌, ◌||◌, ℕ, Bool, true, false, not, List, [], ◌∷◌, Option}
use Rattle.std.specs.Prelude.{if◌then◌else◌, is_some, map}
use Rattle.std.specs.List.{flat_map, list_any}
use Rattle.mrt.specs.declared.fault.CaptureFault.{CaptureFault}
use Rattle.mrt_sessions.specs.File.{Located}
use Rattle.mrt_sessions.specs.declared.holding.Ending.{Ending}
use Rattle.bgp_check_lines.specs.Sessions.{fault_text}
use Rattle.bgp_check_lines.specs.Tally as tallies
use Rattle.bgp_check_lines.specs.Tally.{last_text, tally_line}
use Rattle.bgp_check_lines.specs.DeclaredTally.{Tally}
use Rattle.bgp_check_capture_tool.specs.Checking.{Block, TellsAll, nothing_text}
use Rattle.bgp_check_capture_tool.specs.Counted.{with_fault}
use Rattle.bgp_check_capture_tool.specs.Ends.{End}
use Rattle.bgp_check_capture_tool.specs.Headings.{heading}
use Rattle.bgp_check_capture_tool.specs.Text.{end_text, is_end_left_out}
use Rattle.bgp_check_capture_tool.specs.declared.options.CaptureOptions.{CaptureOptions}

-- the same options, but nothing is left out
abbrev pub aloud : CaptureOptions → CaptureOptions
aloud options = record options { printing = record options.printing { quiet = false } }

-- ---- a session

-- an end is a yes, or isn't judged
abbrev pub is_end_well : End → Bool
is_end_well end = is_end_left_out true end

-- of a session an end is a no or unfinished, or not all of its records are read
abbrev pub has_trouble : Block → Bool
has_trouble block = list_any (λ end. not (is_end_well end)) block.ends || is_some block.fault

-- The pieces of what is printed of a session, and whether each is kept: its own line, if anything
-- else is; the lines of an end, if that is a no or unfinished; and why its next record is refused.
abbrev pub pieces_of : Bool → List Located → Block → List (List ℕ × Bool)
pieces_of routes named block =
    (heading named block, has_trouble block)
    ∷ (map (λ end. (end_text routes block.addresses.local end, not (is_end_well end))) block.ends
    ++ ((fault_text block.fault, true) ∷ []))

-- ---- the file

-- what is printed of a file, of whose sessions this text is
abbrev pub printed : Bool → List ℕ → Option CaptureFault → Tally → List ℕ
printed quiet text fault tally =
    text ++ (fault_text fault ++ (nothing_text tally ++ last_text quiet tally))

-- The pieces of that: those of the sessions, why the file isn't read to its end, that there is no
-- session, and how many ends there are, which is kept if something else is to be said.
abbrev pub file_pieces : Bool → List Located → List Block → Option CaptureFault → Tally
    → List (List ℕ × Bool)
file_pieces routes named blocks fault tally =
    flat_map (pieces_of routes named) blocks
    ++ ((fault_text fault, true) ∷ (nothing_text tally, true)
    ∷ (tally_line tally, tallies.has_trouble tally) ∷ [])

-- all pieces, and those that are kept
abbrev pub whole_of : List (List ℕ × Bool) → List ℕ
whole_of pieces = flat_map (λ (piece : List ℕ × Bool). piece.0) pieces

abbrev pub kept_of : List (List ℕ × Bool) → List ℕ
kept_of pieces = flat_map (λ (piece : List ℕ × Bool). if piece.1 then piece.0 else []) pieces

-- ---- the law

-- Of the same file the same is told by the options that leave nothing out. All that is printed
-- then are some pieces, and what is printed by these options are those of them that are kept.
pub record KeepsTrouble (options : CaptureOptions) (octets : List ℕ) (ending : Ending)
    (text : List ℕ) (tally : Tally) (firsts : List (Option CaptureFault))
    (fault : Option CaptureFault) (named : List Located) (blocks : List Block) : Type 0 where
  pub whole : List ℕ
  pub tells : TellsAll (aloud options) octets ending whole tally firsts fault
  pub same_records : tells.named ≡ named
  pub same_blocks : tells.blocks ≡ blocks
  pub is_whole : printed false whole fault (with_fault tally fault)
      ≡ whole_of (file_pieces options.printing.routes named blocks fault (with_fault tally fault))
  pub is_part : printed true text fault (with_fault tally fault)
      ≡ kept_of (file_pieces options.printing.routes named blocks fault (with_fault tally fault))

abbrev pub QuietKeepsTrouble : Type 0
QuietKeepsTrouble =
    (options : CaptureOptions) (octets : List ℕ) (ending : Ending) (text : List ℕ) (tally : Tally)
    (firsts : List (Option CaptureFault)) (fault : Option CaptureFault)
    (all : TellsAll options octets ending text tally firsts fault)
    → options.printing.quiet ≡ true
    → KeepsTrouble options octets ending text tally firsts fault all.named all.blocks
