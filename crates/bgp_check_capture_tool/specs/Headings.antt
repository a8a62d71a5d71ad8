-- What is told of a capture, without the lines of its ends: its list.
use Rattle.std.specs.Prelude.{◌≡◌, ◌++◌, ℕ, false, List, Option}
use Rattle.std.specs.List.{flat_map}
use Rattle.mrt.specs.declared.fault.CaptureFault.{CaptureFault}
use Rattle.mrt_sessions.specs.File.{Located}
use Rattle.mrt_sessions.specs.Sessions.{records_between}
use Rattle.mrt_sessions.specs.declared.holding.Ending.{Ending}
use Rattle.bgp_check_lines.specs.Capture.{ListsAll}
use Rattle.bgp_check_lines.specs.Sessions.{fault_text, session_line}
use Rattle.bgp_check_lines.specs.Printing.{Printing}
use Rattle.bgp_check_lines.specs.DeclaredTally.{Tally}
use Rattle.bgp_check_capture_tool.specs.Checking.{Block, TellsAll}
use Rattle.bgp_check_capture_tool.specs.Text.{ends_text}
use Rattle.bgp_check_capture_tool.specs.declared.options.CaptureOptions.{CaptureOptions}

-- ---- a session's first line; those of its ends, and why not all of its records are read

abbrev pub heading : List Located → Block → List ℕ
heading named block = session_line block.addresses (records_between block.addresses named)

abbrev pub end_lines : Printing → Block → List ℕ
end_lines printing block =
    ends_text printing block.addresses.local block.ends ++ fault_text block.fault

-- ---- the law

-- Where nothing is left out, what is told of all sessions of a file are these lines, session by
-- session. And the first lines
-- are all that a list of it tells, with why the file isn't read to its end.
pub record TellsTheList (options : CaptureOptions) (octets : List ℕ) (ending : Ending)
    (text : List ℕ) (fault : Option CaptureFault) (named : List Located) (blocks : List Block)
    : Type 0 where
  pub is_text : text
      ≡ flat_map (λ block. heading named block ++ end_lines options.printing block) blocks
  pub lists : ListsAll octets ending (flat_map (heading named) blocks) fault

abbrev pub ListIsWithoutEnds : Type 0
ListIsWithoutEnds =
    (options : CaptureOptions) (octets : List ℕ) (ending : Ending) (text : List ℕ) (tally : Tally)
    (firsts : List (Option CaptureFault)) (fault : Option CaptureFault)
    (all : TellsAll options octets ending text tally firsts fault)
    → options.printing.quiet ≡ false
    → TellsTheList options octets ending text fault all.named all.blocks
