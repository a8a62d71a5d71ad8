-- What putting the lines of a session comes to.
use Rattle.std.specs.Prelude.{◌≡◌, ◌↔◌, ◌++◌, ◌||◌, ℕ, Bool, true, false, IsTrue, List, []}
use Rattle.std.specs.Prelude.{◌∷◌, Option, if◌then◌else◌, not}
use Rattle.bgp_prefix.specs.Shown.{ShownRecord}
use Rattle.mrt.specs.declared.fault.CaptureFault.{CaptureFault}
use Rattle.mrt.specs.declared.sink.Sink as sinks
use Rattle.mrt_sessions.specs.File.{Located}
use Rattle.mrt_sessions.specs.declared.addresses.Addresses.{Addresses}
use Rattle.bgp_check_lines.specs.Lines.{PutsLines}
use Rattle.bgp_check_lines.specs.declared.check_lines.CheckLines.{CheckLines}
use Rattle.bgp_check_lines.specs.Sessions.{fault_text, session_line}
use Rattle.bgp_check_lines.specs.Printing.{Printing}
use Rattle.bgp_check_lines.specs.DeclaredTally.{Tally}
use Rattle.bgp_check_capture_tool.specs.Counted.{with_ends, with_fault}
use Rattle.bgp_check_capture_tool.specs.Ends.{End, IsSessionTold, TellsRecords}
use Rattle.bgp_check_capture_tool.specs.Ends.{TellsStretches, addresses_of}
use Rattle.bgp_check_capture_tool.specs.Firsts.{with_first}
use Rattle.bgp_check_capture_tool.specs.Marks.{AddsMarks, ends_marks}
use Rattle.bgp_check_capture_tool.specs.StretchEnd.{View}
use Rattle.bgp_check_capture_tool.specs.Text.{ends_text, headed, session_text}
use Rattle.bgp_check_capture_tool.specs.declared.ends.Put.{Put}
use Rattle.bgp_check_capture_tool.specs.declared.marks.StretchMarks.{StretchMarks}
use Rattle.bgp_check_capture_tool.specs.declared.telling.Telling.{Telling}

-- there is some text
abbrev pub is_some_text : List ℕ → Bool
is_some_text [] = false
is_some_text (octet ∷ rest) = true

-- This text was put of a session, and before it the session's own line, unless that was put before,
-- or there is no text.
pub record Adds {Y T : Type 0} {sink : sinks.Ghosts T} (heading : List ℕ)
    (lines lines' : CheckLines Y T sink) (before after : Bool) (text : List ℕ) : Type 0 where
  pub wrote : PutsLines lines lines' (if before then text else headed heading text)
  pub is_headed : after ≡ before || is_some_text text

-- the own line of a session that is seen so
abbrev pub heading_of : View → List ℕ
heading_of view = session_line (addresses_of view.session) view.named

-- Ends of the session between these addresses, which has these records in the file, were put, and
-- are counted: such as are told. Its own line stands before them, unless what is well is left out
-- and they all are. What is known of them was added to the marks.
pub record Puts {Y T : Type 0} {sink : sinks.Ghosts T} (printing : Printing)
    (addresses : Addresses) (named : List Located) (lines lines' : CheckLines Y T sink)
    (tally : Tally) (put : Put) (marks marks' : StretchMarks Y) (AreTold : List End → Type 0)
    : Type 0 where
  pub ends : List End
  pub told : AreTold ends
  pub adds : Adds (session_line addresses named) lines lines' (not printing.quiet) put.is_headed
      (ends_text printing addresses.local ends)
  pub tallied : put.tally ≡ with_ends tally ends
  pub marked : AddsMarks marks marks' (ends_marks printing.quiet addresses named ends)

-- those of all of these records, or of all but a rest
abbrev pub StretchesUpTo : View → List ShownRecord → Bool → List End → Type 0
StretchesUpTo view records all ends =
    (rest : List ShownRecord) × (IsTrue all ↔ rest ≡ [])
    × TellsStretches view records rest ends

abbrev pub RecordsUpTo : View → List ShownRecord → Bool → List End → Type 0
RecordsUpTo view records all ends =
    (rest : List ShownRecord) × (IsTrue all ↔ rest ≡ [])
    × TellsRecords view records rest ends

-- A session was put, and is counted; its refusal is added to those that are the first of their
-- number, and what is known of its stretches to the marks.
pub record PutsSession {Y T : Type 0} {sink : sinks.Ghosts T} (telling : Telling)
    (addresses : Addresses) (named : List Located) (lines lines' : CheckLines Y T sink)
    (tally tally' : Tally) (firsts firsts' : List (Option CaptureFault))
    (marks marks' : StretchMarks Y) : Type 0 where
  pub ends : List End
  pub fault : Option CaptureFault
  pub told : IsSessionTold telling addresses named ends fault
  pub wrote : PutsLines lines lines'
      (session_text telling.printing.quiet (session_line addresses named)
      (ends_text telling.printing addresses.local ends ++ fault_text fault))
  pub tallied : tally' ≡ with_fault (with_ends tally ends) fault
  pub added : firsts' ≡ with_first firsts fault
  pub marked : AddsMarks marks marks' (ends_marks telling.printing.quiet addresses named ends)
