-- What the laws of lists in JSON say of their characters: no line has a control character but the
-- line feed at its end.
use Rattle.std.specs.Prelude.{◌++◌, ℕ, List, Option}
use Rattle.mrt.specs.declared.fault.CaptureFault.{CaptureFault}
use Rattle.mrt_sessions.specs.File.{Located}
use Rattle.mrt_sessions.specs.declared.addresses.Addresses.{Addresses}
use Rattle.mrt_sessions.specs.declared.holding.Ending.{Ending}
use Rattle.bgp_import.specs.declared.refusal.Refusal.{Refusal}
use Rattle.bgp_list.specs.Capture.{Lists}
use Rattle.bgp_list.specs.Forms.{fault_in, line_in, refused_in, session_in}
use Rattle.bgp_list.specs.Lines.{LineValue}
use Rattle.bgp_list.specs.declared.form.ListForm.TheVariants.{Json}
use Rattle.bgp_list_laws.specs.Laws.{IsListed, Listed, listed_in}
use Rattle.bgp_list_laws.specs.Ranges.{IsLine}
use Rattle.bgp_visible_laws.specs.Visible.{AreVisibleLines, IsVisibleLine}

-- ---- of a recording

-- a line
abbrev pub LinesAreVisible : Type 0
LinesAreVisible = (line : LineValue) → IsLine line → IsVisibleLine (line_in Json line)

-- why a recording can't be read on
abbrev pub RefusalsAreVisible : Type 0
RefusalsAreVisible = (refusal : Refusal) → IsVisibleLine (refused_in Json refusal)

-- all that is listed
abbrev pub ListsAreVisible : Type 0
ListsAreVisible = (listed : Listed) → IsListed listed → AreVisibleLines (listed_in Json listed)

-- ---- of a capture

-- a session
abbrev pub SessionsAreVisible : Type 0
SessionsAreVisible =
    (addresses : Addresses) (named : List Located) → IsVisibleLine (session_in Json addresses named)

-- all that is written of a file, whatever its octets are
abbrev pub CapturesAreVisible : Type 0
CapturesAreVisible =
    (octets text : List ℕ) (ending : Ending) (count : ℕ) (fault : Option CaptureFault)
    → Lists Json octets ending text count fault → AreVisibleLines (text ++ fault_in Json fault)
