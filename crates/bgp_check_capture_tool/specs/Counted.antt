-- How what is told of a session is counted.
use Rattle.std.specs.Prelude.{true, List, [], ◌∷◌, Option, None, Some}
use Rattle.mrt.specs.declared.fault.CaptureFault.{CaptureFault}
use Rattle.bgp_tool.specs.CaptureDecoding.{status_by}
use Rattle.bgp_check_lines.specs.Tally.{with_end, with_refusal, with_unjudged}
use Rattle.bgp_check_lines.specs.DeclaredTally.{Tally}
use Rattle.bgp_check_capture_tool.specs.Ends.{End, Silent, Staying, Stretch}

abbrev pub with_one : Tally → End → Tally
with_one tally (Silent count) = with_unjudged tally true
with_one tally (Staying count) = with_unjudged tally true
with_one tally (Stretch end) = with_end tally end.told.answer

abbrev pub with_ends : Tally → List End → Tally
with_ends tally [] = tally
with_ends tally (end ∷ ends) = with_ends (with_one tally end) ends

-- a refusal, if there is one
abbrev pub with_fault : Tally → Option CaptureFault → Tally
with_fault tally None = tally
with_fault tally (Some fault) = with_refusal tally (status_by fault.kind)
