-- How what is told of a recording is counted.
use Rattle.std.specs.Prelude.{ℕ, false}
use Rattle.bgp_import.specs.Refusals.{cause_of}
use Rattle.bgp_import.specs.declared.refusal.Cause.{Cause}
use Rattle.bgp_import.specs.declared.refusal.Cause.TheVariants as causes
use Rattle.bgp_import.specs.declared.refusal.Refusal.{Refusal}
use Rattle.bgp_check_lines.specs.Tally.{with_end, with_refusal, with_unjudged}
use Rattle.bgp_check_lines.specs.DeclaredTally.{Tally}
use Rattle.bgp_check_tool.specs.Blocks.{Block, BothEnds, OneEnd, Refused, AllRefused}

-- the exit status of a refusal by itself
abbrev pub cause_status : Cause → ℕ
cause_status causes.Recording = 3
cause_status causes.Memory = 4
cause_status causes.Device = 5

abbrev pub with_refused : Tally → Refusal → Tally
with_refused tally refusal = with_refusal tally (cause_status (cause_of refusal))

abbrev pub with_block : Tally → Block → Tally
with_block tally (BothEnds session opening outline first second opener other) =
    with_end (with_end tally opener.answer) other.answer
with_block tally (OneEnd session opening outline first second) =
    with_unjudged (with_unjudged tally false) false
with_block tally (Refused session opening refusal) = with_refused tally refusal
with_block tally (AllRefused addresses refusal) = with_refused tally refusal
