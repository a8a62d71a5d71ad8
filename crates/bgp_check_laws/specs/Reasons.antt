-- What the laws say of a reason: its lines are such as `check` puts.
use Rattle.std.specs.Prelude.{List, All, map}
use Rattle.bgp_json_verdicts.specs.Lines.{ReasonValue, Reasons}
use Rattle.bgp_check_lines.specs.Values.{Explains}
use Rattle.bgp_verdict_laws.specs.Numbers.{FitsReason}
use Rattle.bgp_why_laws.specs.Visible as reasons
use Rattle.bgp_check_laws.specs.Visible.{IsPutLine}

-- a line of a reason whose numbers have 64 bits
pub record IsPutReason (reason : ReasonValue) : Type 0 where
  pub put : reasons.IsPutLine (Reasons reason)
  pub fits : FitsReason reason

abbrev pub ReasonsAreLines : Type 0
ReasonsAreLines =
    (lines : List ReasonValue) → All IsPutReason lines → IsPutLine (Explains (map Reasons lines))
