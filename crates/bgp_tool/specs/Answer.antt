-- The text and the exit status of what is answered of a capture: a verdict, or why it is refused.
use Rattle.std.specs.Prelude.{◌≡◌, ◌+◌, ◌++◌, ◌⊎◌, ℕ, List, [], Result, Ok, Err}
use Rattle.mrt.specs.declared.fault.CaptureFault.{CaptureFault}
use Rattle.bgp_judge.specs.declared.verdict.Verdict.{Verdict}
use Rattle.bgp_judge.specs.declared.verdict.Verdict.TheVariants.{Yes, No, Unfinished}
use Rattle.bgp_text.specs.Capture.{refused_line}
use Rattle.bgp_tool.specs.VerdictText.{verdict_text}
use Rattle.bgp_tool.specs.CaptureDecoding.{status_by}

abbrev pub verdict_status : {X : Type 0} → Verdict X → ℕ
verdict_status (Yes ends) = 0
verdict_status (No count) = 1
verdict_status Unfinished = 2

abbrev pub answer_text : {X : Type 0} → Result (Verdict X) CaptureFault → List ℕ
answer_text (Ok verdict) = verdict_text verdict
answer_text (Err fault) = refused_line fault.kind fault.offset

abbrev pub answer_status : {X : Type 0} → Result (Verdict X) CaptureFault → ℕ
answer_status (Ok verdict) = verdict_status verdict
answer_status (Err fault) = status_by fault.kind

-- A text was written to a sink: all of it, if the sink didn't fail, and then the status is the
-- text's; and else a beginning, and the status is 5.
pub record IsWritten {W : Type 0} (takes : W → W → List ℕ → Type 0) (failures : W → ℕ)
    (text : List ℕ) (code : ℕ) (sink sink' : W) (status : ℕ) : Type 0 where
  pub written : List ℕ
  pub left : List ℕ
  pub took : takes sink sink' written
  pub begun : text ≡ written ++ left
  pub all : ((failures sink' ≡ failures sink) × (left ≡ []) × (status ≡ code))
      ⊎ ((failures sink' ≡ failures sink + 1) × (status ≡ 5))
