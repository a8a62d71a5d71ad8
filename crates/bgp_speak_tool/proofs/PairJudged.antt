-- The judging of both ends' captures, told by what the sink took.
use Rattle.std.proofs.Common.{◌≡◌, ◌∙◌, ◌⊎◌, ◌+◌, ◌≤◌, ℕ, Bool, List, IsTrue, IsFalse, inl, inr, arith, max, Result}
use Rattle.bgp_prefix.specs.Shown.{ShownRecord}
use Rattle.bgp_open.specs.declared.config.Config.{Config}
use Rattle.mrt.specs.declared.fault.CaptureFault.{CaptureFault}
use Rattle.mrt.specs.Progress.{failures_of}
use Rattle.bgp_judge.specs.declared.verdict.Verdict.{Verdict}
use Rattle.bgp_judge.specs.Judging.{Judges}
use Rattle.bgp_tool.specs.Answer.{answer_text, answer_status, IsWritten}
use Rattle.bgp_speak_tool.specs.Pairing.{JudgesPair, pair_text}
use Rattle.bgp_tool.proofs.CaptureJudged.{tells}

-- a status that is wanted, or that of a device
pub told_as : (failed : Bool) (status one wanted : ℕ) → (IsFalse failed × (status ≡ one)) ⊎ (IsTrue failed × (status ≡ 5)) → one ≡ wanted
    → (IsFalse failed × (status ≡ wanted)) ⊎ (IsTrue failed × (status ≡ 5))
told_as failed status one wanted (inl calm) is = inl (calm.0, calm.1 ∙ is)
told_as failed status one wanted (inr broken) is = inr broken

pub below : (failed : Bool) (status one wanted : ℕ) → (IsFalse failed × (status ≡ one)) ⊎ (IsTrue failed × (status ≡ 5)) → one ≡ wanted → wanted ≤ 5 → status ≤ 5
below failed status one wanted (inl calm) is few = let same = calm.1 in omega (arith, same, is, few)
below failed status one wanted (inr broken) is few = let same = broken.1 in omega (arith, same)

pub max_below : (m n : ℕ) → m ≤ 5 → n ≤ 5 → max m n ≤ 5
max_below m n first second = omega arith

module _ {L R W : Type 0} (left_gives : L → L → List ℕ → Type 0) (left_ended : L → Bool) (left_failures : L → ℕ) (left_config : Config) (left left' : L)
    (right_gives : R → R → List ℕ → Type 0) (right_ended : R → Bool) (right_failures : R → ℕ) (right_config : Config) (right right' : R)
    (may_lack : Config → List ShownRecord → ShownRecord → Type 0)
    (takes : W → W → List ℕ → Type 0) (failures : W → ℕ) (sink sink' : W) where
  pub judges_pair : {X : Type 0} (one other : Result (Verdict X) CaptureFault) (status : ℕ)
      → Judges left_gives left_ended left_config left left' may_lack one → left_failures left' ≡ left_failures left + failures_of one
      → Judges right_gives right_ended right_config right right' may_lack other → right_failures right' ≡ right_failures right + failures_of other
      → IsWritten takes failures (pair_text (answer_text one) (answer_text other)) (max (answer_status one) (answer_status other)) sink sink' status
      → JudgesPair left_gives left_ended left_failures left_config left left' right_gives right_ended right_failures right_config right right' may_lack takes failures
      sink sink' status
  judges_pair one other status judged counted judged' counted' wrote = record {
    left_text = answer_text one;
    left_code = answer_status one;
    right_text = answer_text other;
    right_code = answer_status other;
    left_answer = tells left_gives left_ended left_failures left_config left left' may_lack one judged counted;
    right_answer = tells right_gives right_ended right_failures right_config right right' may_lack other judged' counted';
    printed = wrote;
  }
