-- What is put of a verdict is what is told.
use Rattle.std.proofs.Common.{◌≡◌, ◌∙◌, ◌⊎◌, ◌++◌, ℕ, List, [], Option, None, Some, Bool, IsTrue, IsFalse, refl, ap, inl, inr, append-nil}
use Rattle.bgp_judge.specs.Verdict.{VerdictValue, verdict_value}
use Rattle.bgp_judge.specs.declared.verdict.Verdict.{Verdict}
use Rattle.bgp_judge.specs.declared.verdict.Verdict.TheVariants.{Yes, No, Unfinished}
use Rattle.bgp_tool.specs.VerdictText.{verdict_text}
use Rattle.bgp_orders.specs.declared.connection.Unexplained.{Unexplained}
use Rattle.bgp_recording_tool.specs.Told.{no_order_line, told_of, told_text, value_text}

pub text_same : {X : Type 0} (verdict : Verdict X) → verdict_text verdict ≡ value_text (verdict_value verdict)
text_same (Yes ends) = refl
text_same (No count) = refl
text_same Unfinished = refl

-- what stands after it is joined to what is told alone
pub more_text : (verdict : VerdictValue) (unexplained : Option Unexplained) (more : List ℕ) → told_text (told_of verdict unexplained []) ++ more ≡ told_text (told_of verdict unexplained more)
more_text verdict None more = ap (λ (t : List ℕ). t ++ more) (append-nil (value_text verdict))
more_text verdict (Some u) more = ap (λ (t : List ℕ). t ++ more) (append-nil (no_order_line u.packet))

-- the status is the text's, or that of a device
pub told_as : (failed : Bool) (status one wanted : ℕ) → (IsFalse failed × (status ≡ one)) ⊎ (IsTrue failed × (status ≡ 5)) → one ≡ wanted
    → (IsFalse failed × (status ≡ wanted)) ⊎ (IsTrue failed × (status ≡ 5))
told_as failed status one wanted (inl calm) is = inl (calm.0, calm.1 ∙ is)
told_as failed status one wanted (inr broken) is = inr broken
