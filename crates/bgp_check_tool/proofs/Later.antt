-- What is answered where each message may be handled as late as it can be said.
use Rattle.std.proofs.Common.{◌≡◌, Bool, false, ℕ, Option, inl, refl, subst, sym}
use Rattle.bgp_prefix.specs.declared.session.Session.{Session}
use Rattle.streams.specs.declared.connection.Connection.{Connection}
use Rattle.bgp_recording.specs.declared.framing.Framings.{Framings}
use Rattle.bgp_check.specs.Answered.{AnswerValue}
use Rattle.bgp_judge.specs.Verdict.{No, Unfinished, VerdictValue}
use Rattle.bgp_check_tool.specs.Late.{IsAnsweredOver, IsLateFor, IsLateOf, IsLeftAsMade}
use Rattle.bgp_check_tool.specs.declared.late.Late.{Late}

module _ (session : Session) (connection : Connection) (framings : Framings) (of_made : AnswerValue) where
  pub over_so : (lacks lacks' : Bool) (answer answer' : AnswerValue) → lacks ≡ lacks' → answer ≡ answer' → IsAnsweredOver session connection framings of_made lacks' answer'
      → IsAnsweredOver session connection framings of_made lacks answer
  over_so lacks lacks' answer answer' same_lacks same_answer is =
      subst (λ (b : Bool). IsAnsweredOver session connection framings of_made b answer) (sym same_lacks)
      (subst (λ (a : AnswerValue). IsAnsweredOver session connection framings of_made lacks' a) (sym same_answer) is)

  -- that on the made order is left for a cause
  pub left_so : (lacks : Bool) (answer : AnswerValue) → lacks ≡ false → answer ≡ of_made → IsLeftAsMade session connection framings of_made
      → IsAnsweredOver session connection framings of_made lacks answer
  left_so lacks answer memory same left = over_so lacks false answer of_made memory same (inl (refl, left))

-- ---- a verdict that is judged again

module _ (session : Session) (connection : Connection) (verdict : VerdictValue) (late : Option Late) (lacks : Bool) where
  pub again_no : (count : ℕ) → verdict ≡ No count → IsLateOf session connection verdict late lacks → IsLateFor session connection verdict late lacks
  again_no count same is =
      subst (λ (v : VerdictValue). IsLateFor session connection v late lacks) (sym same) (subst (λ (v : VerdictValue). IsLateOf session connection v late lacks) same is)

  pub again_unfinished : verdict ≡ Unfinished → IsLateOf session connection verdict late lacks → IsLateFor session connection verdict late lacks
  again_unfinished same is =
      subst (λ (v : VerdictValue). IsLateFor session connection v late lacks) (sym same) (subst (λ (v : VerdictValue). IsLateOf session connection v late lacks) same is)
