-- The verdict on a stretch that is left is the one over all configurations.
use Rattle.std.proofs.Common.{◌≡◌, ◌∙◌, ◌+◌, ◌++◌, ℕ, List, [], ◌∷◌, Option, Some, refl, sym, subst, inl}
use Rattle.bgp_prefix.specs.Shown.{ShownRecord}
use Rattle.bgp_open.specs.declared.config.Config.{Config}
use Rattle.bgp_machine.specs.Run.{End, end_of}
use Rattle.bgp_machine.specs.State.{fresh_state}
use Rattle.bgp_judge.specs.Verdict.{No, Unfinished, VerdictValue, Yes}
use Rattle.bgp_check.specs.Answered.{AnswerValue, IsAnswerTo, IsJudged, JudgedAs, Unjudged}
use Rattle.bgp_check.specs.Checked.{IsYes}
use Rattle.bgp_check.specs.Configurations.{IsOf}
use Rattle.bgp_check.specs.Cut.{LeftEndsInIdle}
use Rattle.bgp_check.specs.Over.{HasVerdictOver}
use Rattle.bgp_check.specs.Stretch.{LeavesIdle}
use Rattle.bgp_check.specs.WidestMade.{IsFaultless}
use Rattle.bgp_check.specs.declared.peer_as.PeerAs.{PeerAs}
use Rattle.bgp_parts.proofs.OneOwnOpen.{one_own}
use Rattle.bgp_check.proofs.Over.{complete_begins, front_begins}
use Rattle.bgp_check.specs.Left.{HasVerdictWhereLeft, LeavesSo, LeftIsYesWhereARunLeaves, LeftVerdictIsOverAll}
use Rattle.bgp_check.specs.StretchTold.{left_answer, left_verdict}
use Rattle.bgp_check.proofs.Stretched.{judged_are_stretches}

-- ---- the answer before it is changed for the leaving

record Before (answer : AnswerValue) (number : Option ℕ) (peer : PeerAs) (under : Config) (verdict : VerdictValue) : Type 0 where
  pub judged : VerdictValue
  pub answered : answer ≡ JudgedAs number peer under judged
  pub is : verdict ≡ left_verdict judged

before_by : (answer : AnswerValue) (number : Option ℕ) (peer : PeerAs) (under : Config) (verdict : VerdictValue) → left_answer answer ≡ JudgedAs number peer under verdict
    → Before answer number peer under verdict
before_by (Unjudged why) number peer under verdict e = absurd cc
before_by (JudgedAs n p c v) number peer under verdict e = record { judged = v; answered = cc; is = cc }

-- ---- the verdict

module _ (law : LeftEndsInIdle) (Is : Config → Type 0) (records : List ShownRecord) (leaving : ShownRecord) (leaves : LeavesIdle leaving) where
  abbrev whole : List ShownRecord
  whole = records ++ leaving ∷ []

  -- where some configuration leaves the records so, they end in Idle
  in_idle : (config : Config) → LeavesSo Is records leaving config → HasVerdictWhereLeft Is records leaving (Yes (end_of fresh_state ∷ []))
  in_idle config so = (
    λ none. absurd cc,
    record {
      each = ((config, so, (law config records leaving (end_of fresh_state) leaves so.1).1 refl), tt);
      every = λ other e its c. inl (sym ((law other records leaving e leaves its.1).0 c));
      none_twice = (λ h. h, tt);
      in_order = (tt, tt);
    },
  )

  by_ends : (ends : List End) → HasVerdictOver Is whole (Yes ends) → HasVerdictWhereLeft Is records leaving (Yes (end_of fresh_state ∷ []))
  by_ends [] v = absurd (v.0 refl)
  by_ends (e ∷ ends) v =
      let first = v.1.each.0 in
      in_idle first.0 (first.1, complete_begins first.0 whole e first.2)

  left_over : (judged : VerdictValue) → HasVerdictOver Is whole judged → HasVerdictWhereLeft Is records leaving (left_verdict judged)
  left_over (Yes ends) v = by_ends ends v
  left_over (No count) v = v
  left_over Unfinished v = in_idle v.0.0 (v.0.1, v.0.2)

  yes_where : (verdict : VerdictValue) → HasVerdictWhereLeft Is records leaving verdict
      → (IsYes verdict → (config : Config) × LeavesSo Is records leaving config) × (((config : Config) × LeavesSo Is records leaving config) → IsYes verdict)
  yes_where (Yes []) v = absurd (v.0 refl)
  yes_where (Yes (e ∷ ends)) v = (λ yes. (v.1.each.0.0, v.1.each.0.1), λ some. tt)
  yes_where (No count) v = (λ yes. absurd yes, λ some. absurd (v.2 some.0 some.1.0 (front_begins some.0 whole (count + 1) some.1.1)))
  yes_where Unfinished v = absurd v

pub over_all : LeftEndsInIdle → LeftVerdictIsOverAll
over_all law session stretch all leaving told number peer under verdict own is whole leaves answered has faultless =
    let records = is.left.records in
    let all_records = records ++ leaving ∷ [] in
    let before = before_by is.answer number peer under verdict (sym is.is_answer ∙ answered) in
    let answer : IsJudged session all_records number peer under before.judged = subst (λ (a : AnswerValue). IsAnswerTo session all_records a) before.answered is.answers in
    let is_stretch = judged_are_stretches session stretch all (Some leaving) told is whole leaves in
    let same = one_own all_records own answer.own has answer.has_own in
    let holds = subst (λ (o : Option (List ℕ)). HasVerdictOver (IsOf session o) all_records before.judged) (sym same)
    (answer.over is_stretch (subst (λ (o : Option (List ℕ)). IsFaultless o) same faultless)) in
    subst (λ (v : VerdictValue). HasVerdictWhereLeft (IsOf session own) records leaving v) (sym before.is) (left_over law (IsOf session own) records leaving leaves before.judged holds)

pub yes_where_left : LeftEndsInIdle → LeftIsYesWhereARunLeaves
yes_where_left law session stretch all leaving told number peer under verdict own is whole leaves answered has faultless =
    yes_where law (IsOf session own) is.left.records leaving leaves verdict
    (over_all law session stretch all leaving told number peer under verdict own is whole leaves answered has faultless)
