-- What a line is worth that tells how `bgp judge` gives a verdict.
use Rattle.std.proofs.Common.{◌≡◌, ◌∙◌, Bool, true, false, ℕ, zero, suc, List, Option, None, Some, length, refl, sym, ap, subst}
use Rattle.bgp_prefix.specs.Shown.{ShownRecord}
use Rattle.bgp_prefix.specs.declared.session.Session.{Session}
use Rattle.mrt_sessions.specs.File.{Located}
use Rattle.bgp_open.specs.declared.config.Config.{Config}
use Rattle.bgp_judge.specs.Verdict.{HasVerdict, VerdictValue}
use Rattle.bgp_check.specs.Answered.{AnswerValue, HasItsVerdict, IsAnswerTo, IsJudged, JudgedAs}
use Rattle.bgp_check.specs.declared.peer_as.PeerAs.{PeerAs}
use Rattle.bgp_check.specs.StretchTold.{IsStretchTold, ToldValue, answer_by, with_leaving}
use Rattle.bgp_check_lines.specs.Settings.{are_told}
use Rattle.bgp_check_lines.specs.OfCapture.{IsReadAlike, session_of}
use Rattle.bgp_check_lines.specs.JudgeOptions.{JudgeOptions}
use Rattle.bgp_check_capture_tool.specs.Judging.{AreOptionsFor, AreOptionsOf, AreOptionsTo}
use Rattle.bgp_check_capture_tool.specs.Stretches.{first_of}
use Rattle.bgp_check_capture_tool.specs.Repeated.{LineGivesTheVerdict}
use Rattle.bgp_check_capture_tool.specs.declared.telling.Telling.{Telling}
use Rattle.bgp_check_capture_tool.proofs.Verdicts.{found}

module _ (telling : Telling) (named : List Located) (told : ToldValue) (under : Config) (line : JudgeOptions) where
  record IsUnder (config : Config) : Type 0 where
    pub same : config ≡ under
    pub is_config : line.config ≡ config
    pub alike : IsReadAlike (session_of line) telling.is_plain named told.records

  -- where a line is told, it is of a configuration
  of_told : (is_told : Bool) → AreOptionsFor telling named told is_told under (Some line) → (config : Config) × IsUnder config
  of_told false none = let k : ⊥ = cc in absurd k
  of_told true (None, is, none) = let k : ⊥ = cc in absurd k
  of_told true (Some config, is, are) = (config, record { same = is.1; is_config = are.0.is_config; alike = are.1 })

  -- and it is of all of the session
  of_all : (before : ℕ) (leaving : Option ShownRecord) → AreOptionsOf telling named told before leaving (Some line)
      → AreOptionsTo telling named told told.answer (Some line) × (leaving ≡ None)
  of_all zero None are = (are, refl)
  of_all zero (Some leaving) none = let k : ⊥ = cc in absurd k
  of_all (suc before) leaving none = let k : ⊥ = cc in absurd k

-- of a stretch that nothing leaves the answer is that of its records
judged_all : (session : Session) (stretch : List ShownRecord) (all : ℕ) (leaving : Option ShownRecord) (told : ToldValue) (number : Option ℕ) (peer : PeerAs) (under : Config) (verdict : VerdictValue)
    → (is : IsStretchTold session stretch all leaving told) → leaving ≡ None → told.answer ≡ JudgedAs number peer under verdict → IsJudged session told.records number peer under verdict
judged_all session stretch all leaving told number peer under verdict is none judged =
    let records : told.records ≡ with_leaving is.left.records leaving = is.are_records in
    let answer : is.answer ≡ JudgedAs number peer under verdict = sym (is.is_answer ∙ ap (λ (l : Option ShownRecord). answer_by l is.answer) none) ∙ judged in
    subst (λ (rs : List ShownRecord). IsJudged session rs number peer under verdict) (sym records)
    (subst (λ (a : AnswerValue). IsAnswerTo session (with_leaving is.left.records leaving) a) answer is.answers)

pub gives_the_verdict : HasItsVerdict → LineGivesTheVerdict
gives_the_verdict law telling addresses named end number peer under verdict line told is there =
    let f = found telling addresses named end told in
    let its = f.view.session in
    let of_it = subst (λ (j : Option JudgeOptions). AreOptionsOf f.view.telling f.view.named end.told (length f.front) (first_of f.behind) j) there f.is.judges in
    let whole = of_all f.view.telling f.view.named end.told under line (length f.front) (first_of f.behind) of_it in
    let judged = judged_all its f.stretch (length f.stretch) (first_of f.behind) end.told number peer under verdict f.is.is_told whole.1 is in
    let for_it = subst (λ (a : AnswerValue). AreOptionsTo f.view.telling f.view.named end.told a (Some line)) is whole.0 in
    let (config, so) = of_told f.view.telling f.view.named end.told under line (are_told f.view.telling.settings) for_it in (
      subst (λ (plain : Bool). IsReadAlike (session_of line) plain named end.told.records) f.is_plain
          (subst (λ (ls : List Located). IsReadAlike (session_of line) f.view.telling.is_plain ls end.told.records) f.is_named so.alike),
      subst (λ (c : Config). HasVerdict c end.told.records verdict) (sym (so.is_config ∙ so.same)) (law its end.told.records number peer under verdict judged).0,
    )
