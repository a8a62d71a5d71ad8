-- Just one verdict holds of records, by its text and its exit status.
use Rattle.std.proofs.Common.{◌≡◌, ◌∙◌, ℕ, List, sym, ap, refl, inl, inr}
use Rattle.bgp_prefix.specs.Shown.{ShownRecord}
use Rattle.bgp_open.specs.declared.config.Config.{Config}
use Rattle.bgp_judge.specs.Verdict.{VerdictValue, Yes, No, Unfinished, HasVerdict, HasOneVerdict, NeverNone}
use Rattle.bgp_tool.specs.VerdictText.{yes_text, no_line, unfinished_line}
use Rattle.bgp_tool.specs.Judging.{SaysVerdict}

abbrev text_of : VerdictValue → List ℕ
text_of (Yes ends) = yes_text ends
text_of (No count) = no_line count
text_of Unfinished = unfinished_line

abbrev status_of : VerdictValue → ℕ
status_of (Yes ends) = 0
status_of (No count) = 1
status_of Unfinished = 2

module _ (config : Config) (records : List ShownRecord) where
  -- a verdict that is said holds, and its text and its status are its own
  value_said : (text : List ℕ) (status : ℕ) → SaysVerdict config records text status
      → (v : VerdictValue) × HasVerdict config records v × (text ≡ text_of v) × (status ≡ status_of v)
  value_said text status (inl says) = (Yes says.ends, (says.some, says.lists), says.prints, says.tells)
  value_said text status (inr (inl denies)) = (No denies.count, (denies.within, denies.before, denies.behind), denies.prints, denies.tells)
  value_said text status (inr (inr unfinished)) = (Unfinished, (unfinished.begins, unfinished.none), unfinished.prints, unfinished.tells)

  pub one_text : HasOneVerdict → (text other : List ℕ) (status code : ℕ) → SaysVerdict config records text status → SaysVerdict config records other code
      → (text ≡ other) × (status ≡ code)
  one_text law text other status code says also =
      let (v, holds, prints, tells) = value_said text status says in
      let (w, holds-also, prints-also, tells-also) = value_said other code also in
      let same = law config records v w holds holds-also in
      (prints ∙ ap text_of same ∙ sym prints-also, tells ∙ ap status_of same ∙ sym tells-also)

  said : ((text : List ℕ) (status : ℕ) → ¬ SaysVerdict config records text status) → (v : VerdictValue) → ¬ HasVerdict config records v
  said none (Yes ends) holds = none (yes_text ends) 0 (inl record { ends = ends; some = holds.0; lists = holds.1; prints = refl; tells = refl })
  said none (No count) holds =
      none (no_line count) 1 (inr (inl record { count = count; within = holds.0; before = holds.1; behind = holds.2; prints = refl; tells = refl }))
  said none Unfinished holds = none unfinished_line 2 (inr (inr record { begins = holds.0; none = holds.1; prints = refl; tells = refl }))

  pub some_text : NeverNone → ¬ ((text : List ℕ) (status : ℕ) → ¬ SaysVerdict config records text status)
  some_text law none = law config records (said none)
