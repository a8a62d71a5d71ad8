-- A row that the core picks may be taken.
use Rattle.std.proofs.Common.{◌≡◌, ℕ, Bool, true, false, List, [], IsTrue, MatchOption, Option, None, Some, refl, sym, subst, inl}
use Rattle.bgp_open.specs.declared.families.Families.{Families}
use Rattle.bgp_open.specs.declared.link.Link.{Link}
use Rattle.bgp_open.specs.Families.{contains}
use Rattle.bgp_update.specs.declared.outcomes.Changes.{Changes}
use Rattle.bgp_update.specs.declared.outcomes.Outcomes.{Outcomes}
use Rattle.bgp_update.specs.Changes.{RouteChanges}
use Rattle.bgp_update.specs.Allowed.{changes_value}
use Rattle.bgp_update.specs.Disabled.{IsDisabled}
use Rattle.bgp_update.specs.Laws.{HasAnOutcome}
use Rattle.bgp_update.specs.Outcome.{Applied, Reset, IsOutcome, Outcome}
use Rattle.bgp_machine.specs.declared.hearing.Heard.{Heard}
use Rattle.bgp_machine.specs.declared.rows.ReceivedRow.{ReceivedRow}
use Rattle.bgp_machine.specs.declared.rows.ReceivedRow.TheVariants.{NamesFault, Applies}
use Rattle.bgp_machine.specs.declared.rows.HiddenRow.{HiddenRow}
use Rattle.bgp_machine.specs.declared.rows.HiddenRow.TheVariants.{ConnectionFails}
use Rattle.bgp_machine.specs.declared.state.Head.{Head}
use Rattle.bgp_machine.specs.declared.state.Head.TheVariants.{Connect}
use Rattle.bgp_open.specs.declared.config.Config.{Config}
use Rattle.bgp_machine.specs.declared.state.HoldTimer.{HoldTimer}
use Rattle.bgp_machine.specs.declared.want.Want.{Want}
use Rattle.bgp_machine.specs.Listed.{ShowsSome, changes_of}
use Rattle.bgp_machine.specs.Rows.{AreOutcomes, HeardShown, HiddenShown, NoStep, UpdateShown}
use Rattle.bgp_machine.specs.State.{Turn, fsm_of}
use Rattle.bgp_machine.specs.Step.{ReceivedIn, HiddenIn, changed, hidden_change, failed}
use Rattle.bgp_machine.proofs.UpdateRows.{allows, no_apply}
use Rattle.bgp_speaker.specs.Picks.{CanTake, IsLeastApply, IsNeverApplied}

-- a row about a message that is heard so, by what it sends and how it ends
pub may : (head : Head) (t : ℕ) (octets : List ℕ) (heard is : Heard) (row : ReceivedRow) (wants : List Want) (turn : Turn)
    → heard ≡ is → ReceivedIn head t octets is row wants turn → NoStep (HeardShown head t octets heard row) → ⊥
may head t octets heard is row wants turn e r none =
    (subst (λ (h : Heard). NoStep (HeardShown head t octets h row)) e none) wants (changed (fsm_of head) (fsm_of turn.head)) turn (r, refl)

-- a row by itself, by what it sends and how it ends
pub may_own : (config : Config) (head is : Head) (t : ℕ) (row : HiddenRow) (wants : List Want) (turn : Turn)
    → head ≡ is → HiddenIn is config t row wants turn → ShowsSome wants (hidden_change row (fsm_of is) (fsm_of turn.head))
    → NoStep (HiddenShown config head t row) → ⊥
may_own config head is t row wants turn e r shows none =
    (subst (λ (h : Head). NoStep (HiddenShown config h t row)) e none) wants (hidden_change row (fsm_of is) (fsm_of turn.head)) turn (r, refl, shows)

-- in Connect a connection fails into Active or Idle, and both show
pub may_fail : (config : Config) (delay : Bool) (t : ℕ) → NoStep (HiddenShown config (Connect delay) t ConnectionFails) → ⊥
may_fail config true t = may_own config (Connect true) (Connect true) t ConnectionFails [] (failed true) refl (refl, refl) tt
may_fail config false t = may_own config (Connect false) (Connect false) t ConnectionFails [] (failed false) refl (refl, refl) tt

pub can_at : (config : Config) (head is : Head) (t : ℕ) (picked : Option HiddenRow) → head ≡ is → CanTake config is t picked → CanTake config head t picked
can_at config head is t picked e can = subst (λ (h : Head). CanTake config h t picked) (sym e) can

-- ---- an UPDATE

certain_alone : (certain optional : Families) → IsDisabled (λ f. IsTrue (contains certain f)) (λ f. IsTrue (contains optional f)) certain
certain_alone certain optional family = (λ h. h, λ h. inl h)

pub may_be_applied : {X : Type 0} (own : Link) (octets : List ℕ) (o : Outcomes X) → AreOutcomes own octets o → (o.changes ≡ None → ⊥)
    → IsOutcome own octets (Applied (changes_of o.changes) o.certain)
may_be_applied own octets o are some =
    (are (Applied (changes_of o.changes) o.certain)).0 (allows o.changes o.certain o.optional o.certain some (certain_alone o.certain o.optional))

disabled_in : {X : Type 0} (o : Option (Changes X)) (changes : RouteChanges) (certain optional f : Families)
    → MatchOption o ⊥ (λ c. (changes ≡ changes_value c) × IsDisabled (λ g. IsTrue (contains certain g)) (λ g. IsTrue (contains optional g)) f)
    → IsDisabled (λ g. IsTrue (contains certain g)) (λ g. IsTrue (contains optional g)) f
disabled_in None changes certain optional f h = absurd h
disabled_in (Some c) changes certain optional f h = h.1

pub least_apply : {X : Type 0} (own : Link) (octets : List ℕ) (o : Outcomes X) → AreOutcomes own octets o → (o.changes ≡ None → ⊥)
    → IsLeastApply own octets o.certain
least_apply own octets o are some = record {
  allowed = (changes_of o.changes, may_be_applied own octets o are some);
  least = λ changes others is family h. (disabled_in o.changes changes o.certain o.optional others ((are (Applied changes others)).1 is) family).0 h;
}

pub applies : {X : Type 0} (own : Link) (timer : HoldTimer) (t : ℕ) (octets : List ℕ) (o : Outcomes X) → AreOutcomes own octets o → (o.changes ≡ None → ⊥)
    → NoStep (UpdateShown own timer t octets (Applies o.certain)) → ⊥
applies own timer t octets o are some none =
    none [] _ _ ((changes_of o.changes, may_be_applied own octets o are some, refl, refl), refl)

pub never_applied : {X : Type 0} (own : Link) (octets : List ℕ) (o : Outcomes X) → AreOutcomes own octets o → o.changes ≡ None → IsNeverApplied own octets
never_applied own octets o are none changes families is = no_apply own octets o changes families are none is

a_subcode : (own : Link) (octets : List ℕ) (x : Outcome) → IsOutcome own octets x → IsNeverApplied own octets → (n : ℕ) × IsOutcome own octets (Reset n)
a_subcode own octets (Applied changes families) is never = absurd (never changes families is)
a_subcode own octets (Reset n) is never = (n, is)

pub names_fault : {X : Type 0} (own : Link) (timer : HoldTimer) (t : ℕ) (octets : List ℕ) (o : Outcomes X) → AreOutcomes own octets o → o.changes ≡ None → HasAnOutcome own octets
    → NoStep (UpdateShown own timer t octets NamesFault) → ⊥
names_fault own timer t octets o are none some no_step =
    no_step _ _ _ (
      (
        o.reset,
        record {
          each = λ n. are (Reset n);
          one = a_subcode own octets some.0 some.1 (never_applied own octets o are none);
        },
        refl,
        refl,
      ),
      refl,
    )
