-- What makes an UPDATE clean, word by word.
use Rattle.std.proofs.Common.{◌≡◌, ◌≢◌, ◌↔◌, ◌≤◌, ◌⊎◌, ◌&&◌, ℕ, List, length, Bool, true, false, not, IsTrue, MatchBool, refl, ap, sym, subst, ◌∙◌, inl, inr}
use Rattle.bgp_open.specs.Family.{Family}
use Rattle.bgp_open.specs.Family.TheVariants.{V4, V6}
use Rattle.bgp_open.specs.declared.link.Link.{Link}
use Rattle.bgp_update.specs.declared.mp.MpState.{MpState}
use Rattle.bgp_update.specs.declared.mp.MpState.TheVariants as states
use Rattle.bgp_update.specs.Clean.{IsClean, IsCleanBy, IsAppliedAlone, most_octets}
use Rattle.bgp_update.specs.Disabled.{IsCertain, IsOptional}
use Rattle.bgp_update.specs.ResetFaults.{IsResetSubcode, IsMereSubcode}
use Rattle.bgp_update.specs.WithdrawFaults.{HasWithdrawFault}
use Rattle.bgp_update.specs.Found.{Found, found_by_form}
use Rattle.bgp_update.specs.Mp.{Unused}
use Rattle.bgp_update.specs.MpShown.{state_of}
use Rattle.bgp_update.specs.Sections.{Sections, IsUpdate}
use Rattle.bgp_update.proofs.OneSplit.{one_split}

never : false ≡ true → ⊥
never e = absurd cc

pub unused : (state : MpState) (family : Family) → state ≡ states.Unused family
    → ((¬ IsTrue true) → (f : Family) → state_of state ≢ Unused f) × (((f : Family) → state_of state ≢ Unused f) → ¬ IsTrue true)
unused state family e = (λ h. absurd (h refl), λ apart _. apart family (ap state_of e))

pub no_family : (P : Family → Type 0) (a b : Bool) → IsTrue a ↔ P V4 → IsTrue b ↔ P V6
    → (IsTrue (not a && not b) → (f : Family) → ¬ P f) × (((f : Family) → ¬ P f) → IsTrue (not a && not b))
no_family P true b h k = (λ e. absurd (never e), λ none. absurd (none V4 (h.0 refl)))
no_family P false true h k = (λ e. absurd (never e), λ none. absurd (none V6 (k.0 refl)))
no_family P false false h k = (λ e f. at f, λ none. refl)
  where
    at : (f : Family) → ¬ P f
    at V4 p = never (h.1 p)
    at V6 p = never (k.1 p)

pub no_subcode : (R M U S T : ℕ → Type 0) (empty : Bool) → ((n : ℕ) → S n ↔ R n) → ((n : ℕ) → T n ↔ M n) → ((n : ℕ) → U n ↔ (S n ⊎ T n))
    → MatchBool empty ((n : ℕ) → ¬ U n) ((n : ℕ) × U n)
    → (IsTrue empty → (n : ℕ) → ¬ (R n ⊎ M n)) × (((n : ℕ) → ¬ (R n ⊎ M n)) → IsTrue empty)
no_subcode R M U S T true r m u e = (λ _ n x. e n ((u n).1 (elim x [ inl x ↦ inl ((r n).1 x) | inr x ↦ inr ((m n).1 x) ])), λ _. refl)
no_subcode R M U S T false r m u e = (
  λ h. absurd (never h),
  λ none. absurd (none e.0 (elim ((u e.0).0 e.1) [ inl x ↦ inl ((r e.0).0 x) | inr x ↦ inr ((m e.0).0 x) ])),
)

pub clean_by : (link : Link) (octets : List ℕ) → length octets ≤ most_octets link → (s : Sections) (x : Found) (clean : Bool) → IsUpdate octets s → x ≡ found_by_form link link.sent s → IsTrue clean ↔ IsCleanBy link x
    → IsTrue clean ↔ IsClean link octets
clean_by link octets fits s x clean is e h = (
  λ yes. (fits, s, is, subst (IsCleanBy link) e (h.0 yes)),
  λ c. h.1 (subst (IsCleanBy link) (ap (found_by_form link link.sent) (one_split octets c.1 s c.2 is) ∙ sym e) c.3),
)

pub alone : (x : Found) (fault : Bool) → ((n : ℕ) → ¬ (IsResetSubcode x n ⊎ IsMereSubcode x n)) → ((f : Family) → ¬ (IsCertain x f ⊎ IsOptional x f)) → IsTrue fault ↔ HasWithdrawFault x
    → (IsTrue (not fault) → IsAppliedAlone x) × (IsAppliedAlone x → IsTrue (not fault))
alone x true r d h = (λ e. absurd (never e), λ a. absurd (a.no_fault (h.0 refl)))
alone x false r d h = (λ _. record { no_reset = r; enabled = d; no_fault = λ w. never (h.1 w) }, λ _. refl)
