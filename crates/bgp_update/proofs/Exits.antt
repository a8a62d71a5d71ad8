-- What `read_update` answers at each of its exits is the set of all outcomes.
use Rattle.std.proofs.Common.{◌≡◌, ◌∙◌, ◌↔◌, ◌⊎◌, ◌++◌, ℕ, List, [], Bool, true, false, None, Some, IsTrue, MatchBool, refl, sym, subst, inl, inr}
use Rattle.std.proofs.lemmas.Bool.{cases_Bool}
use Rattle.bgp_open.specs.Family.{Family}
use Rattle.bgp_open.specs.declared.families.Families.{Families}
use Rattle.bgp_open.specs.declared.link.Link.{Link}
use Rattle.bgp_open.specs.Families.{contains}
use Rattle.bgp_attr.specs.Field.{Attribute}
use Rattle.bgp_attr.specs.Split.{attributes_of}
use Rattle.bgp_update.specs.declared.outcomes.Changes.{Changes}
use Rattle.bgp_update.specs.declared.outcomes.Outcomes.{Outcomes}
use Rattle.bgp_update.specs.declared.subcodes.Subcodes.{Subcodes}
use Rattle.bgp_update.specs.Allowed.{Allows, changes_value}
use Rattle.bgp_update.specs.Changes.{RouteChanges, AreChanges, withdrawals, announcements, destinations_among}
use Rattle.bgp_update.specs.Laws.{HasAnOutcome}
use Rattle.bgp_update.specs.WithdrawFaults.{HasWithdrawFault}
use Rattle.bgp_update.specs.Disabled.{IsCertain, IsOptional, IsDisabled}
use Rattle.bgp_update.specs.Found.{Found, found}
use Rattle.bgp_update.specs.Outcome.{Outcome, Applied, Reset, IsOutcome, IsOutcomeBy, IsOnlyReset}
use Rattle.bgp_update.specs.ResetFaults.{IsResetSubcode, IsMereSubcode, HasReset}
use Rattle.bgp_update.specs.Sections.{Sections, IsUpdate, IsMalformed}
use Rattle.bgp_update.specs.Subcodes.{HasSubcode}
use Rattle.bgp_update.proofs.OneOutcome.{under, same_changes}
use Rattle.bgp_update.proofs.OneSplit.{one_split}

-- the only outcome is a reset with one of these subcodes
abbrev pub IsReset : {X : Type 0} → Outcomes X → (ℕ → Type 0) → Type 0
IsReset o Names = (o.changes ≡ None) × ((n : ℕ) → HasSubcode o.reset n ↔ Names n)

none_allowed : {X : Type 0} (o : Outcomes X) (c : RouteChanges) (d : Families) → o.changes ≡ None → ¬ Allows o (Applied c d)
none_allowed o c d none allowed = rw none at allowed

pub malformed : {X : Type 0} (link : Link) (octets : List ℕ) (o : Outcomes X) → IsMalformed octets → IsReset o (λ n. n ≡ 1) → (x : Outcome) → Allows o x ↔ IsOutcome link octets x
malformed link octets o bad is (Applied c d) = (
  λ a. absurd (none_allowed o c d is.0 a),
  λ x. elim x [ inl m ↦ absurd m.1 | inr u ↦ absurd (bad u.0 u.1) ],
)
malformed link octets o bad is (Reset n) = (
  λ a. inl (bad, (is.1 n).0 a),
  λ x. elim x [ inl m ↦ (is.1 n).1 m.1 | inr u ↦ absurd (bad u.0 u.1) ],
)

module _ (link : Link) (octets : List ℕ) (s : Sections) (is : IsUpdate octets s) where
  x : Found
  x = found link s

  attributes : List Attribute
  attributes = attributes_of s.attributes

  abbrev IsBy : Outcome → Type 0
  IsBy o = IsOutcomeBy link (found link s) (attributes_of s.attributes) o

  by_split : (o : Outcome) → IsBy o ↔ IsOutcome link octets o
  by_split o = (λ h. inr (s, is, h), under link octets s o is)

  pub only_reset : {X : Type 0} (o : Outcomes X) → HasReset (found link s) → IsReset o (λ n. IsResetSubcode (found link s) n ⊎ IsMereSubcode (found link s) n)
      → (x : Outcome) → Allows o x ↔ IsOutcome link octets x
  only_reset o reset h (Applied c d) = (
    λ a. absurd (none_allowed o c d h.0 a),
    λ u. absurd (((by_split (Applied c d)).1 u).0 reset),
  )
  only_reset o reset h (Reset n) = (λ a. (by_split (Reset n)).0 ((h.1 n).0 a), λ u. (h.1 n).1 ((by_split (Reset n)).1 u))

  pub applied : {X : Type 0} (o : Outcomes X) (c : Changes X) → ¬ HasReset (found link s) → o.changes ≡ Some c
      → AreChanges (found link s) (withdrawals link (found link s)) (announcements link (found link s) (attributes_of s.attributes)) (changes_value c)
      → ((f : Family) → IsTrue (contains o.certain f) ↔ IsCertain (found link s) f) → ((f : Family) → IsTrue (contains o.optional f) ↔ (IsOptional (found link s) f × ¬ IsCertain (found link s) f))
      → ((n : ℕ) → HasSubcode o.reset n ↔ IsMereSubcode (found link s) n)
      → (x : Outcome) → Allows o x ↔ IsOutcome link octets x
  applied o c none some are certain optional mere (Applied d f) = (
    λ a.
        let b : (d ≡ changes_value c) × IsDisabled (λ f. IsTrue (contains o.certain f)) (λ f. IsTrue (contains o.optional f)) f = rw some at a in
        (by_split (Applied d f)).0 (none, subst (AreChanges (found link s) _ _) (sym b.0) are, disabled b.1),
    λ u.
        let b = (by_split (Applied d f)).1 u in
        rw some (same_changes (found link s) _ _ d (changes_value c) b.1 are, enabled b.2),
  )
    where
      unsure : (g : Family) → contains o.certain g ≡ false → ¬ IsTrue (contains o.certain g)
      unsure g off is = absurd (let e = sym off ∙ is in cc)

      disabled : IsDisabled (λ f. IsTrue (contains o.certain f)) (λ f. IsTrue (contains o.optional f)) f → IsDisabled (IsCertain (found link s)) (IsOptional (found link s)) f
      disabled h g = (λ is_certain. (h g).0 ((certain g).1 is_certain), λ on. elim ((h g).1 on) [ inl e ↦ inl ((certain g).0 e) | inr e ↦ inr ((optional g).0 e).0 ])

      enabled : IsDisabled (IsCertain (found link s)) (IsOptional (found link s)) f → IsDisabled (λ f. IsTrue (contains o.certain f)) (λ f. IsTrue (contains o.optional f)) f
      enabled h g = (λ is_certain. (h g).0 ((certain g).0 is_certain), λ on. elim ((h g).1 on) [ inl e ↦ inl ((certain g).1 e) | inr e ↦ elim (cases_Bool (contains o.certain g)) [ inl sure ↦ inl sure | inr off ↦ inr ((optional g).1 (e, λ is. unsure g off ((certain g).1 is))) ] ])
  applied o c none some are certain optional mere (Reset n) = (
    λ a. (by_split (Reset n)).0 (inr ((mere n).0 a)),
    λ u. elim ((by_split (Reset n)).1 u) [ inl r ↦ absurd (none (n, r)) | inr m ↦ (mere n).1 m ],
  )

  pub not_only : ¬ HasReset (found link s) → ¬ IsOnlyReset link octets
  not_only none (inl bad) = bad s is
  not_only none (inr r) = none (subst (λ (t : Sections). HasReset (found link t)) (one_split octets r.0 s r.1 is) r.2)

-- ---- what emptiness of the subcodes tells

pub has_reset : (x : Found) (resets : Subcodes) → ((n : ℕ) → HasSubcode resets n ↔ IsResetSubcode x n) → MatchBool false ((n : ℕ) → ¬ HasSubcode resets n) ((n : ℕ) × HasSubcode resets n) → HasReset x
has_reset x resets h e = (e.0, (h e.0).0 e.1)

pub no_reset : (x : Found) (resets : Subcodes) → ((n : ℕ) → HasSubcode resets n ↔ IsResetSubcode x n) → MatchBool true ((n : ℕ) → ¬ HasSubcode resets n) ((n : ℕ) × HasSubcode resets n) → ¬ HasReset x
no_reset x resets h e r = e r.0 ((h r.0).1 r.1)

pub both_sets : (x : Found) (resets mere all answered : Subcodes) → ((n : ℕ) → HasSubcode resets n ↔ IsResetSubcode x n) → ((n : ℕ) → HasSubcode mere n ↔ IsMereSubcode x n)
    → ((n : ℕ) → HasSubcode all n ↔ (HasSubcode resets n ⊎ HasSubcode mere n)) → answered ≡ all
    → (n : ℕ) → HasSubcode answered n ↔ (IsResetSubcode x n ⊎ IsMereSubcode x n)
both_sets x resets mere all answered r m u same n = (
  λ h. elim ((u n).0 (subst (λ (s : Subcodes). HasSubcode s n) same h)) [ inl h ↦ inl ((r n).0 h) | inr h ↦ inr ((m n).0 h) ],
  λ h. subst (λ (s : Subcodes). HasSubcode s n) (sym same) ((u n).1 (elim h [ inl h ↦ inl ((r n).1 h) | inr h ↦ inr ((m n).1 h) ])),
)

-- ---- some outcome is allowed

pub some_reset : (link : Link) (octets : List ℕ) (s : Sections) → IsUpdate octets s → HasReset (found link s) → HasAnOutcome link octets
some_reset link octets s is r = (Reset r.0, inr (s, is, inl r.1))

pub some_malformed : (link : Link) (octets : List ℕ) → IsMalformed octets → HasAnOutcome link octets
some_malformed link octets bad = (Reset 1, inl (bad, refl))

pub some_applied : (link : Link) (octets : List ℕ) (s : Sections) (faulty : Bool) (disabled : Families) → IsUpdate octets s → ¬ HasReset (found link s)
    → IsTrue faulty ↔ HasWithdrawFault (found link s) → ((f : Family) → IsTrue (contains disabled f) ↔ IsCertain (found link s) f) → HasAnOutcome link octets
some_applied link octets s true disabled is none fault certain = (
  Applied (record { remove = withdrawals link (found link s) ++ destinations_among (announcements link (found link s) (attributes_of s.attributes)); put = [] }) disabled,
  inr (s, is, (none, inl (fault.0 refl, refl), λ f. ((certain f).1, λ on. inl ((certain f).0 on)))),
)
some_applied link octets s false disabled is none fault certain = (
  Applied (record { remove = withdrawals link (found link s); put = announcements link (found link s) (attributes_of s.attributes) }) disabled,
  inr (s, is, (none, inr (λ f. unequal (fault.1 f), refl), λ f. ((certain f).1, λ on. inl ((certain f).0 on)))),
)
  where
    unequal : false ≡ true → ⊥
    unequal e = absurd cc
