-- How an UPDATE may be applied, by the outcomes that are allowed of it.
use Rattle.std.proofs.Common.{◌≡◌, ◌↔◌, ◌++◌, ◌∷◌, [], ℕ, Bool, false, codes, length, map, IsTrue, List, Option, None, Some, is_some, MatchOption, refl, sym, subst}
use Rattle.std.specs.Bool.{then_some}
use Rattle.bgp_open.specs.declared.families.Families.{Families}
use Rattle.bgp_open.specs.declared.link.Link.{Link}
use Rattle.bgp_open.specs.Families.{contains}
use Rattle.bgp_update.specs.declared.outcomes.Changes.{Changes}
use Rattle.bgp_update.specs.declared.outcomes.Outcomes.{Outcomes}
use Rattle.bgp_update.specs.Allowed.{Allows, changes_value}
use Rattle.bgp_update.specs.Changes.{RouteChanges}
use Rattle.bgp_update.specs.Disabled.{IsDisabled}
use Rattle.bgp_update.specs.Outcome.{Outcome, Applied, IsOutcome}
use Rattle.bgp_why_parts.specs.UpdatePart.{UpdatePart}
use Rattle.bgp_why_parts.specs.UpdateParts.{shown_part}
use Rattle.bgp_why_parts.specs.Withdrawal.{IsWithdrawal}
use Rattle.bgp_update.specs.declared.subcodes.Subcodes.{Subcodes}
use Rattle.bgp_why_parts.specs.Parts.{shown_update}
use Rattle.bgp_why.specs.declared.applying.Applying.{Applying}
use Rattle.bgp_why.specs.Applying.{IsApplying, MayBeApplied, outcomes_text, update_asks}

module _ {X : Type 0} (link : Link) (octets : List ℕ) (o : Outcomes X) (exact : (x : Outcome) → Allows o x ↔ IsOutcome link octets x)
    (as_withdrawal : Bool) (is : IsTrue as_withdrawal ↔ IsWithdrawal link octets) where
  abbrev pub applying : Applying
  applying = record { as_withdrawal = as_withdrawal; certain = o.certain; optional = o.optional }

  abbrev AllowedBy : RouteChanges → Families → Option (Changes X) → Type 0
  AllowedBy changes disabled some =
      MatchOption some ⊥ (λ c. (changes ≡ changes_value c)
      × IsDisabled (λ f. IsTrue (contains o.certain f)) (λ f. IsTrue (contains o.optional f)) disabled)

  by_changes : (some : Option (Changes X)) → o.changes ≡ some
      → MatchOption (then_some (is_some some) applying) ((disabled : Families) → ¬ MayBeApplied link octets disabled) (IsApplying link octets)
  by_changes None e = λ disabled may. subst (AllowedBy may.0 disabled) e ((exact (Applied may.0 disabled)).1 may.1)
  by_changes (Some c) e = record {
    disabled = λ disabled. (
      λ may. (subst (AllowedBy may.0 disabled) e ((exact (Applied may.0 disabled)).1 may.1)).1,
      λ are. (changes_value c, (exact (Applied (changes_value c) disabled)).0 (subst (AllowedBy (changes_value c) disabled) (sym e) (refl, are))),
    );
    withdrawal = is;
  }

  pub applied : MatchOption (then_some (is_some o.changes) applying) ((disabled : Families) → ¬ MayBeApplied link octets disabled)
      (IsApplying link octets)
  applied = by_changes o.changes refl

-- what an UPDATE asks for that isn't clean
pub asks_of_parts : (applied : Option Applying) (refused : Subcodes) (parts : List UpdatePart) → (length parts ≡ 0 → ⊥)
    → update_asks applied refused (map shown_part parts)
    ≡ outcomes_text applied refused ++ (codes " [RFC 7606]" ++ shown_update (codes "; faulty: ") false (map shown_part parts))
asks_of_parts applied refused [] some = absurd (some refl)
asks_of_parts applied refused (part ∷ parts) some = refl

pub asks_nothing : (applied : Option Applying) (refused : Subcodes) (parts : List UpdatePart) → length parts ≡ 0
    → update_asks applied refused (map shown_part parts) ≡ codes ": without fault"
asks_nothing applied refused [] none = refl
asks_nothing applied refused (part ∷ parts) none = absurd cc
