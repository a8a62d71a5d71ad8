-- Numbers that are read, of which those at and above a bound and some others are dropped.
use Rattle.std.proofs.Common.{◌≡◌, ◌∙◌, ℕ, ◌<◌, ◌≤◌, ◌^◌, arith, Option, Some, None, sym, subst}
use Rattle.std.specs.Prelude.{◌↔◌}
use Rattle.std.proofs.lemmas.Option.{none-some, same_Some}
use Rattle.clap.specs.Words.{Text}
use Rattle.bgp_words.specs.Values.{IsNumberText}

module _ (text : Text) (o : Option ℕ) (reads : (n : ℕ) → (o ≡ Some n) ↔ (IsNumberText text n × (n < 2 ^ 64)))
    (bound : ℕ) (low : bound ≤ 2 ^ 64) (Good : ℕ → Type 0) where
  found : (n : ℕ) → IsNumberText text n × (n < bound) × Good n → o ≡ Some n
  found n spells = let (number, under, _good) = spells in (reads n).1 (number, omega (arith, under, low))

  pub kept : (x : ℕ) → o ≡ Some x → x < bound → Good x → (n : ℕ) → (Some x ≡ Some n) ↔ (IsNumberText text n × (n < bound) × Good n)
  kept x is under good n = (
    λ same. let e = same_Some _ _ same in (((reads n).0 (is ∙ same)).0, subst (λ (k : ℕ). k < bound) e under, subst Good e good),
    λ spells. sym is ∙ found n spells,
  )

  pub dropped : (x : ℕ) → o ≡ Some x → (x < bound → Good x → ⊥) → (n : ℕ) → (None ≡ Some n) ↔ (IsNumberText text n × (n < bound) × Good n)
  dropped x is bad n = (
    λ same. absurd (none-some n same),
    λ spells. let (_number, under, good) = spells in
        let e : n ≡ x = sym (same_Some _ _ (sym is ∙ found n spells)) in
        absurd (bad (subst (λ (k : ℕ). k < bound) e under) (subst Good e good)),
  )

  pub missed : (r : Option ℕ) → r ≡ None → o ≡ None → (n : ℕ) → (r ≡ Some n) ↔ (IsNumberText text n × (n < bound) × Good n)
  missed r none lacks n = (
    λ same. absurd (none-some n (sym none ∙ same)),
    λ spells. absurd (none-some n (sym lacks ∙ found n spells)),
  )

-- where no others are dropped
pub below : (text : Text) (o : Option ℕ) (bound n : ℕ) → (o ≡ Some n) ↔ (IsNumberText text n × (n < bound) × Unit {0})
    → (o ≡ Some n) ↔ (IsNumberText text n × (n < bound))
below text o bound n both = (
  λ same. let (number, under, _good) = both.0 same in (number, under),
  λ spells. both.1 (spells.0, spells.1, tt),
)
