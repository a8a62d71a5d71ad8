-- Halving a range of seconds.
use Rattle.std.proofs.Common.{◌≡◌, ◌≤◌, ◌<◌, ◌+◌, inl, inr, ℕ, Bool, true, false, IsTrue, List, [], ◌↔◌, sym, subst, ◌∙◌, arith}
use Rattle.std.proofs.lemmas.Bool.{cases_lt}
use Rattle.bgp_prefix.specs.Shown.{ShownRecord, Sent}
use Rattle.bgp_open.specs.declared.config.Config.{Config}
use Rattle.bgp_open.specs.Written.{notification_octets}
use Rattle.bgp_reason.specs.Asked.{ExpiresFromThenOn, MayExpire}
use Rattle.bgp_reason.specs.Following.{MayFollow}

-- what is asked is whether Hold Timer Expired may follow
pub asked_so : (config : Config) (records : List ShownRecord) (t : ℕ) (octets : List ℕ) (answer : Bool) → octets ≡ notification_octets 4 0 []
    → IsTrue answer ↔ MayFollow config records (Sent t octets) → IsTrue answer ↔ MayExpire config records t
asked_so config records t octets answer e both = subst (λ (v : List ℕ). IsTrue answer ↔ MayFollow config records (Sent t v)) e both

-- where it may not at a second, it may at none before the next
pub not_below : ExpiresFromThenOn → (config : Config) (records : List ShownRecord) (t : ℕ) → (MayExpire config records t → ⊥)
    → (second : ℕ) → second < t + 1 → MayExpire config records second → ⊥
not_below law config records t never second below may = never (law config records second t (omega arith) may)

-- where no second below may, each that may is at the bound or later
pub not_before : (config : Config) (records : List ShownRecord) (low high : ℕ) → high ≤ low
    → ((second : ℕ) → second < low → MayExpire config records second → ⊥) → (second : ℕ) → MayExpire config records second → high ≤ second
not_before config records low high order none second may = elim (cases_lt second low) [
  | inl below ↦ absurd (none second below may)
  | inr above ↦ omega arith
]

-- an answer is one of both
pub never : (answer : Bool) → answer ≡ false → IsTrue answer → ⊥
never answer f t = let k : true ≡ false = sym t ∙ f in cc
