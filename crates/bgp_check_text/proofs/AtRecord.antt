-- The line of the record at which a no stands, told as of the session of its direction.
use Rattle.std.proofs.Common.{◌≡◌, ◌+◌, ◌++◌, ℕ, zero, suc, List, [], ◌∷◌, Option, None, Some, add-one, ap, slice_get, subst, sym, take}
use Rattle.std.specs.List.{AllByRecursion}
use Rattle.bgp_prefix.specs.Shown.{ShownRecord}
use Rattle.bgp_prefix.specs.declared.session.Session.{Session}
use Rattle.bgp_wire.specs.declared.header.Limit.{Limit}
use Rattle.bgp_open.specs.declared.config.Config.{Config}
use Rattle.bgp_judge.specs.Verdict.{verdict_value}
use Rattle.bgp_judge.specs.declared.verdict.Verdict.{Verdict}
use Rattle.bgp_judge.specs.declared.verdict.Verdict.TheVariants.{No, Unfinished, Yes}
use Rattle.bgp_explain.specs.Kept.{shown_by}
use Rattle.bgp_explain.specs.Reason.{HasReason, IsNext}
use Rattle.bgp_explain.specs.Text.{CanBePut, CanBePutOf}
use Rattle.bgp_explain.specs.declared.explained.Impossible.{Impossible}
use Rattle.bgp_explain.specs.declared.explained.Reason.{Reason}
use Rattle.bgp_explain.proofs.NextRecord.{Can, next_has}
use Rattle.bgp_check_text.specs.Shown.{CanBeTold, session_at, session_by, session_for}

module _ (session : Session) (sent : Limit) where
  -- the session is that of the record after so many
  nth : (records : List ShownRecord) (count : ℕ) (x : ShownRecord) → take (suc count) records ≡ take count records ++ x ∷ []
      → session_by session sent (slice_get records count) ≡ session_for session sent x
  nth [] zero x e = let k : ⊥ = cc in absurd k
  nth [] (suc n) x e = let k : ⊥ = cc in absurd k
  nth (shown ∷ records) zero x e = ap (session_for session sent) (cc)
  nth (shown ∷ records) (suc n) x e = nth records n x (cc)

  each : (records : List ShownRecord) → AllByRecursion (CanBeTold session sent) records
      → AllByRecursion (λ (shown : ShownRecord). Can (session_for session sent shown) shown) records
  each [] all = tt
  each (shown ∷ records) all = ((None, all.0), each records all.1)

  -- so it can be put
  module _ (config : Config) (records : List ShownRecord) (all : AllByRecursion (CanBeTold session sent) records) where
    next_can : {X : Type 0} (count : ℕ) (o : Option (Impossible X)) → IsNext config (take count records) o (take (count + 1) records)
        → CanBePut (session_by session sent (slice_get records count)) o
    next_can count None next = absurd next
    next_can count (Some i) next =
        subst (λ (s : Session). CanBePut s (Some i))
        (sym (nth records count (shown_by i.«record») (subst (λ (n : ℕ). take n records ≡ take count records ++ shown_by i.«record» ∷ []) (add-one count) next.1)))
        (next_has (λ (shown : ShownRecord). Can (session_for session sent shown) shown) config (take count records) records (count + 1) i (each records all) next)

    pub can_be_put : {X Y : Type 0} (verdict : Verdict X) (reason : Option (Reason Y)) → HasReason config records verdict reason
        → CanBePutOf (session_at session sent records (verdict_value verdict)) reason
    can_be_put (Yes ends) reason has = subst (λ (w : Option (Reason _)). CanBePutOf session w) (sym has) tt
    can_be_put (No count) None has = tt
    can_be_put (No count) (Some reason) has = next_can count reason.impossible has.1
    can_be_put Unfinished None has = tt
    can_be_put Unfinished (Some reason) has = subst (λ (o : Option (Impossible _)). CanBePut session o) (sym has.1) tt
