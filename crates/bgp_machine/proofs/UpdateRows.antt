-- What the rows about an UPDATE make.
use Rattle.std.proofs.Common.{◌≡◌, ℕ, Bool, true, false, ◌⊎◌, inl, inr, List, [], ◌∷◌, IsTrue, Option, None, Some, MatchOption, MatchBool, refl, sym, ap, subst, ◌∙◌}
use Rattle.bgp_open.specs.Family.TheVariants.{V4, V6}
use Rattle.bgp_open.specs.declared.families.Families.{Families}
use Rattle.bgp_open.specs.declared.link.Link.{Link}
use Rattle.bgp_open.specs.Families.{contains}
use Rattle.bgp_rib.specs.DeclaredChanges.{Changes}
use Rattle.bgp_rib.specs.Outcomes.{Outcomes}
use Rattle.bgp_rib.specs.DeclaredSubcodes.{Subcodes}
use Rattle.bgp_rib.specs.Allowed.{changes_value}
use Rattle.bgp_rib.specs.Changes.{RouteChanges}
use Rattle.bgp_rib.specs.Disabled.{IsDisabled}
use Rattle.bgp_rib.specs.Outcome.{Applied, Reset, IsOutcome}
use Rattle.bgp_rib.specs.Subcodes.{HasSubcode, SubcodesAreSets}
use Rattle.bgp_machine.specs.declared.fsm.Fsm.{Fsm}
use Rattle.bgp_machine.specs.declared.fsm.Fsm.TheVariants as fsms
use Rattle.bgp_machine.specs.declared.rows.ReceivedRow.{ReceivedRow}
use Rattle.bgp_machine.specs.declared.rows.ReceivedRow.TheVariants.{Ignores, Accepts, Overlooks, Collides, Drops, NamesFault, ReportsError, Establishes, Renews, Applies}
use Rattle.bgp_machine.specs.declared.state.Head.{Head}
use Rattle.bgp_machine.specs.declared.state.Head.TheVariants.{Idle, Established}
use Rattle.bgp_machine.specs.declared.state.HoldTimer.{HoldTimer}
use Rattle.bgp_machine.specs.declared.step.Routes.{Routes}
use Rattle.bgp_machine.specs.declared.step.Routes.TheVariants as routes
use Rattle.bgp_machine.specs.declared.step.Step.{Step}
use Rattle.bgp_machine.specs.declared.want.FaultSet.TheVariants as sets
use Rattle.bgp_machine.specs.declared.want.Want.{Want}
use Rattle.bgp_machine.specs.declared.want.Want.TheVariants.{Faults}
use Rattle.bgp_machine.specs.Lists.{Has}
use Rattle.bgp_machine.specs.State.{Turn, Cleared, Given, falls, fsm_of, renewed}
use Rattle.bgp_machine.specs.Step.{AreRefusals, changed}
use Rattle.bgp_machine.specs.Listed.{IsStep, changes_of, no_changes, routes_turn}
use Rattle.bgp_machine.specs.Rows.{AreOutcomes, IsOnly, NoStep, UpdateShown, update_rows}

-- ---- which families are disabled

pub each_family : (certain optional disabled : Families)
    → ((IsTrue certain.v4 → IsTrue disabled.v4) × (IsTrue disabled.v4 → IsTrue certain.v4 ⊎ IsTrue optional.v4))
    → ((IsTrue certain.v6 → IsTrue disabled.v6) × (IsTrue disabled.v6 → IsTrue certain.v6 ⊎ IsTrue optional.v6))
    → IsDisabled (λ f. IsTrue (contains certain f)) (λ f. IsTrue (contains optional f)) disabled
each_family certain optional disabled a b V4 = a
each_family certain optional disabled a b V6 = b

-- ---- the UPDATE is applied

pub no_apply : {X : Type 0} (link : Link) (octets : List ℕ) (o : Outcomes X) (changes : RouteChanges) (f : Families) → AreOutcomes link octets o
    → o.changes ≡ None → IsOutcome link octets (Applied changes f) → ⊥
no_apply {X} link octets o changes f are none is =
    subst (λ (v : Option (Changes X)). MatchOption v ⊥ (λ c. (changes ≡ changes_value c)
    × IsDisabled (λ g. IsTrue (contains o.certain g)) (λ g. IsTrue (contains o.optional g)) f)) none ((are (Applied changes f)).1 is)

allowed : {X : Type 0} (o : Option (Changes X)) (changes : RouteChanges) (certain optional f : Families)
    → MatchOption o ⊥ (λ c. (changes ≡ changes_value c) × IsDisabled (λ g. IsTrue (contains certain g)) (λ g. IsTrue (contains optional g)) f)
    → (changes ≡ changes_of o) × IsDisabled (λ g. IsTrue (contains certain g)) (λ g. IsTrue (contains optional g)) f
allowed None changes certain optional f h = absurd h
allowed (Some c) changes certain optional f h = h

pub allows : {X : Type 0} (o : Option (Changes X)) (certain optional f : Families) → (o ≡ None → ⊥)
    → IsDisabled (λ g. IsTrue (contains certain g)) (λ g. IsTrue (contains optional g)) f
    → MatchOption o ⊥ (λ c. (changes_of o ≡ changes_value c) × IsDisabled (λ g. IsTrue (contains certain g)) (λ g. IsTrue (contains optional g)) f)
allows None certain optional f some h = absurd (some refl)
allows (Some c) certain optional f some h = (refl, h)

pub without_changes : {X : Type 0} (own : Link) (timer : HoldTimer) (t : ℕ) (octets : List ℕ) (o : Outcomes X) (f : Families) → AreOutcomes own octets o
    → o.changes ≡ None → NoStep (UpdateShown own timer t octets (Applies f))
without_changes own timer t octets o f are none ws c u h = no_apply own octets o h.0.0 f are none h.0.1

pub not_disabled_so : {X : Type 0} (own : Link) (timer : HoldTimer) (t : ℕ) (octets : List ℕ) (o : Outcomes X) (f : Families) → AreOutcomes own octets o
    → (IsDisabled (λ g. IsTrue (contains o.certain g)) (λ g. IsTrue (contains o.optional g)) f → ⊥)
    → NoStep (UpdateShown own timer t octets (Applies f))
not_disabled_so own timer t octets o f are not ws c u h =
    not (allowed o.changes h.0.0 o.certain o.optional f ((are (Applied h.0.0 f)).1 h.0.1)).1

-- the step that applies it
abbrev pub applied_turn : RouteChanges → Link → HoldTimer → ℕ → Families → Turn
applied_turn changes own timer t f = record { head = Established own (renewed timer t); routes = Given changes f }

pub applied : {X : Type 0} (own : Link) (timer : HoldTimer) (t : ℕ) (octets : List ℕ) (o : Outcomes X) (f : Families) (x : Step) → AreOutcomes own octets o
    → (o.changes ≡ None → ⊥) → IsDisabled (λ g. IsTrue (contains o.certain g)) (λ g. IsTrue (contains o.optional g)) f
    → IsStep (changes_of o.changes) x [] None (applied_turn (changes_of o.changes) own timer t f)
    → IsOnly (UpdateShown own timer t octets (Applies f)) (changes_of o.changes) x
applied own timer t octets o f x are some disabled is = record {
  is = (
    [],
    None,
    applied_turn (changes_of o.changes) own timer t f,
    ((changes_of o.changes, (are (Applied (changes_of o.changes) f)).0 (allows o.changes o.certain o.optional f some disabled), refl, refl), refl),
    is,
  );
  only = λ ws c u h.
      let same = (allowed o.changes h.0.0 o.certain o.optional f ((are (Applied h.0.0 f)).1 h.0.1)).0 in
      let ends : u ≡ applied_turn (changes_of o.changes) own timer t f =
      h.0.3 ∙ ap (λ (v : RouteChanges). applied_turn v own timer t f) same
      in
      let shows : c ≡ None = h.1 ∙ ap (λ (v : Turn). changed fsms.Established (fsm_of v.head)) ends in
      record { sends = is.sends ∙ sym h.0.2; shows = is.shows ∙ sym shows; ends = is.ends ∙ sym ends };
}

-- ---- the UPDATE is refused

-- a step that keeps or clears the routes ends so whatever the changes are
cleared : (changes : RouteChanges) (head : Head) (r : Routes) → routes_turn no_changes r ≡ Cleared → routes_turn changes r ≡ Cleared
cleared changes head routes.Kept e = e
cleared changes head routes.Cleared e = e
cleared changes head (routes.Given f) e = absurd (cc)

pub still_falls : (changes : RouteChanges) (x : Step) (ws : List Want) (c : Option (Fsm × Fsm)) → IsStep no_changes x ws c falls → IsStep changes x ws c falls
still_falls changes x ws c is =
    let r = cleared changes x.after.head x.after.routes (ap (λ (v : Turn). v.routes) is.ends) in
    let h : x.after.head ≡ Idle = ap (λ (v : Turn). v.head) is.ends in
    record { sends = is.sends; shows = is.shows; ends = λ i. record { head = h i; routes = r i } }

pub without_subcodes : {X : Type 0} (own : Link) (timer : HoldTimer) (t : ℕ) (octets : List ℕ) (o : Outcomes X) → AreOutcomes own octets o
    → ((n : ℕ) → HasSubcode o.reset n → ⊥) → NoStep (UpdateShown own timer t octets NamesFault)
without_subcodes own timer t octets o are none ws c u h =
    let one = h.0.1.one in none one.0 ((are (Reset one.0)).1 one.1)

pub refused : {X : Type 0} (own : Link) (timer : HoldTimer) (t : ℕ) (octets : List ℕ) (o : Outcomes X) (x : Step) → AreOutcomes own octets o → SubcodesAreSets
    → ((n : ℕ) × HasSubcode o.reset n)
    → IsStep no_changes x (Faults (sets.Update o.reset) ∷ []) (Some (fsms.Established, fsms.Idle)) falls
    → IsOnly (UpdateShown own timer t octets NamesFault) (changes_of o.changes) x
refused own timer t octets o x are sets_are some is =
    let still = still_falls (changes_of o.changes) x _ _ is in
    let refusals : AreRefusals own octets o.reset = record { each = λ n. are (Reset n); one = (some.0, (are (Reset some.0)).0 some.1) } in
    record {
      is = (Faults (sets.Update o.reset) ∷ [], Some (fsms.Established, fsms.Idle), falls, ((o.reset, refusals, refl, refl), refl), still);
      only = λ ws c u h.
          let same : h.0.0 ≡ o.reset = sets_are h.0.0 o.reset (λ n. (λ k. (are (Reset n)).1 ((h.0.1.each n).0 k), λ k. (h.0.1.each n).1 ((are (Reset n)).0 k))) in
          let sends : ws ≡ Faults (sets.Update o.reset) ∷ [] = h.0.2 ∙ ap (λ (v : Subcodes). Faults (sets.Update v) ∷ []) same in
          let shows : c ≡ Some (fsms.Established, fsms.Idle) = h.1 ∙ ap (λ (v : Turn). changed fsms.Established (fsm_of v.head)) h.0.3 in
          record { sends = still.sends ∙ sym sends; shows = still.shows ∙ sym shows; ends = still.ends ∙ sym h.0.3 };
    }

-- ---- tests, by their two answers

pub if_true : (b : Bool) (A B : Type 0) → b ≡ true → MatchBool b A B → A
if_true b A B e m = subst (λ (v : Bool). MatchBool v A B) e m

pub if_false : (b : Bool) (A B : Type 0) → b ≡ false → MatchBool b A B → B
if_false b A B e m = subst (λ (v : Bool). MatchBool v A B) e m

-- ---- which rows there are

pub each_set : (v4 v6 : Bool) → Has (λ r. r ≡ Applies (record { v4 = v4; v6 = v6 })) update_rows
each_set false false = inr (inl refl)
each_set true false = inr (inr (inl refl))
each_set false true = inr (inr (inr (inl refl)))
each_set true true = inr (inr (inr (inr (inl refl))))

pub each_update : (own : Link) (timer : HoldTimer) (t : ℕ) (octets : List ℕ) (row : ReceivedRow) (ws : List Want) (c : Option (Fsm × Fsm)) (u : Turn)
    → UpdateShown own timer t octets row ws c u → Has (λ r. r ≡ row) update_rows
each_update own timer t octets NamesFault ws c u h = inl refl
each_update own timer t octets (Applies f) ws c u h = each_set f.v4 f.v6
each_update own timer t octets Ignores ws c u h = absurd h.0
each_update own timer t octets Accepts ws c u h = absurd h.0
each_update own timer t octets Overlooks ws c u h = absurd h.0
each_update own timer t octets Collides ws c u h = absurd h.0
each_update own timer t octets Drops ws c u h = absurd h.0
each_update own timer t octets ReportsError ws c u h = absurd h.0
each_update own timer t octets Establishes ws c u h = absurd h.0
each_update own timer t octets Renews ws c u h = absurd h.0
