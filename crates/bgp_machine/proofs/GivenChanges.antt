-- The changes stand beside a list exactly where one of its steps makes them.
use Rattle.std.proofs.Common.{◌≡◌, ℕ, ◌⊎◌, ◌↔◌, inl, inr, false, List, [], ◌∷◌, IsTrue, Option, None, Some, IsSome, refl, ap, ◌∙◌}
use Rattle.bgp_open.specs.declared.families.Families.{Families}
use Rattle.bgp_open.specs.declared.link.Link.{Link}
use Rattle.bgp_rib.specs.Outcomes.{Outcomes}
use Rattle.bgp_rib.specs.Changes.{RouteChanges}
use Rattle.bgp_rib.specs.Outcome.{Applied}
use Rattle.bgp_machine.specs.declared.fsm.Fsm.{Fsm}
use Rattle.bgp_machine.specs.declared.hearing.Heard.{Heard}
use Rattle.bgp_machine.specs.declared.hearing.Heard.TheVariants as heard
use Rattle.bgp_machine.specs.declared.rows.ReceivedRow.{ReceivedRow}
use Rattle.bgp_machine.specs.declared.rows.ReceivedRow.TheVariants.{Ignores, Accepts, Overlooks, Collides, Drops, NamesFault, ReportsError, Establishes, Renews, Applies}
use Rattle.bgp_machine.specs.declared.state.Head.{Head}
use Rattle.bgp_machine.specs.declared.state.Head.TheVariants.{Idle, Connect, Active, OpenSent, OpenConfirm, Established}
use Rattle.bgp_machine.specs.declared.state.HoldTimer.{HoldTimer}
use Rattle.bgp_machine.specs.declared.step.Routes.{Routes}
use Rattle.bgp_machine.specs.declared.step.Routes.TheVariants as routes
use Rattle.bgp_machine.specs.declared.step.Step.{Step}
use Rattle.bgp_machine.specs.declared.want.Want.{Want}
use Rattle.bgp_machine.specs.Going.{Falling, GoingOn, GoOnWith}
use Rattle.bgp_machine.specs.Lists.{Has, Each}
use Rattle.bgp_machine.specs.Listed.{IsStep, MakesChanges, changes_of, routes_turn}
use Rattle.bgp_machine.specs.Rows.{AreOutcomes, HeardShown, ListsRows, NeedsOutcomes, UpdateShown, update_rows}
use Rattle.bgp_machine.specs.State.{RoutesTurn, Turn, Kept, Cleared, Given}
use Rattle.bgp_machine.proofs.Shapes.{shape_received}
use Rattle.bgp_machine.proofs.UpdateRows.{allows, applied_turn, each_set, no_apply}

-- one of the elements, with what each has
one_of : {X : Type 0} (P Q : X → Type 0) (xs : List X) → Each P xs → Has Q xs → (x : X) × P x × Q x
one_of P Q [] e h = absurd h
one_of P Q (x ∷ xs) e (inl q) = (x, e.0, q)
one_of P Q (x ∷ xs) e (inr h) = one_of P Q xs e.1 h

has_weaker : {X : Type 0} (P Q : X → Type 0) → ((x : X) → P x → Q x) → (xs : List X) → Has P xs → Has Q xs
has_weaker P Q f [] h = absurd h
has_weaker P Q f (x ∷ xs) (inl p) = inl (f x p)
has_weaker P Q f (x ∷ xs) (inr h) = inr (has_weaker P Q f xs h)

-- a step whose routes aren't given makes no changes
not_kept : (changes : RouteChanges) (r : Routes) (f : Families) → r ≡ routes.Given f → routes_turn changes r ≡ Kept → ⊥
not_kept changes r f e k = let g : routes_turn changes r ≡ Given changes f = ap (routes_turn changes) e in cc

not_cleared : (changes : RouteChanges) (r : Routes) (f : Families) → r ≡ routes.Given f → routes_turn changes r ≡ Cleared → ⊥
not_cleared changes r f e k = let g : routes_turn changes r ≡ Given changes f = ap (routes_turn changes) e in cc

ends_otherwise : (changes : RouteChanges) (x : Step) (ws : List Want) (c : Option (Fsm × Fsm)) (u : Turn) → IsStep changes x ws c u → MakesChanges x
    → (u.routes ≡ Kept) ⊎ (u.routes ≡ Cleared) → ⊥
ends_otherwise changes x ws c u is makes (inl k) = not_kept changes x.after.routes makes.0 makes.1 (ap (λ (v : Turn). v.routes) is.ends ∙ k)
ends_otherwise changes x ws c u is makes (inr k) = not_cleared changes x.after.routes makes.0 makes.1 (ap (λ (v : Turn). v.routes) is.ends ∙ k)

-- other messages leave the routes, or none
keeps : (head : Head) (octets : List ℕ) (m : Heard) (r : RoutesTurn) → ¬ NeedsOutcomes head m → GoOnWith head octets m r → r ≡ Kept
keeps Idle octets m r n h = h
keeps (Connect d) octets m r n h = h
keeps (Active d) octets m r n h = h
keeps (OpenSent s) octets m r n h = h
keeps (OpenConfirm k s) octets m r n h = h
keeps (Established k s) octets heard.TooShort r n h = h
keeps (Established k s) octets (heard.ValidOpen l e) r n h = h
keeps (Established k s) octets (heard.FaultyHeader f) r n h = h
keeps (Established k s) octets (heard.InvalidOpen e) r n h = h
keeps (Established k s) octets heard.BadVersion r n h = h
keeps (Established k s) octets heard.Notification r n h = h
keeps (Established k s) octets heard.Keepalive r n h = h
keeps (Established k s) octets heard.Update r n h = absurd (n (refl, refl))

falls_so : (head : Head) (ws : List Want) (u : Turn) → Falling head ws u → (u.routes ≡ Kept) ⊎ (u.routes ≡ Cleared)
falls_so head ws u f = elim f.ends [ inl e ↦ inr (ap (λ (v : Turn). v.routes) e) | inr p ↦ inl (ap (λ (v : Turn). v.routes) p.1) ]

otherwise : (head : Head) (t : ℕ) (octets : List ℕ) (m : Heard) (row : ReceivedRow) (ws : List Want) (c : Option (Fsm × Fsm)) (u : Turn)
    → ¬ NeedsOutcomes head m → HeardShown head t octets m row ws c u → (u.routes ≡ Kept) ⊎ (u.routes ≡ Cleared)
otherwise head t octets m row ws c u n h = elim (shape_received head t octets m row ws u h.0) [
  | inl f ↦ falls_so head ws u f
  | inr g ↦ let on : GoingOn head t octets m ws u = g in inl (keeps head octets m u.routes n on.routes)
]

-- of steps about another message none makes changes
pub none_makes : (head : Head) (t : ℕ) (octets : List ℕ) (m : Heard) (changes : RouteChanges) (rows : List ReceivedRow) (steps : List Step)
    → ¬ NeedsOutcomes head m → ListsRows (HeardShown head t octets m) changes rows steps → Has MakesChanges steps → ⊥
none_makes head t octets m changes rows steps n l h =
    let x = one_of _ MakesChanges steps l.each h in
    let e = x.1 in
    ends_otherwise changes x.0 e.1 e.2 e.3 e.5 x.2 (otherwise head t octets m e.0 e.1 e.2 e.3 n e.4)

-- none stand beside them
pub none_beside : (steps : List Step) → (Has MakesChanges steps → ⊥) → IsTrue false ↔ Has MakesChanges steps
none_beside steps n = (λ s. absurd (cc), λ h. absurd (n h))

-- ---- of those about an UPDATE

some_from : {X : Type 0} (o : Option X) → (o ≡ None → ⊥) → IsSome o
some_from None n = absurd (n refl)
some_from (Some x) n = refl

not_none : {X : Type 0} (o : Option X) → IsSome o → o ≡ None → ⊥
not_none None s e = absurd (cc)
not_none (Some x) s e = cc

given_is : (changes : RouteChanges) (r : Routes) (f : Families) → routes_turn changes r ≡ Given changes f → r ≡ routes.Given f
given_is changes routes.Kept f e = absurd (cc)
given_is changes routes.Cleared f e = absurd (cc)
given_is changes (routes.Given g) f e = cc

-- the families that have to be disabled may be all that are
makes_some : {X : Type 0} (own : Link) (timer : HoldTimer) (t : ℕ) (octets : List ℕ) (o : Outcomes X) (steps : List Step) → AreOutcomes own octets o
    → ListsRows (UpdateShown own timer t octets) (changes_of o.changes) update_rows steps → (o.changes ≡ None → ⊥) → Has MakesChanges steps
makes_some own timer t octets o steps are l some =
    let changes = changes_of o.changes in
    let f = o.certain in
    let is = (are (Applied changes f)).0 (allows o.changes o.certain o.optional f some (λ g. (λ k. k, λ k. inl k))) in
    let turn = applied_turn changes own timer t f in
    has_weaker (λ x. IsStep changes x [] None turn) MakesChanges
    (λ x (s : IsStep changes x [] None turn). (f, given_is changes x.after.routes f (ap (λ (v : Turn). v.routes) s.ends))) steps
    (l.every (Applies f) (each_set f.v4 f.v6) [] None turn ((changes, is, refl, refl), refl))

-- a row about an UPDATE that isn't one of those clears the routes
applies_so : {X : Type 0} (own : Link) (timer : HoldTimer) (t : ℕ) (octets : List ℕ) (o : Outcomes X) (row : ReceivedRow) (ws : List Want) (c : Option (Fsm × Fsm)) (u : Turn)
    → AreOutcomes own octets o → UpdateShown own timer t octets row ws c u → (o.changes ≡ None → ⊥) ⊎ (u.routes ≡ Cleared)
applies_so own timer t octets o NamesFault ws c u are h = inr (ap (λ (v : Turn). v.routes) h.0.3)
applies_so own timer t octets o (Applies f) ws c u are h = inl (λ none. no_apply own octets o h.0.0 f are none h.0.1)
applies_so own timer t octets o Ignores ws c u are h = absurd h.0
applies_so own timer t octets o Accepts ws c u are h = absurd h.0
applies_so own timer t octets o Overlooks ws c u are h = absurd h.0
applies_so own timer t octets o Collides ws c u are h = absurd h.0
applies_so own timer t octets o Drops ws c u are h = absurd h.0
applies_so own timer t octets o ReportsError ws c u are h = absurd h.0
applies_so own timer t octets o Establishes ws c u are h = absurd h.0
applies_so own timer t octets o Renews ws c u are h = absurd h.0

pub changes_beside : {X : Type 0} (own : Link) (timer : HoldTimer) (t : ℕ) (octets : List ℕ) (o : Outcomes X) (steps : List Step) → AreOutcomes own octets o
    → ListsRows (UpdateShown own timer t octets) (changes_of o.changes) update_rows steps → IsSome o.changes ↔ Has MakesChanges steps
changes_beside own timer t octets o steps are l = (
  λ s. makes_some own timer t octets o steps are l (not_none o.changes s),
  λ h.
      let x = one_of _ MakesChanges steps l.each h in
      let e = x.1 in
      elim (applies_so own timer t octets o e.0 e.1 e.2 e.3 are e.4) [
        | inl some ↦ some_from o.changes some
        | inr cleared ↦ absurd (ends_otherwise (changes_of o.changes) x.0 e.1 e.2 e.3 e.5 x.2 (inr cleared))
      ],
)
