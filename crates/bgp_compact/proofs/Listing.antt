-- What a list of the steps that a record opens makes of members, and where changes are made.
use Rattle.std.proofs.Common.{◌≡◌, ◌⊎◌, inl, inr, Bool, true, false, List, [], ◌∷◌, Option, None, Some, if◌then◌else◌, refl, sym, ap, subst, ◌∙◌}
use Rattle.std.specs.Prelude.{IsSome}
use Rattle.bgp_prefix.specs.Shown.{ShownRecord}
use Rattle.bgp_open.specs.declared.config.Config.{Config}
use Rattle.bgp_update.specs.declared.outcomes.Changes.{Changes}
use Rattle.bgp_update.specs.Changes.{RouteChanges}
use Rattle.bgp_machine.specs.declared.fsm.Fsm.TheVariants as fsms
use Rattle.bgp_machine.specs.declared.state.Head.{Head}
use Rattle.bgp_machine.specs.declared.state.Head.TheVariants.{Idle, Connect, Active, OpenSent, OpenConfirm, Established}
use Rattle.bgp_machine.specs.declared.step.Routes.{Routes as RoutesOfStep}
use Rattle.bgp_machine.specs.declared.step.Step.{Step}
use Rattle.bgp_machine.specs.declared.want.Want.{Want}
use Rattle.bgp_machine.specs.Going.{undelayed}
use Rattle.bgp_machine.specs.Listed.{IsStep, MakesChanges, changes_of, no_changes, routes_turn, turn_of}
use Rattle.bgp_machine.specs.Lists.{Has, Each}
use Rattle.bgp_machine.specs.Rows.{silent_heads}
use Rattle.bgp_machine.specs.Run.{is_delayed}
use Rattle.bgp_machine.specs.State.{Turn, Kept, fsm_of, link_at, moved}
use Rattle.bgp_machine.specs.Want.{wants_of}
use Rattle.bgp_machine.proofs.Moves.{after_no_changes}
use Rattle.bgp_rib.specs.Routes.{Routes, routes_without}
use Rattle.bgp_judge.specs.Member.{Member, link_for}
use Rattle.bgp_judge.specs.Openings.{ListsOpenings}
use Rattle.bgp_compact.specs.declared.base.Base.{Base}
use Rattle.bgp_compact.specs.declared.words.Words.{Words}
use Rattle.bgp_compact.specs.Steps.{Fits, FromHead, FromStep, Gains, IsOpen}
use Rattle.bgp_compact.proofs.StepLoops.{each_from, has_each, has_map}
use Rattle.bgp_compact.proofs.Ways.{given_then}

step_head : (config : Config) (base : Base) (r : ShownRecord) (changes : RouteChanges) (table : Routes) (x : Step) (m : Member) → FromStep base changes table x m
    → IsOpen config base.head r changes x → FromHead config base r table m
step_head config base r changes table x m f o = subst (λ (v : Member). FromHead config base r table v) (sym f.member) (record {
  families = f.families;
  held = f.held;
  turn = turn_of changes x.after;
  at_once = f.at_once;
  opens = o;
  state = refl;
  link = refl;
})

head_step : (config : Config) (base : Base) (r : ShownRecord) (changes : RouteChanges) (table : Routes) (x : Step) (m : Member) → (f : FromHead config base r table m)
    → IsStep changes x m.wants m.change f.turn → FromStep base changes table x m
head_step config base r changes table x m f s =
    let st : m.state ≡ moved (record { head = base.head; routes = routes_without f.families table }) (turn_of changes x.after) =
    f.state ∙ ap (λ (v : Turn). moved (record { head = base.head; routes = routes_without f.families table }) v) (sym s.ends) in
    let l : m.link ≡ link_for (wants_of x.wants) (link_at base.head) = f.link ∙ ap (λ (v : List Want). link_for v (link_at base.head)) (sym s.sends) in
    record {
      families = f.families;
      held = f.held;
      at_once = ap (λ (v : Turn). is_delayed v.head) s.ends ∙ f.at_once;
      member = λ i. record { state = st i; link = l i; wants = sym s.sends i; change = sym s.shows i };
    }

-- the steps of the list make just what steps make that the record opens
pub head_gains : (config : Config) (base : Base) (r : ShownRecord) (changes : RouteChanges) (table after : Routes) (steps : List Step) (n n2 : Words)
    → ListsOpenings config base.head r changes steps → Gains n n2 after (λ m. Has (λ x. FromStep base changes table x m) steps) → Gains n n2 after (FromHead config base r table)
head_gains config base r changes table after steps n n2 lists g = record {
  only = λ m p. elim (g.only m p) [
    | inl q ↦ inl q
    | inr q ↦
        let k = has_each (λ x. FromStep base changes table x m) (IsOpen config base.head r changes) steps q lists.each in
        inr (step_head config base r changes table k.0 m k.1 k.2)
  ];
  keeps = g.keeps;
  adds = λ m f. g.adds m (has_map (λ x. IsStep changes x m.wants m.change f.turn) (λ x. FromStep base changes table x m) steps
      (λ x s. head_step config base r changes table x m f s) (lists.every m.wants m.change f.turn f.opens));
}

-- ---- changes

-- some step makes the changes: so all that go on do, and the state is Established
makes : (config : Config) (head : Head) (r : ShownRecord) (changes : RouteChanges) (steps : List Step) → Each (IsOpen config head r changes) steps → Has MakesChanges steps
    → (fsm_of head ≡ fsms.Established) × ((table : Routes) → Each (Fits changes table) steps)
makes config head r changes steps each has =
    let k = has_each MakesChanges (IsOpen config head r changes) steps has each in
    let y : Step = k.0 in
    let given : (x : Step) → (fsm_of head ≡ fsms.Established)
    × (IsOpen config head r changes x → (fsm_of x.after.head ≡ fsms.Idle → ⊥) → routes_turn changes x.after.routes ≡ Kept → ⊥) =
    λ x. given_then config head r (wants_of y.wants) (wants_of x.wants) y.change x.change (turn_of changes y.after) (turn_of changes x.after) changes k.1.0
    k.2 (ap (λ (v : RoutesOfStep). routes_turn changes v) k.1.1) in (
      (given y).0,
      λ table. each_from (IsOpen config head r changes) (Fits changes table) steps each
          (λ x o kept up. absurd ((given x).1 o up (ap (λ (v : RoutesOfStep). routes_turn changes v) kept))),
    )

pub all_fit : {X : Type 0} (config : Config) (head : Head) (r : ShownRecord) (given : Option (Changes X)) (table : Routes) (steps : List Step)
    → ListsOpenings config head r (changes_of given) steps → (IsSome given → Has MakesChanges steps) → Each (Fits (changes_of given) table) steps
all_fit config head r None table steps lists some =
    each_from (IsOpen config head r no_changes) (Fits no_changes table) steps lists.each (λ x o kept up. after_no_changes table)
all_fit config head r (Some c) table steps lists some = (makes config head r (changes_of (Some c)) steps lists.each (some refl)).1 table

pub given_where : {X : Type 0} (config : Config) (head : Head) (r : ShownRecord) (given : Option (Changes X)) (steps : List Step)
    → ListsOpenings config head r (changes_of given) steps → (IsSome given → Has MakesChanges steps) → IsSome given → fsm_of head ≡ fsms.Established
given_where config head r given steps lists some is = (makes config head r (changes_of given) steps lists.each (some is)).0

-- ---- the heads that silence leads to

either_in : (b : Bool) (x y h : Head) → Has (λ (v : Head). v ≡ h) (if b then x ∷ y ∷ [] else x ∷ [])
    → (h ≡ x) ⊎ ((if b then x ∷ y ∷ [] else x ∷ []) ≡ x ∷ h ∷ [])
either_in true x y h e = elim e [
  | inl a ↦ inl (sym a)
  | inr r ↦ elim r [ inl a ↦ inr (ap (λ (v : Head). x ∷ v ∷ []) a) | inr z ↦ absurd z ]
]
either_in false x y h e = elim e [ inl a ↦ inl (sym a) | inr z ↦ absurd z ]

one_in : (x h : Head) → Has (λ (v : Head). v ≡ h) (x ∷ []) → h ≡ x
one_in x h e = elim e [ inl a ↦ sym a | inr z ↦ absurd z ]

-- the head itself, or another: then that is its late one
pub self_or_late : (config : Config) (head h : Head) → is_delayed head ≡ false → Has (λ (v : Head). v ≡ h) (silent_heads config head)
    → (h ≡ head) ⊎ (silent_heads config head ≡ head ∷ h ∷ [])
self_or_late config Idle h off e = inl (one_in Idle h e)
self_or_late config (Connect true) h off e = absurd (let k : ⊥ = cc in k)
self_or_late config (Connect false) h off e = either_in config.parts.delay_open (Connect false) (Connect true) h e
self_or_late config (Active true) h off e = absurd (let k : ⊥ = cc in k)
self_or_late config (Active false) h off e = either_in config.parts.delay_open (Active false) (Active true) h e
self_or_late config (OpenSent timer) h off e = inl (one_in (OpenSent timer) h e)
self_or_late config (OpenConfirm own timer) h off e = inl (one_in (OpenConfirm own timer) h e)
self_or_late config (Established own timer) h off e = inl (one_in (Established own timer) h e)

pub not_two : (x h : Head) → x ∷ [] ≡ x ∷ h ∷ [] → ⊥
not_two x h e = cc

pub late_is : (x y h : Head) → x ∷ y ∷ [] ≡ x ∷ h ∷ [] → h ≡ y
late_is x y h e = cc

late_of : (b : Bool) (x y h : Head) → (if b then x ∷ y ∷ [] else x ∷ []) ≡ x ∷ h ∷ [] → h ≡ y
late_of true x y h e = late_is x y h e
late_of false x y h e = absurd (not_two x h e)

-- a late head is the same, with the OPEN delayed
pub record IsLate (head late : Head) : Type 0 where
  pub same : undelayed late ≡ undelayed head
  pub waits : fsm_of head ≡ fsms.Established → ⊥
  pub late_waits : fsm_of late ≡ fsms.Established → ⊥
  pub up : late ≡ Idle → ⊥

pub late_so : (config : Config) (head late : Head) → is_delayed head ≡ false → silent_heads config head ≡ head ∷ late ∷ [] → IsLate head late
late_so config Idle late off e = absurd (not_two Idle late e)
late_so config (Connect true) late off e = absurd (let k : ⊥ = cc in k)
late_so config (Connect false) late off e =
    subst (λ (v : Head). IsLate (Connect false) v) (sym (late_of config.parts.delay_open (Connect false) (Connect true) late e))
    (record { same = refl; waits = λ z. cc; late_waits = λ z. cc; up = λ z. cc })
late_so config (Active true) late off e = absurd (let k : ⊥ = cc in k)
late_so config (Active false) late off e =
    subst (λ (v : Head). IsLate (Active false) v) (sym (late_of config.parts.delay_open (Active false) (Active true) late e))
    (record { same = refl; waits = λ z. cc; late_waits = λ z. cc; up = λ z. cc })
late_so config (OpenSent timer) late off e = absurd (not_two (OpenSent timer) late e)
late_so config (OpenConfirm own timer) late off e = absurd (not_two (OpenConfirm own timer) late e)
late_so config (Established own timer) late off e = absurd (not_two (Established own timer) late e)
