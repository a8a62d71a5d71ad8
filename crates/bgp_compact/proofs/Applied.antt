-- An UPDATE that can only be applied: the step that it opens, and what that makes of members.
use Rattle.std.proofs.Common.{◌≡◌, inl, inr, ℕ, Bool, true, false, IsTrue, List, [], ◌∷◌, Option, None, Some, refl, sym, ap, subst, ◌∙◌}
use Rattle.std.specs.Prelude.{IfSome}
use Rattle.bgp_open.specs.Family.TheVariants.{V4, V6}
use Rattle.bgp_prefix.specs.Shown.{ShownRecord, Received}
use Rattle.bgp_open.specs.declared.config.Config.{Config}
use Rattle.bgp_open.specs.declared.families.Families.{Families}
use Rattle.bgp_open.specs.declared.link.Link.{Link}
use Rattle.bgp_open.specs.Families.{contains, no_families}
use Rattle.bgp_update.specs.declared.outcomes.Changes.{Changes}
use Rattle.bgp_update.specs.declared.outcomes.Outcomes.{Outcomes}
use Rattle.bgp_update.specs.Allowed.{changes_value}
use Rattle.bgp_update.specs.Changes.{RouteChanges}
use Rattle.bgp_update.specs.Disabled.{IsDisabled}
use Rattle.bgp_machine.specs.declared.fsm.Fsm.{Fsm}
use Rattle.bgp_machine.specs.declared.fsm.Fsm.TheVariants as fsms
use Rattle.bgp_machine.specs.declared.hearing.Heard.{Heard}
use Rattle.bgp_machine.specs.declared.hearing.Heard.TheVariants.{Update}
use Rattle.bgp_machine.specs.declared.rows.ReceivedRow.{ReceivedRow}
use Rattle.bgp_machine.specs.declared.rows.ReceivedRow.TheVariants.{Ignores, Accepts, Overlooks, Collides, Drops, NamesFault, ReportsError, Establishes, Renews, Applies}
use Rattle.bgp_machine.specs.declared.state.Head.{Head}
use Rattle.bgp_machine.specs.declared.state.Head.TheVariants.{Idle, Established}
use Rattle.bgp_machine.specs.declared.state.HoldTimer.{HoldTimer}
use Rattle.bgp_machine.specs.declared.step.Routes.TheVariants as routes
use Rattle.bgp_machine.specs.declared.step.Step.{Step}
use Rattle.bgp_machine.specs.declared.want.Want.{Want}
use Rattle.bgp_machine.specs.declared.want.Wants.TheVariants.{Nothing}
use Rattle.bgp_machine.specs.Going.{told, shown_after, undelayed}
use Rattle.bgp_machine.specs.Heard.{Hears}
use Rattle.bgp_machine.specs.Listed.{IsStep, changes_of}
use Rattle.bgp_machine.specs.Rows.{AreOutcomes, IsOnly, UpdateShown, silent_heads}
use Rattle.bgp_machine.specs.Run.{is_delayed}
use Rattle.bgp_machine.specs.State.{Turn, fsm_of, renewed}
use Rattle.bgp_machine.specs.Step.{ReceivedIn}
use Rattle.bgp_machine.proofs.OneHearing.{one_heard}
use Rattle.bgp_machine.proofs.UpdateRows.{applied, not_disabled_so, without_subcodes}
use Rattle.bgp_rib.specs.Routes.{AreRoutes, Routes, routes_after}
use Rattle.bgp_judge.specs.Image.{IsImage}
use Rattle.bgp_judge.specs.Member.{Member}
use Rattle.bgp_judge.specs.Next.{Opens}
use Rattle.bgp_judge.specs.Openings.{ListsOpenings}
use Rattle.bgp_judge.proofs.KeptSteps.{at_step}
use Rattle.bgp_compact.specs.declared.base.Base.{Base}
use Rattle.bgp_compact.specs.declared.falls.Fall.TheVariants.{Erred}
use Rattle.bgp_compact.specs.declared.words.Words.{Words}
use Rattle.bgp_compact.specs.Applied.{IsApplied, OnlyApplies, applies, words_applied}
use Rattle.bgp_compact.specs.Disabled.{no_sets}
use Rattle.bgp_compact.specs.Members.{IsMember, front_member, left_of, no_falls}
use Rattle.bgp_compact.specs.Members.IsMember.{Front}
use Rattle.bgp_compact.specs.Parts.{AreFine, PaidTo}
use Rattle.bgp_compact.specs.Standing.{IsTableOf}
use Rattle.bgp_compact.specs.Steps.{AreBehind, AreMade, FromHead, FromStep, Gains, table_behind}
use Rattle.bgp_compact.proofs.AllPaid.{goes_where, none_left}
use Rattle.bgp_compact.proofs.Images.{gains_no_late, image_some, paid_behind}
use Rattle.bgp_compact.proofs.Listing.{head_gains}
use Rattle.bgp_compact.proofs.Making.{made_at}
use Rattle.bgp_compact.proofs.OneFall.{none_falls}
use Rattle.bgp_compact.proofs.SetsOfSets.{holds_none}
use Rattle.bgp_compact.proofs.Stepping.{goes_gain}

-- ---- the one step

not_true : (b : Bool) → (IsTrue b → ⊥) → b ≡ false
not_true true f = absurd (f refl)
not_true false f = refl

no_v4 : (s : Families) → s ≡ no_families → IsTrue (contains s V4) → ⊥
no_v4 s e t = let k : IsTrue (contains no_families V4) = subst (λ (v : Families). IsTrue (contains v V4)) e t in cc

no_v6 : (s : Families) → s ≡ no_families → IsTrue (contains s V6) → ⊥
no_v6 s e t = let k : IsTrue (contains no_families V6) = subst (λ (v : Families). IsTrue (contains v V6)) e t in cc

-- no family may be disabled
none_so : (certain optional : Families) → certain ≡ no_families → optional ≡ no_families → (f : Families)
    → IsDisabled (λ g. IsTrue (contains certain g)) (λ g. IsTrue (contains optional g)) f → f ≡ no_families
none_so certain optional a b f is =
    let four : f.v4 ≡ false = not_true f.v4 (λ t. elim ((is V4).1 t) [ inl c ↦ no_v4 certain a c | inr c ↦ no_v4 optional b c ]) in
    let six : f.v6 ≡ false = not_true f.v6 (λ t. elim ((is V6).1 t) [ inl c ↦ no_v6 certain a c | inr c ↦ no_v6 optional b c ]) in
    λ i. record { v4 = four i; v6 = six i }

module _ {X : Type 0} (config : Config) (own : Link) (timer : HoldTimer) (t : ℕ) (octets : List ℕ) (o : Outcomes X) (changes : Changes X)
    (hears : Hears config octets Update) (are : AreOutcomes own octets o) (only : OnlyApplies o changes) where
  abbrev one : Step
  one = applies (Established own (renewed timer t))

  some : o.changes ≡ None → ⊥
  some e = let k : Some changes ≡ None = sym only.changes_are ∙ e in cc

  disabled : IsDisabled (λ g. IsTrue (contains o.certain g)) (λ g. IsTrue (contains o.optional g)) no_families
  disabled = λ g. (
    λ c. subst (λ (v : Families). IsTrue (contains v g)) only.none_certain c,
    λ c. inl (subst (λ (v : Families). IsTrue (contains v g)) (sym only.none_certain) c),
  )

  is_one : IsOnly (UpdateShown own timer t octets (Applies no_families)) (changes_of o.changes) one
  is_one = applied own timer t octets o no_families one are some disabled (record { sends = refl; shows = refl; ends = refl })

  other : (f : Families) (ws : List Want) (c : Option (Fsm × Fsm)) (u : Turn) → (f ≡ no_families → ⊥)
      → UpdateShown own timer t octets (Applies f) ws c u → ⊥
  other f ws c u differ h =
      not_disabled_so own timer t octets o f are
      (λ is. differ (none_so o.certain o.optional only.none_certain only.none_optional f is)) ws c u h

  by_families : (v4 v6 : Bool) (ws : List Want) (c : Option (Fsm × Fsm)) (u : Turn)
      → UpdateShown own timer t octets (Applies (record { v4 = v4; v6 = v6 })) ws c u → IsStep (changes_of o.changes) one ws c u
  by_families false false ws c u h = is_one.only ws c u h
  by_families true v6 ws c u h =
      absurd (other (record { v4 = true; v6 = v6 }) ws c u (λ e. let k : true ≡ false = ap (λ (v : Families). v.v4) e in cc) h)
  by_families false true ws c u h =
      absurd (other (record { v4 = false; v6 = true }) ws c u (λ e. let k : true ≡ false = ap (λ (v : Families). v.v6) e in cc) h)

  by_row : (row : ReceivedRow) (ws : List Want) (c : Option (Fsm × Fsm)) (u : Turn)
      → UpdateShown own timer t octets row ws c u → IsStep (changes_of o.changes) one ws c u
  by_row NamesFault ws c u h = absurd (without_subcodes own timer t octets o are only.no_reset ws c u h)
  by_row (Applies f) ws c u h = by_families f.v4 f.v6 ws c u h
  by_row Ignores ws c u h = absurd h.0
  by_row Accepts ws c u h = absurd h.0
  by_row Overlooks ws c u h = absurd h.0
  by_row Collides ws c u h = absurd h.0
  by_row Drops ws c u h = absurd h.0
  by_row ReportsError ws c u h = absurd h.0
  by_row Establishes ws c u h = absurd h.0
  by_row Renews ws c u h = absurd h.0

  lists_one : ListsOpenings config (Established own timer) (Received t octets) (changes_of o.changes) (one ∷ [])
  lists_one = record {
    each =
        let is = is_one.is in (
          at_step (λ ws c v. Opens config (Established own timer) (Received t octets) ws c v) (changes_of o.changes) one is.0 is.1 is.2 is.4
              ((Update, Applies no_families, hears, is.3.0), is.3.1),
          tt,
        );
    every = λ left still turn q.
        let same : q.0.0 ≡ Update = one_heard config octets q.0.0 Update q.0.2 hears in
        let is : ReceivedIn (Established own timer) t octets Update q.0.1 left turn =
        subst (λ (v : Heard). ReceivedIn (Established own timer) t octets v q.0.1 left turn) same q.0.3 in
        inl (by_row q.0.1 left still turn (is, q.1));
  }

  pub opens_one : ListsOpenings config (Established own timer) (Received t octets) (changes_value changes) (applies (Established own (renewed timer t)) ∷ [])
  opens_one = subst (λ (v : RouteChanges). ListsOpenings config (Established own timer) (Received t octets) v (one ∷ [])) (ap changes_of only.changes_are) lists_one

-- ---- the words behind it

module _ {X : Type 0} (config : Config) (n : Words) (r : ShownRecord) (head : Head) (changes : Changes X) (fine : AreFine n)
    (a : IsApplied config n r head changes) where
  abbrev base : Base
  base = record { head = n.head; sets = n.sets }

  abbrev next : Words
  next = record n { left = left_of n; sets = no_sets; falls = no_falls }

  abbrev mid : Words
  mid = record next { head = head; wants = Nothing; sets = n.sets }

  mid_is : mid ≡ words_applied n head
  mid_is = λ i. record { shown = n.shown; left = left_of n; head = head; wants = sym a.free.wants_are i; sets = n.sets; falls = no_falls }

  paid : PaidTo config n r next
  paid = subst (λ (v : ShownRecord). PaidTo config n v next) (sym a.received)
      (none_left config n next a.second a.octets refl refl refl refl refl refl)

  lists : ListsOpenings config n.head r (changes_value changes) (applies head ∷ [])
  lists =
      subst (λ (v : Head). ListsOpenings config v r (changes_value changes) (applies head ∷ [])) (sym a.free.head_is)
      (subst (λ (v : ShownRecord). ListsOpenings config (Established a.link a.timer) v (changes_value changes) (applies head ∷ [])) (sym a.received) a.lists)

  not_idle : head ≡ Idle → ⊥
  not_idle e = let k : Established a.link (renewed a.timer a.second) ≡ Idle = sym a.head_is ∙ e in cc

  at_once : is_delayed head ≡ false
  at_once = ap is_delayed a.head_is

  shown_up : n.shown ≡ fsms.Established
  shown_up = sym a.free.base.name ∙ ap fsm_of a.free.head_is

  alive : n.shown ≡ fsms.Idle → ⊥
  alive e = let k : fsms.Established ≡ fsms.Idle = sym shown_up ∙ e in cc

  behind : AreBehind config (undelayed n.head) r next
  behind = paid_behind config n r next base fine paid a.free.base

  by_step : (table : Routes) → AreRoutes table
      → Gains next mid (routes_after (changes_value changes) table) (FromStep base (changes_value changes) table (applies head))
  by_step table are =
      goes_gain config base r (changes_value changes) table (applies head) next n.sets lists.each.0 behind are
      (λ kept up. let k : routes.Given no_families ≡ routes.Kept = kept in let no : ⊥ = cc in absurd no) not_idle at_once
      (λ d. (λ h. inr h, λ p. elim p [ inl z ↦ absurd (holds_none d z) | inr h ↦ h ]))

  by_head : (table : Routes) → AreRoutes table → Gains next mid (routes_after (changes_value changes) table) (FromHead config base r table)
  by_head table are =
      let g = by_step table are in
      head_gains config base r (changes_value changes) table (routes_after (changes_value changes) table) (applies head ∷ []) next mid lists (record {
        only = λ m h. elim (g.only m h) [ inl q ↦ inl q | inr q ↦ inr (inl q) ];
        keeps = g.keeps;
        adds = λ m h. elim h [ inl q ↦ g.adds m q | inr z ↦ absurd z ];
      })

  none_late : silent_heads config n.head ≡ n.head ∷ []
  none_late = subst (λ (v : Head). silent_heads config v ≡ v ∷ []) (sym a.free.head_is) refl

  pub applied_image : (table : Routes) → IsTableOf n table
      → IsImage config r (IsMember n table) (IsMember (words_applied n head) (routes_after (changes_value changes) table))
  applied_image table of =
      let after : Routes = routes_after (changes_value changes) table in
      subst (λ (v : Words). IsImage config r (IsMember n table) (IsMember v after)) mid_is
      (image_some config r n next mid mid table after base paid a.free.base of (by_head table of.are) (gains_no_late config r mid table after base none_late))

  pub applied_shown : n.shown ≡ shown_after n.shown (told r)
  applied_shown = sym (ap (λ (v : ShownRecord). shown_after n.shown (told v)) a.received)

  pub applied_made : AreMade config n r (Some changes)
  applied_made = inr (base, a.free.base, made_at config n.head r (Some changes) (applies head ∷ []) lists (λ is. inl (no_families, refl)))

  pub applied_fine : AreFine (words_applied n head)
  applied_fine = record {
    are_up = λ d on e. let k : fsms.Established ≡ fsms.Idle = sym (ap fsm_of a.head_is) ∙ e in cc;
    undelayed = λ d on. at_once;
    errors = λ has. absurd (none_falls Erred has);
    stay_up = λ d on e. ap fsm_of a.head_is;
  }

  pub applied_some : (table : Routes) → (m : Member) × IsMember (words_applied n head) table m
  applied_some table =
      let d = a.free.base.some in
      (front_member (words_applied n head) table d.0, Front d.0 (goes_where n.shown n.sets d.0 alive d.1) refl)

  -- the table behind it is the one to which the changes are made
  pub applied_behind : (table : Routes) → table_behind n.shown (changes_value changes) table ≡ routes_after (changes_value changes) table
  applied_behind table = ap (λ (v : Fsm). table_behind v (changes_value changes) table) shown_up

-- what is so if there is something is so of what there is
pub some_of : {X : Type 0} (P : X → Type 0) (o : Option X) (x : X) → o ≡ Some x → IfSome o P → P x
some_of P o x e h = subst (λ (v : Option _). IfSome v P) e h
