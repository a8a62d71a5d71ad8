-- Where memory may be refused.
use Rattle.std.proofs.Common.{◌≡◌, inl, inr, ℕ, List, Option, None, Some, Result, Ok, Err, refl, sym, subst, ◌∙◌}
use Rattle.std.specs.Prelude.{IsSome, OnErr}
use Rattle.bgp_prefix.specs.Shown.{ShownRecord, Received, Sent, Changed}
use Rattle.bgp_open.specs.declared.config.Config.{Config}
use Rattle.bgp_open.specs.declared.link.Link.{Link}
use Rattle.bgp_update.specs.declared.outcomes.Changes.{Changes}
use Rattle.bgp_update.specs.Changes.{RouteChanges}
use Rattle.bgp_update.specs.Outcome.{IsOnlyReset}
use Rattle.bgp_update.proofs.Exits.{not_only}
use Rattle.bgp_machine.specs.declared.fsm.Fsm.TheVariants as fsms
use Rattle.bgp_machine.specs.declared.state.Head.{Head}
use Rattle.bgp_machine.specs.declared.state.Head.TheVariants.{Idle, Connect, Active, OpenSent, OpenConfirm, Established}
use Rattle.bgp_machine.specs.Listed.{TakesMemory as HeadTakesMemory, changes_of}
use Rattle.bgp_machine.specs.Run.{End, IsComplete}
use Rattle.bgp_machine.specs.State.{fsm_of, link_at}
use Rattle.bgp_rib.specs.Routes.{Routes}
use Rattle.bgp_judge.specs.Next.{Opens}
use Rattle.bgp_judge.specs.Openings.{ListTakesMemory}
use Rattle.bgp_judge.specs.Told.{Told, link_told, told}
use Rattle.bgp_compact.specs.declared.words.Words.{Words}
use Rattle.bgp_compact.specs.Memory.{BaseTakesMemory, TakesMemory}
use Rattle.bgp_compact.specs.Standing.{Stands}
use Rattle.bgp_compact.specs.Steps.{AreMade}
use Rattle.bgp_compact.specs.Table.{MayApply}
use Rattle.bgp_compact.proofs.Making.{base_ends, opened_outcome, told_link}
use Rattle.bgp_compact.proofs.Ways.{given_then, hidden_gives, up_head}

-- ---- what holds anyway

pub on_err : {T E : Type 0} (P : Type 0) (r : Result T E) → P → OnErr r P
on_err P (Ok x) p = tt
on_err P (Err e) p = p

-- ---- the steps of a base

-- in a state that isn't Established no list takes memory
pub late_takes_none : (head : Head) (r : ShownRecord) → (fsm_of head ≡ fsms.Established → ⊥) → ListTakesMemory head r → ⊥
late_takes_none Idle (Received u octets) down takes = takes
late_takes_none (Connect d) (Received u octets) down takes = takes
late_takes_none (Active d) (Received u octets) down takes = takes
late_takes_none (OpenSent timer) (Received u octets) down takes = takes
late_takes_none (OpenConfirm own timer) (Received u octets) down takes = takes
late_takes_none (Established own timer) (Received u octets) down takes = down refl
late_takes_none head (Sent u octets) down takes = takes
late_takes_none head (Changed u x y) down takes = takes

-- what the list takes memory for is what was told
takes_as_told : (config : Config) (t : Told) (P : Type 0) (head : Head) (octets : List ℕ) → fsm_of head ≡ t.fsm → ((own : Link) → link_at head ≡ Some own → own ≡ link_told config t)
    → P → HeadTakesMemory head octets → (t.fsm ≡ fsms.Established) × (¬ IsOnlyReset (link_told config t) octets) × P
takes_as_told config t P Idle octets name linked ends takes = absurd takes
takes_as_told config t P (Connect d) octets name linked ends takes = absurd takes
takes_as_told config t P (Active d) octets name linked ends takes = absurd takes
takes_as_told config t P (OpenSent timer) octets name linked ends takes = absurd takes
takes_as_told config t P (OpenConfirm own timer) octets name linked ends takes = absurd takes
takes_as_told config t P (Established own timer) octets name linked ends takes =
    (sym name, subst (λ (v : Link). ¬ IsOnlyReset v octets) (linked own refl) takes, ends)

pub base_takes : (config : Config) (words : Words) (table : Routes) (records : List ShownRecord) (r : ShownRecord) → Stands config words table records → BaseTakesMemory words r
    → TakesMemory config records r
base_takes config words table records (Received u octets) stands takes =
    takes_as_told config (told records) ((e : End) × IsComplete config records e) takes.0.head octets (takes.1.name ∙ stands.shown_is)
    (λ own e. told_link config words table records takes.0 own stands.stand stands.is_table takes.1 e)
    (base_ends config words table records takes.0 stands.stand stands.is_table takes.1) takes.2
base_takes config words table records (Sent u octets) stands takes = takes.2
base_takes config words table records (Changed u x y) stands takes = takes.2

-- ---- the changes of an UPDATE

applied_not_only : (config : Config) (link : Link) (octets : List ℕ) (changes : RouteChanges) → MayApply config link octets changes → ¬ IsOnlyReset link octets
applied_not_only config link octets changes may = elim may.2 [
  | inl bad ↦ absurd bad.1
  | inr by ↦ not_only link octets by.0 by.1 by.2.0
]

none_given : {X : Type 0} (given : Option (Changes X)) → given ≡ None → IsSome given → ⊥
none_given None e is = let k : ⊥ = cc in k
none_given (Some c) e is = let k : ⊥ = cc in k

pub changes_take : {X : Type 0} (config : Config) (words : Words) (table : Routes) (records : List ShownRecord) (r : ShownRecord) (given : Option (Changes X))
    → Stands config words table records → AreMade config words r given → IsSome given → TakesMemory config records r
changes_take config words table records (Received u octets) given stands made is = elim made [
  | inl none ↦ absurd (none_given given none.1 is)
  | inr k ↦
      let x = k.2.some is in
      let up = (given_then config k.0.head (Received u octets) x.0 x.0 x.1 x.1 x.2 x.2 (changes_of given) x.3 x.4 x.5).0 in
      let h = up_head k.0.head up in
      let may : MayApply config h.0 octets (changes_of given) =
      opened_outcome config h.0 h.1 u octets x.0 x.1 x.2 (changes_of given) x.3 (subst (λ (v : Head). Opens config v (Received u octets) x.0 x.1 x.2) h.2 x.4) x.5 in
      takes_as_told config (told records) ((e : End) × IsComplete config records e) k.0.head octets (k.1.name ∙ stands.shown_is)
      (λ own e. told_link config words table records k.0 own stands.stand stands.is_table k.1 e)
      (base_ends config words table records k.0 stands.stand stands.is_table k.1)
      (subst (λ (v : Head). HeadTakesMemory v octets) (sym h.2) (applied_not_only config h.0 octets (changes_of given) may))
]
changes_take config words table records (Sent u octets) given stands made is = elim made [
  | inl none ↦ absurd (none_given given none.1 is)
  | inr k ↦ let x = k.2.some is in absurd (hidden_gives config k.0.head (Sent u octets) x.0 x.1 x.2 (changes_of given) x.3 x.4 x.5)
]
changes_take config words table records (Changed u a b) given stands made is = elim made [
  | inl none ↦ absurd (none_given given none.1 is)
  | inr k ↦ let x = k.2.some is in absurd (hidden_gives config k.0.head (Changed u a b) x.0 x.1 x.2 (changes_of given) x.3 x.4 x.5)
]
