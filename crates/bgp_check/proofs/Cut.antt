-- Before a record that leaves Idle something is in the fresh state, and owes nothing.
use Rattle.std.proofs.Common.{◌≡◌, ◌≢◌, ◌⊎◌, ℕ, List, [], ◌∷◌, ◌++◌, Option, None, Some, inl, inr, refl, sym, ap, subst, ◌∙◌, append-nil, arith}
use Rattle.bgp_prefix.specs.Shown.{ShownRecord, Received, Sent, Changed}
use Rattle.bgp_open.specs.declared.config.Config.{Config}
use Rattle.bgp_open.specs.declared.link.Link.{Link}
use Rattle.bgp_machine.specs.declared.fsm.Fsm.{Fsm}
use Rattle.bgp_machine.specs.declared.fsm.Fsm.TheVariants as fsms
use Rattle.bgp_machine.specs.declared.state.Head.{Head}
use Rattle.bgp_machine.specs.declared.state.Head.TheVariants.{Idle}
use Rattle.bgp_machine.specs.declared.rows.HiddenRow.{HiddenRow}
use Rattle.bgp_machine.specs.declared.rows.HiddenRow.TheVariants.{Notes}
use Rattle.bgp_machine.specs.declared.want.Want.{Want}
use Rattle.bgp_machine.specs.Owed.{EachOwedCanBeMet}
use Rattle.bgp_machine.specs.Run.{Begins, End, IsComplete, Run, Silent, end_of}
use Rattle.bgp_machine.specs.Shows.{Pays}
use Rattle.bgp_machine.specs.State.{SessionState, Turn, fresh_state, fsm_of, link_at, number_of}
use Rattle.bgp_machine.specs.Step.{HiddenIn, ReceivedIn, changed, hidden_change}
use Rattle.bgp_judge.specs.Member.{Member, IsFree, fresh_member}
use Rattle.bgp_judge.specs.Next.{Next, Opens}
use Rattle.bgp_judge.specs.Told.{EachRunIsAsTold}
use Rattle.bgp_judge.proofs.OneRecordMore.{free_runs, runs_free}
use Rattle.bgp_judge.proofs.Standing.{silent_end}
use Rattle.bgp_machine.proofs.JoinedRuns.{no_steps}
use Rattle.bgp_check.specs.Cut.{CutBegins, LeftEndsInIdle, StretchesBegin, joined}
use Rattle.bgp_check.specs.Stretch.{LeavesIdle}
use Rattle.bgp_check.proofs.Down.{idle_by, received_idle, sent_idle}
use Rattle.bgp_check.proofs.Explaining.{Leads, back, explained, explains, explains_end}
use Rattle.bgp_check.proofs.SameEnds.{told_early, told_end}
use Rattle.bgp_check.proofs.Unopened.{IsEarly}

-- ---- changes that are owed

pair_first : (a b : Fsm) (c : Fsm × Fsm) → Some (a, b) ≡ Some c → c.0 ≡ a
pair_first a b c e = cc

changed_from : (a b : Fsm) (c : Fsm × Fsm) → changed a b ≡ Some c → c.0 ≡ a
changed_from fsms.Idle fsms.Idle c e = absurd (cc)
changed_from fsms.Connect fsms.Connect c e = absurd (cc)
changed_from fsms.Active fsms.Active c e = absurd (cc)
changed_from fsms.OpenSent fsms.OpenSent c e = absurd (cc)
changed_from fsms.OpenConfirm fsms.OpenConfirm c e = absurd (cc)
changed_from fsms.Established fsms.Established c e = absurd (cc)
changed_from a b c e = pair_first a b c e

hidden_from : (row : HiddenRow) (a b : Fsm) (c : Fsm × Fsm) → hidden_change row a b ≡ Some c → c.0 ≡ a
hidden_from Notes a b c e = pair_first a b c e
hidden_from row a b c e = changed_from a b c e

-- no change from Idle is owed
abbrev IsUp : Option (Fsm × Fsm) → Type 0
IsUp change = (c : Fsm × Fsm) → change ≡ Some c → c.0 ≢ fsms.Idle

pays_up : (config : Config) (link : Option Link) (shown : ShownRecord) (wants : List Want) (change : Option (Fsm × Fsm)) (left : List Want)
    (still : Option (Fsm × Fsm)) → IsUp change → Pays config link shown wants change left still → IsUp still
pays_up config link (Received t octets) wants change left still up p = absurd p
pays_up config link (Sent t octets) [] change left still up p = absurd p
pays_up config link (Sent t octets) (want ∷ wants) change left still up p = λ c e. up c (sym p.2 ∙ e)
pays_up config link (Changed t old new) wants None left still up p = absurd p
pays_up config link (Changed t old new) wants (Some change) left still up p = λ c e. absurd (let x = p.3 in let k : ⊥ = cc in k)

up_by : (head : Head) (change : Option (Fsm × Fsm)) → (head ≡ Idle → ⊥) → ((c : Fsm × Fsm) → change ≡ Some c → c.0 ≡ fsm_of head) → IsUp change
up_by head change not_so from = λ c e is. not_so (idle_by head (sym (from c e) ∙ is))

none_up : (change : Option (Fsm × Fsm)) → change ≡ None → IsUp change
none_up change none = λ c e is. absurd (cc)

idle_or_not : (head : Head) → (head ≡ Idle) ⊎ (head ≡ Idle → ⊥)
idle_or_not Idle = inl refl
idle_or_not head = inr (λ e. absurd (cc))

changed_only : (config : Config) (link : Option Link) (t old new : ℕ) (wants : List Want) (change : Option (Fsm × Fsm)) (left : List Want)
    (still : Option (Fsm × Fsm)) → Pays config link (Changed t old new) wants change left still
    → (c : Fsm × Fsm) × (change ≡ Some c) × (old ≡ number_of c.0) × (still ≡ None)
changed_only config link t old new wants None left still p = absurd p
changed_only config link t old new wants (Some c) left still p = (c, refl, p.0, p.3)

opens_up : (config : Config) (head : Head) (shown : ShownRecord) (left : List Want) (still : Option (Fsm × Fsm)) (turn : Turn)
    → Opens config head shown left still turn → IsUp still
opens_up config head (Received t octets) left still turn o = elim (idle_or_not head) [
  | inr up ↦ up_by head still up (λ c e. changed_from (fsm_of head) (fsm_of turn.head) c (sym o.1 ∙ e))
  | inl idle ↦ (
      let down = received_idle t octets o.0.0 o.0.1 left turn (subst (λ (v : Head). ReceivedIn v t octets o.0.0 o.0.1 left turn) idle o.0.3) in
      none_up still (o.1 ∙ ap (λ (v : Head). changed (fsm_of v) (fsm_of turn.head)) idle ∙ ap (λ (v : Head). changed fsms.Idle (fsm_of v)) down)
      )
]
opens_up config head (Sent t octets) left still turn o = elim (idle_or_not head) [
  | inr up ↦ pays_up config (link_at head) (Sent t octets) o.1 o.2 left still
      (up_by head o.2 up (λ c e. hidden_from o.0 (fsm_of head) (fsm_of turn.head) c (sym o.3.1 ∙ e))) o.4
  | inl idle ↦ absurd (sent_idle config (link_at head) t t octets o.0 o.1 o.2 left still turn (subst (λ (v : Head). HiddenIn v config t o.0 o.1 turn) idle o.3.0) o.4)
]
opens_up config head (Changed t old new) left still turn o = none_up still (changed_only config (link_at head) t old new o.1 o.2 left still o.4).3

next_up : (config : Config) (shown : ShownRecord) (m m2 : Member) → IsUp m.change → Next config shown m m2 → IsUp m2.change
next_up config shown m m2 up next = elim next [
  | inl c ↦ pays_up config m.link shown m.wants m.change m2.wants m2.change up c.pays
  | inr s ↦ opens_up config s.before.head shown m2.wants m2.change s.turn s.opens
]

leads_up : (config : Config) (m last : Member) (records : List ShownRecord) → IsUp m.change → Leads config m records last → IsUp last.change
leads_up config m last [] up leads = subst (λ (v : Member). IsUp v.change) leads up
leads_up config m last (r ∷ records) up leads = leads_up config leads.0 last records (next_up config r m leads.0 up leads.1) leads.2

-- ---- before a record that leaves Idle

-- it is in the fresh state, and owes nothing
record IsFresh (m : Member) : Type 0 where
  pub free : IsFree m
  pub state : m.state ≡ fresh_state

idle_number : (f : Fsm) → number_of f ≡ 1 → f ≡ fsms.Idle
idle_number fsms.Idle e = refl
idle_number f e = absurd (omega arith)

-- a step that shows such a record first is one of Idle
opens_idle : (config : Config) (head : Head) (shown : ShownRecord) → LeavesIdle shown → (left : List Want) (still : Option (Fsm × Fsm)) (turn : Turn)
    → Opens config head shown left still turn → fsm_of head ≡ fsms.Idle
opens_idle config head (Received t octets) leaves left still turn o = absurd leaves
opens_idle config head (Sent t octets) leaves left still turn o = absurd leaves
opens_idle config head (Changed t old new) leaves left still turn o =
    let p = changed_only config (link_at head) t old new o.1 o.2 left still o.4 in
    let from = hidden_from o.0 (fsm_of head) (fsm_of turn.head) p.0 (sym o.3.1 ∙ p.1) in
    sym from ∙ idle_number p.0.0 (sym p.2 ∙ leaves.0)

-- and it is none that an earlier step owes
never_owed : (config : Config) (link : Option Link) (shown : ShownRecord) → LeavesIdle shown → (wants : List Want) (change : Option (Fsm × Fsm))
    (left : List Want) (still : Option (Fsm × Fsm)) → IsUp change → ¬ Pays config link shown wants change left still
never_owed config link (Received t octets) leaves wants change left still up p = leaves
never_owed config link (Sent t octets) leaves wants change left still up p = leaves
never_owed config link (Changed t old new) leaves wants change left still up p =
    let c = changed_only config link t old new wants change left still p in
    up c.0 c.1 (idle_number c.0.0 (sym c.2 ∙ leaves.0))

-- the routes of a run that ends in Idle
no_routes_left : EachRunIsAsTold → (config : Config) (records : List ShownRecord) (e : SessionState) → Run config fresh_state records e
    → fsm_of e.head ≡ fsms.Idle → e ≡ fresh_state
no_routes_left law config records e run idle =
    let t = law config records e run in
    let head = idle_by e.head idle in
    let routes = t.none (λ is. let x = t.fsm in absurd (let k : ⊥ = cc in k)) in
    λ i. record { head = head i; routes = routes i }

fresh_before : EachRunIsAsTold → (config : Config) (records : List ShownRecord) (m m2 : Member) (leaving : ShownRecord) → LeavesIdle leaving
    → Leads config fresh_member records m → Next config leaving m m2 → IsFresh m
fresh_before law config records m m2 leaving leaves leads next = elim next [
  | inl c ↦ absurd (never_owed config m.link leaving leaves m.wants m.change m2.wants m2.change
      (leads_up config fresh_member m records (none_up None refl) leads) c.pays)
  | inr s ↦ (
      let run : Run config fresh_state (records ++ []) m.state = free_runs config fresh_member (records ++ []) m.state (refl, refl)
      (back config fresh_member m records [] m.state leads (runs_free config m [] m.state s.free (no_steps config m.state))) in
      let idle = sym (ap (λ (e : End). e.fsm) (silent_end config m.state s.before s.silent)) ∙ opens_idle config s.before.head leaving leaves m2.wants m2.change s.turn s.opens in
      record { free = s.free; state = no_routes_left law config (records ++ []) m.state run idle }
      )
]

-- what the record makes of one that is fresh, it makes of each
from_fresh : (config : Config) (shown : ShownRecord) (m n m2 : Member) → IsFresh m → IsFresh n → Next config shown m m2 → LeavesIdle shown
    → IsUp m.change → Next config shown n m2
from_fresh config shown m n m2 x y next leaves up = elim next [
  | inl c ↦ absurd (never_owed config m.link shown leaves m.wants m.change m2.wants m2.change up c.pays)
  | inr s ↦ inr (record {
    free = y.free;
    before = s.before;
    silent = subst (λ (v : SessionState). Silent config v s.before) (x.state ∙ sym y.state) s.silent;
    turn = s.turn;
    opens = s.opens;
    state = s.state;
    link = s.link;
  })
]

fresh_is : IsFresh fresh_member
fresh_is = record { free = (refl, refl); state = refl }

free_up : (m : Member) → IsFresh m → IsUp m.change
free_up m x = none_up m.change x.free.1

-- ---- lists of records

parts : (config : Config) (m last : Member) (xs ys : List ShownRecord) → Leads config m (xs ++ ys) last → (n : Member) × Leads config m xs n × Leads config n ys last
parts config m last [] ys leads = (m, refl, leads)
parts config m last (x ∷ xs) ys leads = let z = parts config leads.0 last xs ys leads.2 in (z.0, (leads.0, leads.1, z.1), z.2)

whole : (config : Config) (m n last : Member) (xs ys : List ShownRecord) → Leads config m xs n → Leads config n ys last → Leads config m (xs ++ ys) last
whole config m n last [] ys p q = subst (λ (v : Member). Leads config v ys last) (sym p) q
whole config m n last (x ∷ xs) ys p q = (p.0, p.1, whole config p.0 n last xs ys p.2 q)

-- records that can end in Idle end in no other way
one_end : EachRunIsAsTold → (config : Config) (records : List ShownRecord) (idle end : End) → idle.fsm ≡ fsms.Idle
    → IsComplete config records idle → IsComplete config records end → end ≡ idle
one_end law config records idle end is x y =
    let early = told_early law config records idle x (subst (λ (v : Fsm). IsEarly v) (sym is) tt) in
    told_end law config records end early y ∙ sym (told_end law config records idle early x)

-- ---- the laws

pub cut : EachOwedCanBeMet → EachRunIsAsTold → CutBegins
cut met law config before leaving after leaves = (
  λ b.
      let x = explained config (before ++ leaving ∷ after) b in
      let z = parts config fresh_member x.0 before (leaving ∷ after) x.1 in
      let n = z.2 in
      let fresh = fresh_before law config before z.0 n.0 leaving leaves z.1 n.1 in (
        explains met config (before ++ leaving ∷ []) n.0 (whole config fresh_member z.0 n.0 before (leaving ∷ []) z.1 (n.0, n.1, refl)),
        explains met config (leaving ∷ after) x.0 (n.0, from_fresh config leaving z.0 fresh_member n.0 fresh fresh_is n.1 leaves (free_up z.0 fresh), n.2),
      ),
  λ both.
      let x = explained config (before ++ leaving ∷ []) both.0 in
      let y = explained config (leaving ∷ after) both.1 in
      let z = parts config fresh_member x.0 before (leaving ∷ []) x.1 in
      let fresh = fresh_before law config before z.0 z.2.0 leaving leaves z.1 z.2.1 in
      let n = y.1 in
      explains met config (before ++ leaving ∷ after) y.0
      (whole config fresh_member z.0 y.0 before (leaving ∷ after) z.1
      (n.0, from_fresh config leaving fresh_member z.0 n.0 fresh_is fresh n.1 leaves (none_up None refl), n.2)),
)

pub left_ends : EachRunIsAsTold → LeftEndsInIdle
left_ends law config records leaving end leaves b =
    let x = explained config (records ++ leaving ∷ []) b in
    let z = parts config fresh_member x.0 records (leaving ∷ []) x.1 in
    let fresh = fresh_before law config records z.0 z.2.0 leaving leaves z.1 z.2.1 in
    let idle = explains_end config records (end_of fresh_state) z.0 z.1 fresh.free (ap end_of fresh.state) in
    (λ c. one_end law config records (end_of fresh_state) end refl idle c, λ is. subst (λ (v : End). IsComplete config records v) (sym is) idle)

none_begins : (config : Config) → Begins config []
none_begins config = ([], fresh_state, no_steps config fresh_state)

pub stretches : CutBegins → StretchesBegin
stretches law config [] are = (λ b. tt, λ x. none_begins config)
stretches law config ([] ∷ others) are = absurd are.0
stretches law config ((r ∷ records) ∷ []) are = (
  λ b. subst (λ (v : List ShownRecord). Begins config v) (append-nil (r ∷ records)) b,
  λ b. subst (λ (v : List ShownRecord). Begins config v) (sym (append-nil (r ∷ records))) b,
)
stretches law config ((r ∷ records) ∷ [] ∷ others) are = absurd are.1.0
stretches law config ((r ∷ records) ∷ (first ∷ next) ∷ others) are =
    let k = law config (r ∷ records) first (next ++ joined others) are.1.0.0 in
    let z = stretches law config ((first ∷ next) ∷ others) are.1 in
    (λ b. let x = k.0 b in (x.0, z.0 x.1), λ b. k.1 (b.0, z.1 b.1))
