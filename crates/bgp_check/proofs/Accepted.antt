-- An OPEN that is valid under both, before the local system's own is sent: both fall, or owe that one from then on.
use Rattle.std.proofs.Common.{◌≡◌, ◌⊎◌, ℕ, List, [], ◌∷◌, Option, None, Some, inl, inr, refl, sym, ap, subst, ◌∙◌}
use Rattle.bgp_prefix.specs.Shown.{ShownRecord, Received, Sent, Changed}
use Rattle.bgp_open.specs.declared.config.Config.{Config}
use Rattle.bgp_open.specs.declared.link.Link.{Link}
use Rattle.bgp_open.specs.declared.subcodes.OpenSubcodes.{OpenSubcodes}
use Rattle.bgp_open.specs.Link.{link_of}
use Rattle.bgp_open.specs.Open.{open_of}
use Rattle.bgp_open.specs.OpenSubcodes.{IsValid}
use Rattle.bgp_machine.specs.declared.fsm.Fsm.{Fsm}
use Rattle.bgp_machine.specs.declared.state.Head.{Head}
use Rattle.bgp_machine.specs.declared.state.Head.TheVariants.{Idle, Connect, Active, OpenSent, OpenConfirm, Established}
use Rattle.bgp_machine.specs.declared.hearing.Heard.{Heard}
use Rattle.bgp_machine.specs.declared.hearing.Heard.TheVariants.{ValidOpen}
use Rattle.bgp_machine.specs.declared.rows.ReceivedRow.{ReceivedRow}
use Rattle.bgp_machine.specs.declared.rows.ReceivedRow.TheVariants.{Ignores, Accepts, Drops, NamesFault}
use Rattle.bgp_machine.specs.declared.want.Want.{Want}
use Rattle.bgp_machine.specs.declared.want.Want.TheVariants.{OwnOpen, KeepAlive}
use Rattle.bgp_machine.specs.Heard.{Announces, Hears}
use Rattle.bgp_machine.specs.Lists.{Each}
use Rattle.bgp_machine.specs.Shows.{Pays}
use Rattle.bgp_machine.specs.State.{SessionState, Turn, enters, falls, fsm_of, link_at, moved, settled}
use Rattle.bgp_machine.specs.Step.{ReceivedIn, changed}
use Rattle.bgp_machine.proofs.OneHearing.{one_heard}
use Rattle.bgp_judge.specs.Member.{Member, IsFree, link_for}
use Rattle.bgp_judge.specs.Next.{Next}
use Rattle.bgp_parts.specs.Opens.{HasPeersOpen, SendsNoOpen}
use Rattle.bgp_check.proofs.AnotherRuns.{Behind, LeadsToo, announced, announces, behind, down_leads}
use Rattle.bgp_check.proofs.Down.{NearMember, NearWants, owed}
use Rattle.bgp_check.proofs.EachHeard.{hears_valid}
use Rattle.bgp_check.proofs.Explaining.{Leads}
use Rattle.bgp_check.proofs.Refused.{FaultsToo, IsWithin}
use Rattle.bgp_check.proofs.Similar.{IsSimilar, PaysToo, announces_similar, next_similar, silent_similar}
use Rattle.bgp_check.proofs.Unopened.{IsEarly, IsUnopened, early_before, early_if_free, next_unopened, pays_without, still_owes}

-- ---- what owes the local system's OPEN stays so

pub record AreStuck (m n : Member) : Type 0 where
  pub others : List Want
  pub first : m.wants ≡ OwnOpen ∷ others
  pub second : n.wants ≡ OwnOpen ∷ others
  pub change : n.change ≡ m.change

never_free : (m : Member) (others : List Want) → m.wants ≡ OwnOpen ∷ others → ¬ IsFree m
never_free m others is free = let x = free.0 in let k : ⊥ = cc in k

record StuckPay (config : Config) (link : Option Link) (shown : ShownRecord) (others : List Want) (change still : Option (Fsm × Fsm)) : Type 0 where
  pub pays : Pays config link shown (OwnOpen ∷ others) change (OwnOpen ∷ others) still

stuck_pay : (one other : Config) (link link2 : Option Link) (shown : ShownRecord) → SendsNoOpen shown → (others : List Want)
    (change : Option (Fsm × Fsm)) (left : List Want) (still : Option (Fsm × Fsm)) → Pays one link shown (OwnOpen ∷ others) change left still
    → StuckPay other link2 shown others change still
stuck_pay one other link link2 (Received t octets) none others change left still p = absurd p
stuck_pay one other link link2 (Sent t octets) none others change left still p = absurd (none p.0.fulfils.form)
stuck_pay one other link link2 (Changed t old new) none others None left still p = absurd p
stuck_pay one other link link2 (Changed t old new) none others (Some change) left still p = record { pays = (p.0, p.1, refl, p.3) }

stuck_next : (one other : Config) (shown : ShownRecord) → SendsNoOpen shown → (m n m2 : Member) → AreStuck m n → Next one shown m m2
    → (n2 : Member) × Next other shown n n2 × AreStuck m2 n2
stuck_next one other shown none m n m2 s next = elim next [
  | inl c ↦ (
      let p = subst (λ (v : List Want). Pays one m.link shown v m.change m2.wants m2.change) s.first c.pays in
      let k = stuck_pay one other m.link n.link shown none s.others m.change m2.wants m2.change p in (
        record { state = n.state; link = n.link; wants = OwnOpen ∷ s.others; change = m2.change },
        inl (record {
          pays = subst (λ (v : List Want). Pays other n.link shown v n.change (OwnOpen ∷ s.others) m2.change) (sym s.second)
              (subst (λ (v : Option (Fsm × Fsm)). Pays other n.link shown (OwnOpen ∷ s.others) v (OwnOpen ∷ s.others) m2.change) (sym s.change) k.pays);
          state = refl;
          link = refl;
        }),
        record { others = s.others; first = still_owes one shown none m.link s.others m.change m2.wants m2.change p; second = refl; change = refl },
      )
      )
  | inr x ↦ absurd (never_free m s.others s.first x.free)
]

stuck_leads : (one other : Config) (m n last : Member) (records : List ShownRecord) → Each SendsNoOpen records → AreStuck m n → Leads one m records last
    → LeadsToo other n records last
stuck_leads one other m n last [] none s leads =
    record { member = n; leads = refl; same = λ free. absurd (never_free m s.others s.first (subst (λ (v : Member). IsFree v) (sym leads) free)) }
stuck_leads one other m n last (r ∷ records) none s leads =
    let k = stuck_next one other r none.0 m n leads.0 s leads.1 in
    let z = stuck_leads one other leads.0 k.0 last records none.1 k.2 leads.2 in
    record { member = z.member; leads = (k.0, k.1, z.leads); same = z.same }

-- ---- the OPEN itself

-- both accept it, or both fall
abbrev Way : OpenSubcodes → OpenSubcodes → List Want → List Want → Turn → Turn → Type 0
Way e1 e2 wants others turn turn2 =
    ((turn2 ≡ turn) × NearWants e1 e2 wants others × (turn.head ≡ Idle))
    ⊎ ((ws : List Want) × (wants ≡ OwnOpen ∷ ws) × (others ≡ OwnOpen ∷ ws))

record ValidRow (l2 : Link) (e1 e2 : OpenSubcodes) (head : Head) (t : ℕ) (octets : List ℕ) (row : ReceivedRow) (wants : List Want) (turn : Turn)
    : Type 0 where
  pub others : List Want
  pub turn2 : Turn
  pub does : ReceivedIn head t octets (ValidOpen l2 e2) row others turn2
  pub name : fsm_of turn2.head ≡ fsm_of turn.head
  pub way : Way e1 e2 wants others turn turn2

head_by : (turn x : Turn) → turn ≡ x → x.head ≡ Idle → turn.head ≡ Idle
head_by turn x is down = ap (λ (v : Turn). v.head) is ∙ down

name_by : (turn x : Turn) (y : Head) → turn ≡ x → fsm_of y ≡ fsm_of x.head → fsm_of y ≡ fsm_of turn.head
name_by turn x y is same = same ∙ sym (ap (λ (v : Turn). fsm_of v.head) is)

valid_row : (l1 l2 : Link) (e1 e2 : OpenSubcodes) (head : Head) (t : ℕ) (octets : List ℕ) (row : ReceivedRow) (wants : List Want) (turn : Turn)
    → IsEarly (fsm_of head) → ReceivedIn head t octets (ValidOpen l1 e1) row wants turn → ValidRow l2 e1 e2 head t octets row wants turn
valid_row l1 l2 e1 e2 Idle t octets Ignores wants turn early r =
    record { others = wants; turn2 = turn; does = r; name = refl; way = inl (refl, inl refl, head_by turn (enters Idle) r.1 refl) }
valid_row l1 l2 e1 e2 (Connect d) t octets Accepts wants turn early r =
    record { others = OwnOpen ∷ KeepAlive ∷ []; turn2 = enters (OpenConfirm l2 (settled l2 t)); does = (r.0, refl, refl); name = name_by turn (enters (OpenConfirm l1 (settled l1 t))) (OpenConfirm l2 (settled l2 t)) r.2 refl; way = inr (KeepAlive ∷ [], r.1, refl) }
valid_row l1 l2 e1 e2 (Connect d) t octets Drops wants turn early r =
    record { others = wants; turn2 = turn; does = r; name = refl; way = inl (refl, inl refl, head_by turn falls r.1 refl) }
valid_row l1 l2 e1 e2 (Connect d) t octets NamesFault wants turn early r =
    record { others = owed e2; turn2 = turn; does = (refl, r.1); name = refl; way = inl (refl, inr (r.0, refl), head_by turn falls r.1 refl) }
valid_row l1 l2 e1 e2 (Active d) t octets Accepts wants turn early r =
    record { others = OwnOpen ∷ KeepAlive ∷ []; turn2 = enters (OpenConfirm l2 (settled l2 t)); does = (r.0, refl, refl); name = name_by turn (enters (OpenConfirm l1 (settled l1 t))) (OpenConfirm l2 (settled l2 t)) r.2 refl; way = inr (KeepAlive ∷ [], r.1, refl) }
valid_row l1 l2 e1 e2 (Active d) t octets Drops wants turn early r =
    record { others = wants; turn2 = turn; does = r; name = refl; way = inl (refl, inl refl, head_by turn falls r.1 refl) }
valid_row l1 l2 e1 e2 (Active d) t octets NamesFault wants turn early r =
    record { others = owed e2; turn2 = turn; does = (refl, r.1); name = refl; way = inl (refl, inr (r.0, refl), head_by turn falls r.1 refl) }
valid_row l1 l2 e1 e2 (OpenSent k) t octets row wants turn early r = absurd early
valid_row l1 l2 e1 e2 (OpenConfirm l k) t octets row wants turn early r = absurd early
valid_row l1 l2 e1 e2 (Established l k) t octets row wants turn early r = absurd early
valid_row l1 l2 e1 e2 head t octets row wants turn early r = absurd r

-- it is valid under both, and each fault for which the first may refuse it is one for the second
pub record TakeBoth (one other : Config) (octets : List ℕ) : Type 0 where
  pub first : IsValid one octets
  pub second : IsValid other octets
  pub faults : FaultsToo one other octets

record HearBoth (one other : Config) (octets : List ℕ) : Type 0 where
  pub l1 : Link
  pub l2 : Link
  pub e1 : OpenSubcodes
  pub e2 : OpenSubcodes
  pub first : Hears one octets (ValidOpen l1 e1)
  pub second : Hears other octets (ValidOpen l2 e2)
  pub within : IsWithin e1 e2

hear_both : (one other : Config) (octets : List ℕ) → Announces one 1 octets → Announces other 1 octets → TakeBoth one other octets
    → HearBoth one other octets
hear_both one other octets announcing others take =
    let x = hears_valid one octets announcing take.first in
    let y = hears_valid other octets others take.second in
    record {
      l1 = link_of one (open_of octets);
      l2 = link_of other (open_of octets);
      e1 = x.0;
      e2 = y.0;
      first = x.1;
      second = y.1;
      within = λ n d named. (y.1.3 n d).1 (take.faults n d ((x.1.3 n d).0 named));
    }

-- after it
abbrev Behaves : OpenSubcodes → OpenSubcodes → Member → Member → Type 0
Behaves e1 e2 m n = (NearMember e1 e2 m n × (m.state.head ≡ Idle)) ⊎ AreStuck m n

link_still : (e1 e2 : OpenSubcodes) (wants others : List Want) (link : Option Link) → NearWants e1 e2 wants others → link_for others link ≡ link_for wants link
link_still e1 e2 wants others link near = elim near [
  | inl p ↦ ap (λ (v : List Want). link_for v link) p
  | inr p ↦ ap (λ (v : List Want). link_for v link) p.1 ∙ sym (ap (λ (v : List Want). link_for v link) p.0)
]

valid_next : (one other : Config) → IsSimilar one other → (t : ℕ) (octets : List ℕ) (h : HearBoth one other octets) (m m2 : Member) → IsUnopened m
    → Next one (Received t octets) m m2 → (n : Member) × Next other (Received t octets) m n × Behaves h.e1 h.e2 m2 n
valid_next one other a t octets h m m2 u next = elim next [
  | inl c ↦ absurd c.pays
  | inr s ↦ (
      let o = s.opens in
      let is : o.0.0 ≡ ValidOpen h.l1 h.e1 = one_heard one octets o.0.0 (ValidOpen h.l1 h.e1) o.0.2 h.first in
      let k = valid_row h.l1 h.l2 h.e1 h.e2 s.before.head t octets o.0.1 m2.wants s.turn (early_before one m.state s.before (early_if_free m s.free u) s.silent)
      (subst (λ (v : Heard). ReceivedIn s.before.head t octets v o.0.1 m2.wants s.turn) is o.0.3) in
      let n : Member = record { state = moved s.before k.turn2; link = link_for k.others (link_at s.before.head); wants = k.others; change = m2.change } in
      let behaves : Behaves h.e1 h.e2 m2 n = elim k.way [
        | inl down ↦ inl (
          record {
            state = ap (λ (v : Turn). moved s.before v) down.0 ∙ sym s.state;
            link = link_still h.e1 h.e2 m2.wants k.others (link_at s.before.head) down.1 ∙ sym s.link;
            wants = down.1;
            change = refl;
          },
          ap (λ (v : SessionState). v.head) s.state ∙ down.2,
        )
        | inr stuck ↦ inr (record { others = stuck.0; first = stuck.1; second = stuck.2; change = refl })
      ] in (
        n,
        inr (record {
          free = s.free;
          before = s.before;
          silent = silent_similar one other a m.state s.before s.silent;
          turn = k.turn2;
          opens = ((ValidOpen h.l2 h.e2, o.0.1, h.second, k.does), o.1 ∙ sym (ap (λ (v : Fsm). changed (fsm_of s.before.head) v) k.name));
          state = refl;
          link = refl;
        }),
        behaves,
      )
      )
]

-- ---- the records

abbrev pub TakeIt : Config → Config → Option (List ℕ) → Type 0
TakeIt one other None = ⊥
TakeIt one other (Some octets) = TakeBoth one other octets

each_without : (one other : Config) (records : List ShownRecord) → Each SendsNoOpen records → Each (PaysToo one other) records
each_without one other [] none = tt
each_without one other (r ∷ records) none =
    (λ link wants change left still p. pays_without one other r none.0 link wants change left still p, each_without one other records none.1)

pub each_pays_without : (one other : Config) (records : List ShownRecord) → Each SendsNoOpen records → Each (PaysToo one other) records
each_pays_without one other records none = each_without one other records none

pub takes_too : (one other : Config) → IsSimilar one other → (peers : Option (List ℕ)) → TakeIt one other peers → (m last : Member)
    (records : List ShownRecord) → Each SendsNoOpen records → IsUnopened m → Behind records → HasPeersOpen records peers
    → Leads one m records last → LeadsToo other m records last
takes_too one other a peers take m last [] none u stay first leads = record { member = last; leads = leads; same = λ free. refl }
takes_too one other a peers take m last (Received t octets ∷ records) none u stay first leads = elim first [
  | inl is ↦ (
      let announcing = announced one octets is.0 in
      let both = subst (λ (v : Option (List ℕ)). TakeIt one other v) is.1 take in
      let h = hear_both one other octets announcing (announces_similar one other a 1 octets announcing) both in
      let k = valid_next one other a t octets h m leads.0 u leads.1 in
      let z : LeadsToo other k.0 records last = elim k.2 [
        | inl down ↦ down_leads one other a h.e1 h.e2 h.within leads.0 k.0 last records (each_without one other records none.1) down.0 down.1 stay leads.2
        | inr stuck ↦ stuck_leads one other leads.0 k.0 last records none.1 stuck leads.2
      ] in
      record { member = z.member; leads = (k.0, k.1, z.leads); same = z.same }
      )
  | inr later ↦ (
      let z = takes_too one other a peers take leads.0 last records none.1 (next_unopened one (Received t octets) none.0 m leads.0 u leads.1) (behind records stay) later.1 leads.2 in
      let pays : PaysToo one other (Received t octets) = pays_without one other (Received t octets) none.0 in
      record {
        member = z.member;
        leads = (leads.0, next_similar one other a (Received t octets) (λ is. later.0 (announces one octets is)) pays m leads.0 leads.1, z.leads);
        same = z.same;
      }
      )
]
takes_too one other a peers take m last (Sent t octets ∷ records) none u stay first leads =
    let z = takes_too one other a peers take leads.0 last records none.1 (next_unopened one (Sent t octets) none.0 m leads.0 u leads.1) (behind records stay) first leads.2 in
    let pays : PaysToo one other (Sent t octets) = pays_without one other (Sent t octets) none.0 in
    record { member = z.member; leads = (leads.0, next_similar one other a (Sent t octets) (λ h. h) pays m leads.0 leads.1, z.leads); same = z.same }
takes_too one other a peers take m last (Changed t old new ∷ records) none u stay first leads =
    let z = takes_too one other a peers take leads.0 last records none.1 (next_unopened one (Changed t old new) none.0 m leads.0 u leads.1) (behind records stay) first leads.2 in
    let pays : PaysToo one other (Changed t old new) = pays_without one other (Changed t old new) none.0 in
    record { member = z.member; leads = (leads.0, next_similar one other a (Changed t old new) (λ h. h) pays m leads.0 leads.1, z.leads); same = z.same }
