-- A stretch in which the peer's OPEN has to be refused ends in Idle: so under any other configuration, too.
use Rattle.std.proofs.Common.{◌≡◌, ◌≢◌, ◌↔◌, Bool, false, IsTrue, ℕ, List, [], ◌∷◌, Option, None, Some, inl, inr, refl, sym, ap, subst, ◌∙◌}
use Rattle.bgp_prefix.specs.Shown.{ShownRecord, Received, Sent, Changed}
use Rattle.bgp_open.specs.OpenSubcodes.{IsValid}
use Rattle.bgp_open.specs.declared.config.Config.{Config}
use Rattle.bgp_open.specs.declared.subcodes.OpenSubcodes.{OpenSubcodes}
use Rattle.bgp_rib.specs.Routes.{no_routes}
use Rattle.bgp_machine.specs.declared.fsm.Fsm.{Fsm}
use Rattle.bgp_machine.specs.declared.fsm.Fsm.TheVariants as fsms
use Rattle.bgp_machine.specs.declared.rows.HiddenRow.{HiddenRow}
use Rattle.bgp_machine.specs.declared.rows.HiddenRow.TheVariants.{Starts, Listens, Notes}
use Rattle.bgp_machine.specs.declared.state.Head.{Head}
use Rattle.bgp_machine.specs.declared.state.Head.TheVariants.{Idle}
use Rattle.bgp_machine.specs.declared.want.Want.{Want}
use Rattle.bgp_machine.specs.Lists.{Each}
use Rattle.bgp_machine.specs.Run.{End, IsComplete}
use Rattle.bgp_machine.specs.State.{SessionState, Turn, fsm_of}
use Rattle.bgp_machine.specs.Step.{HiddenIn, ReceivedIn}
use Rattle.bgp_judge.specs.Member.{Member, fresh_member}
use Rattle.bgp_judge.specs.Next.{Next, Opens}
use Rattle.bgp_judge.specs.Told.{EachRunIsAsTold, told}
use Rattle.bgp_check.specs.Alike.{AreAlike}
use Rattle.bgp_check.specs.Another.{WantsAnother}
use Rattle.bgp_check.specs.Ends.{SameEnds, SameEndsWithout}
use Rattle.bgp_parts.specs.Opens.{HasPeersOpen}
use Rattle.bgp_check.specs.Stretch.{AtMostTheLastLeaves, IsStretch}
use Rattle.bgp_check.specs.Widest.{IsWidest}
use Rattle.bgp_check.specs.Without.{FaultsIt}
use Rattle.bgp_check.proofs.Accepted.{each_pays_without}
use Rattle.bgp_check.proofs.AnotherRuns.{Behind, announced, behind, complete_too, leads_too}
use Rattle.bgp_check.proofs.Down.{down_next, received_idle, refused_next, still_idle}
use Rattle.bgp_check.proofs.EachHeard.{hears_refused}
use Rattle.bgp_check.proofs.Explaining.{Leads, explained_end}
use Rattle.bgp_check.proofs.OtherParts.{pays_alike}
use Rattle.bgp_check.proofs.Refused.{not_valid}
use Rattle.bgp_check.proofs.SameOpen.{alike_of}
use Rattle.bgp_check.proofs.Similar.{IsSimilar, PaysToo}
use Rattle.bgp_check.proofs.Unopened.{IsEarly}

-- ---- under the one that refuses it

at : (turn x : Turn) → turn ≡ x → IsEarly (fsm_of x.head) → IsEarly (fsm_of turn.head)
at turn x is early = subst (λ (v : Turn). IsEarly (fsm_of v.head)) (sym is) early

hidden_of_idle : (config : Config) (t : ℕ) (row : HiddenRow) (wants : List Want) (turn : Turn) → HiddenIn Idle config t row wants turn
    → IsEarly (fsm_of turn.head)
hidden_of_idle config t Starts wants turn h = at turn _ h.1 tt
hidden_of_idle config t Listens wants turn h = at turn _ h.1 tt
hidden_of_idle config t Notes wants turn h = at turn _ h.1 tt
hidden_of_idle config t row wants turn h = absurd h

opens_of_idle : (config : Config) (head : Head) → head ≡ Idle → (shown : ShownRecord) (left : List Want) (still : Option (Fsm × Fsm)) (turn : Turn)
    → Opens config head shown left still turn → IsEarly (fsm_of turn.head)
opens_of_idle config head idle (Received t octets) left still turn o =
    subst (λ (v : Head). IsEarly (fsm_of v)) (sym (received_idle t octets o.0.0 o.0.1 left turn (subst (λ (v : Head). ReceivedIn v t octets o.0.0 o.0.1 left turn) idle o.0.3))) tt
opens_of_idle config head idle (Sent t octets) left still turn o =
    hidden_of_idle config t o.0 o.1 turn (subst (λ (v : Head). HiddenIn v config t o.0 o.1 turn) idle o.3.0)
opens_of_idle config head idle (Changed t old new) left still turn o =
    hidden_of_idle config t o.0 o.1 turn (subst (λ (v : Head). HiddenIn v config t o.0 o.1 turn) idle o.3.0)

next_of_idle : (config : Config) (shown : ShownRecord) (m m2 : Member) → m.state.head ≡ Idle → Next config shown m m2 → IsEarly (fsm_of m2.state.head)
next_of_idle config shown m m2 idle next = elim next [
  | inl c ↦ subst (λ (v : Head). IsEarly (fsm_of v)) (sym (ap (λ (s : SessionState). s.head) c.state ∙ idle)) tt
  | inr s ↦ subst (λ (v : SessionState). IsEarly (fsm_of v.head)) (sym s.state)
      (opens_of_idle config s.before.head (still_idle config m.state s.before idle s.silent) shown m2.wants m2.change s.turn s.opens)
]

nothing : OpenSubcodes
nothing = record { unspecific = false; version = false; peer_as = false; identifier = false; parameter = false; hold = false; capability = false; role = false }

idle_leads : (config : Config) (m last : Member) (records : List ShownRecord) → m.state.head ≡ Idle → AtMostTheLastLeaves records
    → Leads config m records last → IsEarly (fsm_of last.state.head)
idle_leads config m last [] idle stay leads =
    subst (λ (v : Member). IsEarly (fsm_of v.state.head)) leads (subst (λ (v : Head). IsEarly (fsm_of v)) (sym idle) tt)
idle_leads config m last (r ∷ []) idle stay leads =
    subst (λ (v : Member). IsEarly (fsm_of v.state.head)) leads.2 (next_of_idle config r m leads.0 idle leads.1)
idle_leads config m last (r ∷ next ∷ records) idle stay leads =
    let k = down_next config config refl nothing nothing (λ n d x. x) r (λ link wants change left still p. p) m m leads.0
    (record { state = refl; link = refl; wants = inl refl; change = refl }) idle leads.1 in
    idle_leads config leads.0 last (next ∷ records) (k.stays stay.0) stay.1 leads.2

some_same : (a b : List ℕ) → Some a ≡ Some b → a ≡ b
some_same a b e = cc

refused_leads : (config : Config) (octets : List ℕ) → ¬ IsValid config octets → (peers : Option (List ℕ)) → peers ≡ Some octets → (m last : Member)
    (records : List ShownRecord) → Behind records → HasPeersOpen records peers → Leads config m records last
    → IsEarly (fsm_of last.state.head)
refused_leads config octets invalid peers is m last [] stay first leads = absurd (let k : ⊥ = cc in k)
refused_leads config octets invalid peers is m last (Received t message ∷ records) stay first leads = elim first [
  | inl this ↦ (
      let bad = subst (λ (v : List ℕ). ¬ IsValid config v) (some_same octets message (sym is ∙ this.1)) invalid in
      let h = hears_refused config message (announced config message this.0) bad in
      let k = refused_next config config refl t message h.0 h.0 (record { first = h.1; second = h.1; within = λ n d x. x }) m leads.0 leads.1 in
      idle_leads config leads.0 last records k.3 stay leads.2
      )
  | inr later ↦ refused_leads config octets invalid peers is leads.0 last records (behind records stay) later.1 leads.2
]
refused_leads config octets invalid peers is m last (Sent t message ∷ records) stay first leads =
    refused_leads config octets invalid peers is leads.0 last records (behind records stay) first leads.2
refused_leads config octets invalid peers is m last (Changed t old new ∷ records) stay first leads =
    refused_leads config octets invalid peers is leads.0 last records (behind records stay) first leads.2

-- ---- ends as the records tell them

pub told_end : EachRunIsAsTold → (config : Config) (records : List ShownRecord) (end : End) → (told records).fsm ≢ fsms.Established
    → IsComplete config records end → end ≡ record { fsm = (told records).fsm; routes = no_routes }
told_end law config records end not_so c =
    let t = law config records c.0 c.1 in
    let fsm = t.fsm in
    let routes = t.none not_so in
    sym c.2 ∙ (λ i. record { fsm = fsm i; routes = routes i })

never_established : (f : Fsm) → IsEarly f → f ≢ fsms.Established
never_established fsms.Idle early e = absurd (cc)
never_established fsms.Connect early e = absurd (cc)
never_established fsms.Active early e = absurd (cc)
never_established f early e = absurd early

-- the state that is told where something ends early
pub told_early : EachRunIsAsTold → (config : Config) (records : List ShownRecord) (end : End) → IsComplete config records end → IsEarly end.fsm
    → (told records).fsm ≢ fsms.Established
told_early law config records end c early =
    let t = law config records c.0 c.1 in
    let is : end.fsm ≡ (told records).fsm = sym (ap (λ (e : End). e.fsm) c.2) ∙ t.fsm in
    never_established (told records).fsm (subst (λ (v : Fsm). IsEarly v) is early)

-- both can end: so each end of the one is one of the other
alike_ends : EachRunIsAsTold → (a b : Config) (records : List ShownRecord) (one other end : End) → (told records).fsm ≢ fsms.Established
    → IsComplete a records one → IsComplete b records other → IsComplete a records end → IsComplete b records end
alike_ends law a b records one other end not_so x y c =
    subst (λ (v : End). IsComplete b records v) (told_end law b records other not_so y ∙ sym (told_end law a records end not_so c)) y

refused_end : (b : Config) (octets : List ℕ) → ¬ IsValid b octets → (records : List ShownRecord) (end : End) → IsStretch records
    → HasPeersOpen records (Some octets) → IsComplete b records end → IsEarly end.fsm
refused_end b octets invalid [] end stretch first c = absurd stretch
refused_end b octets invalid (r ∷ records) end stretch first c =
    let m = explained_end b (r ∷ records) end c in
    subst (λ (v : Fsm). IsEarly v) (ap (λ (e : End). e.fsm) m.3)
    (refused_leads b octets invalid (Some octets) refl fresh_member m.0 (r ∷ records) stretch.1 first m.1)

-- where none is received, all are alike
none_received : (a b : Config) → IsSimilar a b → (records : List ShownRecord) (end : End) → Each (PaysToo a b) records → IsStretch records
    → HasPeersOpen records None → IsComplete a records end → IsComplete b records end
none_received a b similar [] end pays stretch first c = absurd stretch
none_received a b similar (r ∷ records) end pays stretch first c =
    let m = explained_end a (r ∷ records) end c in
    complete_too b (r ∷ records) end m.0 m.2 m.3 (leads_too a b similar None tt fresh_member m.0 (r ∷ records) pays stretch.1 first m.1)

-- the second refuses the peer's OPEN, if there is one
abbrev Refuses : Config → Option (List ℕ) → Type 0
Refuses config None = Unit {0}
Refuses config (Some octets) = ¬ IsValid config octets

same_ends : EachRunIsAsTold → (a b : Config) → IsSimilar a b → IsSimilar b a → (peers : Option (List ℕ)) → Refuses b peers → (records : List ShownRecord)
    (one other end : End) → Each (PaysToo a b) records → Each (PaysToo b a) records → IsStretch records
    → HasPeersOpen records peers → IsComplete a records one
    → IsComplete b records other → IsComplete a records end ↔ IsComplete b records end
same_ends law a b similar back None refuses records one other end pays pays_back stretch first x y = (
  none_received a b similar records end pays stretch first,
  none_received b a back records end pays_back stretch first,
)
same_ends law a b similar back (Some octets) refuses records one other end pays pays_back stretch first x y =
    let early = told_early law b records other y (refused_end b octets refuses records other stretch first y) in
    (alike_ends law a b records one other end early x y, alike_ends law b a records other one end early y x)

-- ---- the laws

refuses_another : (config : Config) (peers : Option (List ℕ)) → WantsAnother config peers → Refuses config peers
refuses_another config None w = tt
refuses_another config (Some octets) w = not_valid config octets w

refuses_faulty : (config : Config) (peers : Option (List ℕ)) → FaultsIt config peers → Refuses config peers
refuses_faulty config None f = tt
refuses_faulty config (Some octets) f = not_valid config octets (λ readable. (f readable).0)

true_same : (a b : Bool) → IsTrue a → IsTrue b → b ≡ a
true_same a b x y = cc

-- widest configurations of one end differ in what no waiting looks at
similar_widest : (a b : Config) → b.parts.session ≡ a.parts.session → IsWidest a → IsWidest b → IsSimilar a b
similar_widest a b session x y =
    let delay = true_same a.parts.delay_open b.parts.delay_open x.delay y.delay in
    let large = y.hold ∙ sym x.hold in
    λ i. record b.parts { delay_open = delay i; large_hold = large i; session = session i }

each_pays : (one other : Config) → AreAlike one other → (records : List ShownRecord) → Each (PaysToo one other) records
each_pays one other same [] = tt
each_pays one other same (r ∷ records) =
    (λ link wants change left still p. pays_alike one other same link r wants change left still p, each_pays one other same records)

pub own_ends : EachRunIsAsTold → SameEnds
own_ends law session own peers a b records one other end of of_b widest widest_b wants stretch first x y =
    same_ends law a b (similar_widest a b (of_b.0 ∙ sym of.0) widest widest_b)
    (similar_widest b a (of.0 ∙ sym of_b.0) widest_b widest) peers (refuses_another b peers wants) records one other end
    (each_pays a b (alike_of session own a b of of_b) records) (each_pays b a (alike_of session own b a of_b of) records) stretch
    first x y

pub without_ends : EachRunIsAsTold → SameEndsWithout
without_ends law session peers a b records one other end is is_b widest widest_b faults stretch none first x y =
    same_ends law a b (similar_widest a b (is_b.0 ∙ sym is.0) widest widest_b) (similar_widest b a (is.0 ∙ sym is_b.0) widest_b widest) peers
    (refuses_faulty b peers faults) records one other end (each_pays_without a b records none) (each_pays_without b a records none) stretch
    first x y
