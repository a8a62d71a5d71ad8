-- Chains of the judge's members that lead to Established: the routes at last are those that the
-- messages received allow, and each of these is reached.
use Rattle.std.proofs.Common.{◌≡◌, ◌∙◌, ℕ, List, [], ◌∷◌, Option, None, Some, inl, inr, refl, sym, ap, subst}
use Rattle.std.specs.List.{AllByRecursion}
use Rattle.bgp_prefix.specs.Shown.{ShownRecord, Received, Sent, Changed, second_of}
use Rattle.bgp_open.specs.declared.config.Config.{Config}
use Rattle.bgp_open.specs.declared.link.Link.{Link}
use Rattle.bgp_rib.specs.Routes.{Routes, no_routes}
use Rattle.bgp_machine.specs.declared.fsm.Fsm.{Fsm}
use Rattle.bgp_machine.specs.declared.fsm.Fsm.TheVariants as fsms
use Rattle.bgp_machine.specs.declared.hearing.Heard.{Heard}
use Rattle.bgp_machine.specs.declared.rows.HiddenRow.{HiddenRow}
use Rattle.bgp_machine.specs.declared.rows.HiddenRow.TheVariants.{Starts as RowStarts, Listens, Notes}
use Rattle.bgp_machine.specs.declared.rows.ReceivedRow.{ReceivedRow}
use Rattle.bgp_machine.specs.declared.rows.ReceivedRow.TheVariants.{Ignores}
use Rattle.bgp_machine.specs.declared.state.Head.{Head}
use Rattle.bgp_machine.specs.declared.state.Head.TheVariants.{Idle, Connect, Active, OpenSent, OpenConfirm, Established}
use Rattle.bgp_machine.specs.declared.want.Want.{Want}
use Rattle.bgp_machine.specs.Run.{Silent}
use Rattle.bgp_machine.specs.Rows.{silent_heads}
use Rattle.bgp_machine.specs.Lists.{Each, Has}
use Rattle.bgp_machine.specs.Shows.{Pays}
use Rattle.bgp_machine.specs.State.{Kept, RoutesTurn, SessionState, Turn, fsm_of, moved, routes_by}
use Rattle.bgp_machine.specs.Step.{HiddenIn, ReceivedIn, hidden_change}
use Rattle.bgp_machine.proofs.Quiet.{lists_silent, quiet}
use Rattle.bgp_judge.specs.Chains.{Reaches, with_routes}
use Rattle.bgp_judge.specs.Member.{Member, fresh_member}
use Rattle.bgp_judge.specs.Next.{Continues, Next, Opens, Starts}
use Rattle.bgp_judge.specs.Openings.{IsOwn}
use Rattle.bgp_judge.proofs.KeptSteps.{own_opens}
use Rattle.bgp_way_ends.proofs.Hearing.{Hears1, MayHave, goes, heard_step}
use Rattle.bgp_way_ends.proofs.Phases.{Before, Down, IsUp, Phase, Stays, hidden_stays, phase_of, quiet_phase}

-- ---- silence

pub of_each : (P : Head → Type 0) (hs : List Head) (h : Head) → Each P hs → Has (λ x. x ≡ h) hs → P h
of_each P [] h each has = absurd has
of_each P (x ∷ hs) h each has = elim has [ inl e ↦ subst P e each.0 | inr k ↦ of_each P hs h each.1 k ]

-- silence leads to the same heads with other routes
pub silent_with : (config : Config) (s e : SessionState) (routes : Routes) → Silent config s e → Silent config (record s { routes = routes }) (record e { routes = routes })
silent_with config s e routes silent =
    let q = quiet config silent.steps s e silent.are_steps silent.shows in
    of_each (λ h. Silent config (record s { routes = routes }) (record { head = h; routes = routes })) (silent_heads config s.head) e.head
    (lists_silent config s.head routes).each q.1

pub silent_phase : (config : Config) (s e : SessionState) → Silent config s e → phase_of e.head ≡ phase_of s.head
silent_phase config s e silent = quiet_phase config s.head e.head (quiet config silent.steps s e silent.are_steps silent.shows).1

silent_routes : (config : Config) (s e : SessionState) → Silent config s e → e.routes ≡ s.routes
silent_routes config s e silent = (quiet config silent.steps s e silent.are_steps silent.shows).0

-- ---- heads by their phases

pub down_head : (h : Head) → phase_of h ≡ Down → h ≡ Idle
down_head Idle e = refl
down_head (Connect delay) e = absurd (let k : ⊥ = cc in k)
down_head (Active delay) e = absurd (let k : ⊥ = cc in k)
down_head (OpenSent timer) e = absurd (let k : ⊥ = cc in k)
down_head (OpenConfirm link timer) e = absurd (let k : ⊥ = cc in k)
down_head (Established link timer) e = absurd (let k : ⊥ = cc in k)

pub idle_head : (h : Head) → fsm_of h ≡ fsms.Idle → h ≡ Idle
idle_head Idle e = refl
idle_head (Connect delay) e = absurd (let k : ⊥ = cc in k)
idle_head (Active delay) e = absurd (let k : ⊥ = cc in k)
idle_head (OpenSent timer) e = absurd (let k : ⊥ = cc in k)
idle_head (OpenConfirm link timer) e = absurd (let k : ⊥ = cc in k)
idle_head (Established link timer) e = absurd (let k : ⊥ = cc in k)

-- a head in the phase of one that isn't Idle isn't
pub up_by_phase : (h g : Head) → phase_of h ≡ phase_of g → IsUp g → IsUp h
up_by_phase h g same up idle =
    let down : phase_of g ≡ Down = sym same ∙ ap phase_of (idle_head h idle) in
    up (ap fsm_of (down_head g down))

-- ---- one record

abbrev Then : Config → Member → Routes → List (List ℕ) → Routes → Type 0
Then config m routes os last = MayHave config (phase_of m.state.head) routes os last

-- with these messages still to be received before the record, and those after it
record Steps1 (config : Config) (shown : ShownRecord) (m m2 : Member) (before after : List (List ℕ)) : Type 0 where
  pub back : (last : Routes) → Then config m2 m2.state.routes after last → Then config m m.state.routes before last
  pub on : (routes last : Routes) → Then config m routes before last
      → (others : Routes) × Next config shown (with_routes routes m) (with_routes others m2) × Then config m2 others after last

moved_may : (config : Config) (os : List (List ℕ)) (last : Routes) (p q : Phase) (r s : Routes) → p ≡ q → r ≡ s → MayHave config p r os last → MayHave config q s os last
moved_may config os last p q r s phase routes h =
    subst (λ (v : Phase). MayHave config v s os last) phase (subst (λ (v : Routes). MayHave config p v os last) routes h)

module _ (config : Config) (shown : ShownRecord) (m m2 : Member) where
  -- the state stays as it is
  continued : (os : List (List ℕ)) → Continues config shown m m2 → Steps1 config shown m m2 os os
  continued os c = record {
    back = λ last h. moved_may config os last (phase_of m2.state.head) (phase_of m.state.head) m2.state.routes m.state.routes
        (ap (λ (s : SessionState). phase_of s.head) c.state) (ap (λ (s : SessionState). s.routes) c.state) h;
    on = λ routes last h. (
      routes,
      inl (record { pays = c.pays; state = ap (λ (s : SessionState). record s { routes = routes }) c.state; link = c.link }),
      moved_may config os last (phase_of m.state.head) (phase_of m2.state.head) routes routes (sym (ap (λ (s : SessionState). phase_of s.head) c.state)) refl h,
    );
  }

  module _ (s : Starts config shown m m2) where
    start_phase : phase_of s.before.head ≡ phase_of m.state.head
    start_phase = silent_phase config m.state s.before s.silent

    start_routes : s.before.routes ≡ m.state.routes
    start_routes = silent_routes config m.state s.before s.silent

    end_head : m2.state.head ≡ s.turn.head
    end_head = ap (λ (v : SessionState). v.head) s.state

    end_routes : m2.state.routes ≡ routes_by s.turn.routes s.before.routes
    end_routes = ap (λ (v : SessionState). v.routes) s.state

    -- the step from other routes, ending with a turn that leads to the same head
    other_state : (routes : Routes) (other : Turn) → other.head ≡ s.turn.head
        → record { head = m2.state.head; routes = routes_by other.routes routes } ≡ moved (record s.before { routes = routes }) other
    other_state routes other same i = record { head = (end_head ∙ sym same) i; routes = routes_by other.routes routes }

    -- one of the local system's own steps
    own_step : (os : List (List ℕ)) → IsOwn shown → IsUp m.state.head → IsUp m2.state.head → Steps1 config shown m m2 os os
    own_step os own up0 up =
        let before_up : IsUp s.before.head = up_by_phase s.before.head m.state.head start_phase up0 in
        let turn_up : IsUp s.turn.head = subst IsUp end_head up in
        let k = own_opens config s.before.head shown m2.wants m2.change s.turn own s.opens in
        let stay : Stays s.before.head s.turn = hidden_stays config s.before.head (second_of shown) k.0 k.1 s.turn before_up turn_up k.3.0 in
        let phase : phase_of m2.state.head ≡ phase_of m.state.head = ap phase_of end_head ∙ stay.phase ∙ start_phase in
        let routes_kept : m2.state.routes ≡ m.state.routes = end_routes ∙ ap (λ (r : RoutesTurn). routes_by r s.before.routes) stay.routes ∙ start_routes in
        record {
          back = λ last h. moved_may config os last (phase_of m2.state.head) (phase_of m.state.head) m2.state.routes m.state.routes phase routes_kept h;
          on = λ routes last h. (
            routes,
            inr (record {
              free = s.free;
              before = record s.before { routes = routes };
              silent = silent_with config m.state s.before routes s.silent;
              turn = s.turn;
              opens = s.opens;
              state = ap (λ (r : Routes). record { head = m2.state.head; routes = r }) (sym (ap (λ (r : RoutesTurn). routes_by r routes) stay.routes)) ∙ other_state routes s.turn refl;
              link = s.link;
            }),
            moved_may config os last (phase_of m.state.head) (phase_of m2.state.head) routes routes (sym phase) refl h,
          );
        }

-- a received message
module _ (config : Config) (t : ℕ) (octets : List ℕ) (os : List (List ℕ)) (m m2 : Member) (s : Starts config (Received t octets) m m2) where
  heard_one : IsUp m.state.head → IsUp m2.state.head → Steps1 config (Received t octets) m m2 (octets ∷ os) os
  heard_one up0 up =
      let before_up : IsUp s.before.head = up_by_phase s.before.head m.state.head (start_phase config (Received t octets) m m2 s) up0 in
      let turn_up : IsUp s.turn.head = subst IsUp (end_head config (Received t octets) m m2 s) up in
      let row = s.opens.0 in
      let x : Heard = row.0 in
      let step : Hears1 config s.before.head t octets os m2.wants m2.change s.turn =
      heard_step config s.before.head t octets os x m2.wants m2.change s.turn s.opens row.2
      (goes s.before.head t octets x row.1 m2.wants s.turn before_up turn_up row.3) in
      let phase0 = start_phase config (Received t octets) m m2 s in
      let phase1 : phase_of m2.state.head ≡ phase_of s.turn.head = ap phase_of (end_head config (Received t octets) m m2 s) in
      record {
        back = λ last h. moved_may config (octets ∷ os) last (phase_of s.before.head) (phase_of m.state.head) s.before.routes m.state.routes phase0
            (start_routes config (Received t octets) m m2 s)
            (step.back s.before.routes last
            (moved_may config os last (phase_of m2.state.head) (phase_of s.turn.head) m2.state.routes (routes_by s.turn.routes s.before.routes) phase1
            (end_routes config (Received t octets) m m2 s) h));
        on = λ routes last h.
            let k = step.on routes last (moved_may config (octets ∷ os) last (phase_of m.state.head) (phase_of s.before.head) routes routes (sym phase0) refl h) in
            let other : Turn = k.0 in (
              routes_by other.routes routes,
              inr (record {
                free = s.free;
                before = record s.before { routes = routes };
                silent = silent_with config m.state s.before routes s.silent;
                turn = other;
                opens = k.1;
                state = other_state config (Received t octets) m m2 s routes other k.2;
                link = s.link;
              }),
              moved_may config os last (phase_of s.turn.head) (phase_of m2.state.head) (routes_by other.routes routes) (routes_by other.routes routes) (sym phase1) refl k.3,
            );
      }

-- ---- records

-- the messages received, in order
abbrev pub heard_in : List ShownRecord → List (List ℕ)
heard_in [] = []
heard_in (Received t octets ∷ records) = octets ∷ heard_in records
heard_in (Sent t octets ∷ records) = heard_in records
heard_in (Changed t old new ∷ records) = heard_in records

-- it is no change from Idle
abbrev pub LeavesNoIdle : ShownRecord → Type 0
LeavesNoIdle (Received t octets) = Unit {0}
LeavesNoIdle (Sent t octets) = Unit {0}
LeavesNoIdle (Changed t old new) = old ≡ 1 → ⊥

one_record : (config : Config) (shown : ShownRecord) (m m2 : Member) (records : List ShownRecord) → Next config shown m m2 → IsUp m.state.head → IsUp m2.state.head
    → Steps1 config shown m m2 (heard_in (shown ∷ records)) (heard_in records)
one_record config (Received t octets) m m2 records (inl c) up0 up = absurd c.pays
one_record config (Received t octets) m m2 records (inr s) up0 up = heard_one config t octets (heard_in records) m m2 s up0 up
one_record config (Sent t octets) m m2 records (inl c) up0 up = continued config (Sent t octets) m m2 (heard_in records) c
one_record config (Sent t octets) m m2 records (inr s) up0 up = own_step config (Sent t octets) m m2 s (heard_in records) tt up0 up
one_record config (Changed t old new) m m2 records (inl c) up0 up = continued config (Changed t old new) m m2 (heard_in records) c
one_record config (Changed t old new) m m2 records (inr s) up0 up = own_step config (Changed t old new) m m2 s (heard_in records) tt up0 up

-- ---- from Idle nothing leads on but a change from Idle

idle_received : (t : ℕ) (octets : List ℕ) (x : Heard) (row : ReceivedRow) (wants : List Want) (turn : Turn) → ReceivedIn Idle t octets x row wants turn
    → fsm_of turn.head ≡ fsms.Idle
idle_received t octets x Ignores wants turn r = ap (λ (u : Turn). fsm_of u.head) r.1
idle_received t octets x row wants turn r = absurd r

no_change : (config : Config) (link : Option Link) (t old new : ℕ) (wants : List Want) (change : Option (Fsm × Fsm)) (next : Fsm) (left : List Want) (still : Option (Fsm × Fsm))
    → (old ≡ 1 → ⊥) → change ≡ Some (fsms.Idle, next) → Pays config link (Changed t old new) wants change left still → ⊥
no_change config link t old new wants change next left still other e pays =
    other (subst (λ (c : Option (Fsm × Fsm)). Pays config link (Changed t old new) wants c left still) e pays).0

no_message : (config : Config) (link : Option Link) (t : ℕ) (octets : List ℕ) (wants : List Want) (change : Option (Fsm × Fsm)) (left : List Want) (still : Option (Fsm × Fsm))
    → wants ≡ [] → Pays config link (Sent t octets) wants change left still → ⊥
no_message config link t octets wants change left still e pays =
    subst (λ (ws : List Want). Pays config link (Sent t octets) ws change left still) e pays

-- which change such a step shows
idle_change : (config : Config) (t : ℕ) (row : HiddenRow) (wants : List Want) (turn : Turn) → HiddenIn Idle config t row wants turn
    → (wants ≡ []) × ((next : Fsm) × (hidden_change row fsms.Idle (fsm_of turn.head) ≡ Some (fsms.Idle, next)))
idle_change config t RowStarts wants turn r = (r.0, (fsms.Connect, ap (λ (u : Turn). hidden_change RowStarts fsms.Idle (fsm_of u.head)) r.1))
idle_change config t Listens wants turn r = (r.0, (fsms.Active, ap (λ (u : Turn). hidden_change Listens fsms.Idle (fsm_of u.head)) r.1))
idle_change config t Notes wants turn r = (r.0, (fsm_of turn.head, refl))
idle_change config t row wants turn r = absurd r

pub idle_own : (config : Config) (shown : ShownRecord) (row : HiddenRow) (wants : List Want) (change : Option (Fsm × Fsm)) (turn : Turn) (left : List Want) (still : Option (Fsm × Fsm))
    → IsOwn shown → LeavesNoIdle shown → HiddenIn Idle config (second_of shown) row wants turn → change ≡ hidden_change row fsms.Idle (fsm_of turn.head)
    → Pays config None shown wants change left still → ⊥
idle_own config (Received t octets) row wants change turn left still own fine r is pays = own
idle_own config (Sent t octets) row wants change turn left still own fine r is pays =
    no_message config None t octets wants change left still (idle_change config t row wants turn r).0 pays
idle_own config (Changed t old new) row wants change turn left still own fine r is pays =
    let k = idle_change config t row wants turn r in
    no_change config None t old new wants change k.1.0 left still fine (is ∙ k.1.1) pays

-- from Idle
abbrev FromIdle : Config → ShownRecord → Member → Head → Turn → Type 0
FromIdle config shown m2 head turn = Opens config head shown m2.wants m2.change turn

idle_opens : (config : Config) (shown : ShownRecord) (m2 : Member) (turn : Turn) → LeavesNoIdle shown → FromIdle config shown m2 Idle turn → fsm_of turn.head ≡ fsms.Idle
idle_opens config (Received t octets) m2 turn fine o = idle_received t octets o.0.0 o.0.1 m2.wants turn o.0.3
idle_opens config (Sent t octets) m2 turn fine o = absurd (idle_own config (Sent t octets) o.0 o.1 o.2 turn m2.wants m2.change tt fine o.3.0 o.3.1 o.4)
idle_opens config (Changed t old new) m2 turn fine o = absurd (idle_own config (Changed t old new) o.0 o.1 o.2 turn m2.wants m2.change tt fine o.3.0 o.3.1 o.4)

pub idle_next : (config : Config) (shown : ShownRecord) (m m2 : Member) → LeavesNoIdle shown → fsm_of m.state.head ≡ fsms.Idle → Next config shown m m2
    → fsm_of m2.state.head ≡ fsms.Idle
idle_next config shown m m2 fine idle (inl c) = ap (λ (v : SessionState). fsm_of v.head) c.state ∙ idle
idle_next config shown m m2 fine idle (inr s) =
    let down : phase_of s.before.head ≡ Down = silent_phase config m.state s.before s.silent ∙ ap phase_of (idle_head m.state.head idle) in
    let head : s.before.head ≡ Idle = down_head s.before.head down in
    ap (λ (v : SessionState). fsm_of v.head) s.state
    ∙ idle_opens config shown m2 s.turn fine (subst (λ (h : Head). FromIdle config shown m2 h s.turn) head s.opens)

pub idle_stays : (config : Config) (records : List ShownRecord) (m last : Member) → AllByRecursion LeavesNoIdle records → fsm_of m.state.head ≡ fsms.Idle
    → Reaches config m records last → fsm_of last.state.head ≡ fsms.Idle
idle_stays config [] m last fine idle e = sym (ap (λ (v : Member). fsm_of v.state.head) e) ∙ idle
idle_stays config (shown ∷ records) m last fine idle k =
    idle_stays config records k.0 last fine.1 (idle_next config shown m k.0 fine.0 idle k.1) k.2

-- ---- chains

pub chain_back : (config : Config) (records : List ShownRecord) (m last : Member) (routes : Routes) → AllByRecursion LeavesNoIdle records → IsUp m.state.head
    → IsUp last.state.head → Reaches config m records last → Then config last last.state.routes [] routes → Then config m m.state.routes (heard_in records) routes
chain_back config [] m last routes fine up0 up e h = subst (λ (v : Member). Then config v v.state.routes [] routes) (sym e) h
chain_back config (shown ∷ records) m last routes fine up0 up k h =
    let mid : Member = k.0 in
    let mid_up : IsUp mid.state.head = λ idle. up (idle_stays config records mid last fine.1 idle k.2) in
    (one_record config shown m mid records k.1 up0 mid_up).back routes (chain_back config records mid last routes fine.1 mid_up up k.2 h)

pub chain_on : (config : Config) (records : List ShownRecord) (m last : Member) (routes final : Routes) → AllByRecursion LeavesNoIdle records → IsUp m.state.head
    → IsUp last.state.head → Reaches config m records last → Then config m routes (heard_in records) final
    → (others : Routes) × Reaches config (with_routes routes m) records (with_routes others last) × Then config last others [] final
chain_on config [] m last routes final fine up0 up e h =
    (routes, ap (with_routes routes) e, subst (λ (v : Member). Then config v routes [] final) e h)
chain_on config (shown ∷ records) m last routes final fine up0 up k h =
    let mid : Member = k.0 in
    let mid_up : IsUp mid.state.head = λ idle. up (idle_stays config records mid last fine.1 idle k.2) in
    let one = (one_record config shown m mid records k.1 up0 mid_up).on routes final h in
    let rest = chain_on config records mid last one.0 final fine.1 mid_up up k.2 one.2 in
    (rest.0, (with_routes one.0 mid, one.1, rest.1), rest.2)

-- ---- the first record

-- a session begins before the peer's OPEN, and its routes stay
opened : (config : Config) (t : ℕ) (row : HiddenRow) (wants : List Want) (turn : Turn) → IsUp turn.head → HiddenIn Idle config t row wants turn
    → (phase_of turn.head ≡ Before) × (turn.routes ≡ Kept)
opened config t RowStarts wants turn up r = (ap (λ (u : Turn). phase_of u.head) r.1, ap (λ (u : Turn). u.routes) r.1)
opened config t Listens wants turn up r = (ap (λ (u : Turn). phase_of u.head) r.1, ap (λ (u : Turn). u.routes) r.1)
opened config t Notes wants turn up r = absurd (up (ap (λ (u : Turn). fsm_of u.head) r.1))
opened config t row wants turn up r = absurd r

pub first_up : (config : Config) (t new : ℕ) (m : Member) → Next config (Changed t 1 new) fresh_member m → IsUp m.state.head
    → (phase_of m.state.head ≡ Before) × (m.state.routes ≡ no_routes)
first_up config t new m (inl c) up = absurd c.pays
first_up config t new m (inr s) up =
    let head : s.before.head ≡ Idle = down_head s.before.head (silent_phase config fresh_member.state s.before s.silent) in
    let o = subst (λ (h : Head). FromIdle config (Changed t 1 new) m h s.turn) head s.opens in
    let turn_up : IsUp s.turn.head = subst IsUp (ap (λ (v : SessionState). v.head) s.state) up in
    let k = opened config t o.0 o.1 s.turn turn_up o.3.0 in (
      ap (λ (v : SessionState). phase_of v.head) s.state ∙ k.0,
      ap (λ (v : SessionState). v.routes) s.state ∙ ap (λ (r : RoutesTurn). routes_by r s.before.routes) k.1 ∙ silent_routes config fresh_member.state s.before s.silent,
    )
