-- Whole ways of an exchange that end in one state end alike.
use Rattle.std.proofs.Common.{◌≡◌, ◌⊎◌, ◌∙◌, ◌++◌, ℕ, Bool, true, false, List, [], ◌∷◌, Option, None, Some, inl, inr, refl, sym, ap, ap₂, subst, map}
use Rattle.std.specs.List.{AllByRecursion}
use Rattle.bgp_prefix.specs.Shown as shown
use Rattle.bgp_prefix.specs.Shown.{ShownRecord}
use Rattle.bgp_open.specs.declared.config.Config.{Config}
use Rattle.bgp_open.specs.declared.link.Link.{Link}
use Rattle.bgp_rib.specs.Routes.{Routes, no_routes}
use Rattle.bgp_machine.specs.declared.fsm.Fsm.{Fsm}
use Rattle.bgp_machine.specs.declared.fsm.Fsm.TheVariants as fsms
use Rattle.bgp_machine.specs.declared.state.Head.{Head}
use Rattle.bgp_machine.specs.declared.state.Head.TheVariants.{Idle, Connect, Active, OpenSent, OpenConfirm, Established}
use Rattle.bgp_machine.specs.Lists.{Has}
use Rattle.bgp_machine.specs.Run.{End, IsComplete}
use Rattle.bgp_machine.specs.State.{fsm_of}
use Rattle.bgp_recording.specs.declared.message.Message.{Message}
use Rattle.bgp_recording.specs.declared.standing.Before.{Before as Standing}
use Rattle.bgp_recording.specs.declared.standing.Before.TheVariants.{Other}
use Rattle.bgp_recording.specs.declared.state.State.{State}
use Rattle.bgp_recording.specs.declared.state.State.TheVariants as states
use Rattle.bgp_recording.specs.Allowed.{Ended, Received, Sent, received_in, sent_in}
use Rattle.bgp_recording.specs.Changes.{are_left, is_answered_before_open, just_received, just_sent, led_by_end, led_by_left, led_by_received, led_by_sent, state_then}
use Rattle.bgp_recording.specs.States.{state_number}
use Rattle.bgp_recording.specs.Tells.{Event, Passed, items_in}
use Rattle.bgp_judge.specs.Chains.{EndsByChains, Reaches, with_routes}
use Rattle.bgp_judge.specs.Member.{IsFree, Member, fresh_member}
use Rattle.bgp_judge.specs.Next.{Next}
use Rattle.bgp_judge.specs.Told.{EachRunIsAsTold, told}
use Rattle.bgp_orders.specs.Entries.{EntriesShowTheWay}
use Rattle.bgp_orders.specs.Nodes.{WholeIsReached}
use Rattle.bgp_orders.specs.Ways.{changed_to, records_in, records_of_way, state_after_end}
use Rattle.bgp_way_ends.specs.WayEnds.{EndsSo, EntriesTellAllEnds, OneWayForEachState, OneWayTellsAllEnds, WholeWay, WholeWaysEndAlike}
use Rattle.bgp_way_ends.proofs.Chains.{LeavesNoIdle, chain_back, chain_on, first_up, heard_in, idle_stays}
use Rattle.bgp_way_ends.proofs.Hearing.{MayHave}
use Rattle.bgp_way_ends.proofs.Phases.{Before, IsUp, Phase, Up, phase_of}

-- ---- the records of a way leave Idle no more

abbrev pub Fine : List ShownRecord → Type 0
Fine records = AllByRecursion LeavesNoIdle records

both_fine : (xs ys : List ShownRecord) → Fine xs → Fine ys → Fine (xs ++ ys)
both_fine [] ys fx fy = fy
both_fine (x ∷ xs) ys fx fy = (fx.0, both_fine xs ys fx.1 fy)

pub idle_state : (state : State) → state_number state ≡ 1 → state ≡ states.Idle
idle_state states.Idle e = refl
idle_state states.Connect e = absurd (let k : ⊥ = cc in k)
idle_state states.Active e = absurd (let k : ⊥ = cc in k)
idle_state states.OpenSent e = absurd (let k : ⊥ = cc in k)
idle_state states.OpenConfirm e = absurd (let k : ⊥ = cc in k)
idle_state states.Established e = absurd (let k : ⊥ = cc in k)

none_some : (state : State) → Some state ≡ None → ⊥
none_some state e = cc

change_fine : (second : ℕ) (state : State) (led : Option State) → (state ≡ states.Idle → led ≡ None) → Fine (changed_to second state led)
change_fine second state None none = tt
change_fine second state (Some led) none = (λ e. none_some led (none (idle_state state e)), tt)

-- the change after the end
left_fine : (second : ℕ) (state : State) (left : Bool) → Fine (changed_to second (state_then state (led_by_end state)) (led_by_left state left))
left_fine second states.Idle left = tt
left_fine second states.Connect left = tt
left_fine second states.Active left = tt
left_fine second states.OpenSent true = (λ e. (let k : ⊥ = cc in k), tt)
left_fine second states.OpenSent false = tt
left_fine second states.OpenConfirm left = tt
left_fine second states.Established left = tt

pub fine_in : (state : State) (before : Standing) (events later : List Event) → Fine (records_in state before events later)
fine_in state before [] later = tt
fine_in state before (Passed second (Received m) ∷ front) later =
    let answered = is_answered_before_open m.kind (sent_in (items_in (front ++ later))) in
    let led = led_by_received state m.kind answered in (
      tt,
      both_fine (changed_to second state led) (records_in (state_then state led) (just_received m.kind) front later)
          (change_fine second state led (λ e. ap (λ (s : State). led_by_received s m.kind answered) e))
          (fine_in (state_then state led) (just_received m.kind) front later),
    )
fine_in state before (Passed second (Sent m) ∷ front) later =
    let led = led_by_sent state m.kind before in (
      tt,
      both_fine (changed_to second state led) (records_in (state_then state led) (just_sent state m.kind before) front later)
          (change_fine second state led (λ e. ap (λ (s : State). led_by_sent s m.kind before) e))
          (fine_in (state_then state led) (just_sent state m.kind before) front later),
    )
fine_in state before (Passed second (Ended x) ∷ front) later =
    let left = are_left (received_in (items_in (front ++ later))) in
    let first = changed_to second state (led_by_end state) in
    let next = changed_to second (state_then state (led_by_end state)) (led_by_left state left) in
    both_fine (first ++ next) (records_in (state_after_end state left) Other front later)
    (both_fine first next (change_fine second state (led_by_end state) (λ e. ap led_by_end e)) (left_fine second state left))
    (fine_in (state_after_end state left) Other front later)

-- ---- its messages are those of the exchange

abbrev pub octets_of : List Message → List (List ℕ)
octets_of messages = map (λ (m : Message). m.octets.now) messages

heard_both : (xs ys : List ShownRecord) → heard_in (xs ++ ys) ≡ heard_in xs ++ heard_in ys
heard_both [] ys = refl
heard_both (shown.Received t o ∷ xs) ys = ap (λ (os : List (List ℕ)). o ∷ os) (heard_both xs ys)
heard_both (shown.Sent t o ∷ xs) ys = heard_both xs ys
heard_both (shown.Changed t a b ∷ xs) ys = heard_both xs ys

no_message : (second : ℕ) (state : State) (led : Option State) → heard_in (changed_to second state led) ≡ []
no_message second state None = refl
no_message second state (Some led) = refl

behind_change : (second : ℕ) (state : State) (led : Option State) (records : List ShownRecord) → heard_in (changed_to second state led ++ records) ≡ heard_in records
behind_change second state led records =
    heard_both (changed_to second state led) records ∙ ap (λ (os : List (List ℕ)). os ++ heard_in records) (no_message second state led)

pub heard_way : (state : State) (before : Standing) (events later : List Event) → heard_in (records_in state before events later) ≡ octets_of (received_in (items_in events))
heard_way state before [] later = refl
heard_way state before (Passed second (Received m) ∷ front) later =
    let led = led_by_received state m.kind (is_answered_before_open m.kind (sent_in (items_in (front ++ later)))) in
    let rest = records_in (state_then state led) (just_received m.kind) front later in
    ap (λ (os : List (List ℕ)). m.octets.now ∷ os) (behind_change second state led rest ∙ heard_way (state_then state led) (just_received m.kind) front later)
heard_way state before (Passed second (Sent m) ∷ front) later =
    let led = led_by_sent state m.kind before in
    behind_change second state led (records_in (state_then state led) (just_sent state m.kind before) front later)
    ∙ heard_way (state_then state led) (just_sent state m.kind before) front later
heard_way state before (Passed second (Ended x) ∷ front) later =
    let left = are_left (received_in (items_in (front ++ later))) in
    let first = changed_to second state (led_by_end state) in
    let next = changed_to second (state_then state (led_by_end state)) (led_by_left state left) in
    let rest = records_in (state_after_end state left) Other front later in
    heard_both (first ++ next) rest
    ∙ ap (λ (os : List (List ℕ)). os ++ heard_in rest)
    (heard_both first next ∙ ap₂ ◌++◌ (no_message second state (led_by_end state)) (no_message second (state_then state (led_by_end state)) (led_by_left state left)))
    ∙ heard_way (state_after_end state left) Other front later

-- ---- ends

pub is_established : (fsm : Fsm) → (fsm ≡ fsms.Established) ⊎ (fsm ≡ fsms.Established → ⊥)
is_established fsms.Idle = inr (λ e. cc)
is_established fsms.Connect = inr (λ e. cc)
is_established fsms.Active = inr (λ e. cc)
is_established fsms.OpenSent = inr (λ e. cc)
is_established fsms.OpenConfirm = inr (λ e. cc)
is_established fsms.Established = inl refl

up_phase : (h : Head) → fsm_of h ≡ fsms.Established → (link : Link) × (phase_of h ≡ Up link)
up_phase Idle e = absurd (let k : ⊥ = cc in k)
up_phase (Connect delay) e = absurd (let k : ⊥ = cc in k)
up_phase (Active delay) e = absurd (let k : ⊥ = cc in k)
up_phase (OpenSent timer) e = absurd (let k : ⊥ = cc in k)
up_phase (OpenConfirm link timer) e = absurd (let k : ⊥ = cc in k)
up_phase (Established link timer) e = (link, refl)

not_idle : (fsm : Fsm) → fsm ≡ fsms.Established → fsm ≡ fsms.Idle → ⊥
not_idle fsm is idle = let e : fsms.Established ≡ fsms.Idle = sym is ∙ idle in cc

module _ (config : Config) where
  -- the routes at last are those
  last_may : (h : Head) (routes : Routes) → fsm_of h ≡ fsms.Established → MayHave config (phase_of h) routes [] routes
  last_may h routes is = let k = up_phase h is in subst (λ (p : Phase). MayHave config p routes [] routes) (sym k.1) refl

  last_is : (h : Head) (routes final : Routes) → fsm_of h ≡ fsms.Established → MayHave config (phase_of h) routes [] final → routes ≡ final
  last_is h routes final is may = let k = up_phase h is in subst (λ (p : Phase). MayHave config p routes [] final) k.1 may

  -- a chain of records that begin with a change from Idle, to a state
  pub record Chain (second new : ℕ) (records : List ShownRecord) (e : End) : Type 0 where
    pub first : Member
    pub last : Member
    pub begins : Next config (shown.Changed second 1 new) fresh_member first
    pub goes : Reaches config first records last
    pub free : IsFree last
    pub fsm : fsm_of last.state.head ≡ e.fsm
    pub routes : last.state.routes ≡ e.routes

  module _ (ends : EndsByChains) (second new : ℕ) (records : List ShownRecord) (e : End) where
    abbrev All : List ShownRecord
    All = shown.Changed second 1 new ∷ records

    pub to_chain : IsComplete config All e → Chain second new records e
    to_chain complete =
        let k = (ends config All e).0 complete in record {
          first = k.1.0;
          last = k.0;
          begins = k.1.1;
          goes = k.1.2;
          free = k.2;
          fsm = ap (λ (v : End). v.fsm) k.3;
          routes = ap (λ (v : End). v.routes) k.3;
        }

    from_chain : Chain second new records e → IsComplete config All e
    from_chain c =
        (ends config All e).1 (c.last, (c.first, c.begins, c.goes), c.free, λ i. record { fsm = c.fsm i; routes = c.routes i })

  -- ---- two chains that lead to Established

  module _ (second new : ℕ) (records : List ShownRecord) (fine : Fine records) where
    module _ (e : End) (up : e.fsm ≡ fsms.Established) (c : Chain second new records e) where
      last_fsm : fsm_of c.last.state.head ≡ fsms.Established
      last_fsm = c.fsm ∙ up

      last_up : IsUp c.last.state.head
      last_up = not_idle (fsm_of c.last.state.head) last_fsm

      first_is_up : IsUp c.first.state.head
      first_is_up idle = last_up (idle_stays config records c.first c.last fine idle c.goes)

      begun : (phase_of c.first.state.head ≡ Before) × (c.first.state.routes ≡ no_routes)
      begun = first_up config second new c.first c.begins first_is_up

      -- its routes are such
      may_have : MayHave config Before no_routes (heard_in records) e.routes
      may_have =
          let h = chain_back config records c.first c.last c.last.state.routes fine first_is_up last_up c.goes (last_may c.last.state.head c.last.state.routes last_fsm) in
          subst (λ (r : Routes). MayHave config Before no_routes (heard_in records) r) c.routes
          (subst (λ (r : Routes). MayHave config Before r (heard_in records) c.last.state.routes) begun.1
          (subst (λ (p : Phase). MayHave config p c.first.state.routes (heard_in records) c.last.state.routes) begun.0 h))

      same_first : with_routes no_routes c.first ≡ c.first
      same_first i = record c.first { state = record c.first.state { routes = sym begun.1 i } }

      -- and each such are those of a chain
      has_too : (other : End) → other.fsm ≡ fsms.Established → MayHave config Before no_routes (heard_in records) other.routes → Chain second new records other
      has_too other is may =
          let there = subst (λ (p : Phase). MayHave config p no_routes (heard_in records) other.routes) (sym begun.0) may in
          let k = chain_on config records c.first c.last no_routes other.routes fine first_is_up last_up c.goes there in record {
            first = c.first;
            last = with_routes k.0 c.last;
            begins = c.begins;
            goes = subst (λ (m : Member). Reaches config m records (with_routes k.0 c.last)) same_first k.1;
            free = c.free;
            fsm = last_fsm ∙ sym is;
            routes = last_is c.last.state.head k.0 other.routes last_fsm k.2;
          }

  -- ---- two lists of records

  pub fsm_told : EachRunIsAsTold → (records : List ShownRecord) (e : End) → IsComplete config records e → e.fsm ≡ (told records).fsm
  fsm_told each records e (s, run, is) = sym (ap (λ (v : End). v.fsm) is) ∙ (each config records s run).fsm

  no_routes_told : EachRunIsAsTold → (records : List ShownRecord) (e : End) → (e.fsm ≡ fsms.Established → ⊥) → IsComplete config records e → e.routes ≡ no_routes
  no_routes_told each records e isnt (s, run, is) =
      sym (ap (λ (v : End). v.routes) is)
      ∙ (each config records s run).none (λ up. isnt (fsm_told each records e (s, run, is) ∙ up))

  module _ (ends : EndsByChains) (each : EachRunIsAsTold) (second second' new other : ℕ) (records others : List ShownRecord) (fine : Fine records) (fine' : Fine others)
      (same : heard_in records ≡ heard_in others) where
    alike : (e f : End) → e.fsm ≡ f.fsm → IsComplete config (shown.Changed second 1 new ∷ records) e → IsComplete config (shown.Changed second' 1 other ∷ others) f
        → IsComplete config (shown.Changed second' 1 other ∷ others) e
    alike e f state ce cf = elim (is_established e.fsm) [
      | inl up ↦
          let may : MayHave config Before no_routes (heard_in others) e.routes =
          subst (λ (os : List (List ℕ)). MayHave config Before no_routes os e.routes) same
          (may_have second new records fine e up (to_chain ends second new records e ce)) in
          from_chain ends second' other others e
          (has_too second' other others fine' f (sym state ∙ up) (to_chain ends second' other others f cf) e up may)
      | inr isnt ↦
          let none = no_routes_told each (shown.Changed second 1 new ∷ records) e isnt ce in
          let none' = no_routes_told each (shown.Changed second' 1 other ∷ others) f (λ up. isnt (state ∙ up)) cf in
          let one : f ≡ e = λ i. record { fsm = sym state i; routes = (none' ∙ sym none) i } in
          subst (λ (v : End). IsComplete config (shown.Changed second' 1 other ∷ others) v) one cf
    ]

-- ---- the laws

-- the records of two ways in which the same messages are received
pub events_alike : EndsByChains → EachRunIsAsTold → (config : Config) (second second' : ℕ) (start other : State) (events others : List Event) (e f : End)
    → octets_of (received_in (items_in events)) ≡ octets_of (received_in (items_in others)) → e.fsm ≡ f.fsm
    → IsComplete config (records_of_way second start events) e → IsComplete config (records_of_way second' other others) f
    → IsComplete config (records_of_way second' other others) e
events_alike ends each config second second' start other events others e f same state ce cf =
    alike config ends each second second' (state_number start) (state_number other) (records_in start Other events []) (records_in other Other others [])
    (fine_in start Other events []) (fine_in other Other others [])
    (heard_way start Other events [] ∙ same ∙ sym (heard_way other Other others [])) e f state ce cf

-- all ends of a list of records are in one state
pub one_state : EachRunIsAsTold → (config : Config) (records : List ShownRecord) (e f : End) → IsComplete config records e → IsComplete config records f → e.fsm ≡ f.fsm
one_state each config records e f ce cf = fsm_told config each records e ce ∙ sym (fsm_told config each records f cf)

pub ways_end_alike : EndsByChains → EachRunIsAsTold → WholeWaysEndAlike
ways_end_alike ends each config within exchange one other state e complete =
    let fsm : e.fsm ≡ other.end.fsm = one_state each config (records_of_way exchange.second one.start one.events) e one.end complete one.complete ∙ state in
    events_alike ends each config exchange.second exchange.second one.start other.start one.events other.events e other.end
    (ap octets_of (one.way.allowed.of_received ∙ sym other.way.allowed.of_received)) fsm complete other.complete

pub one_tells_all : WholeWaysEndAlike → OneWayTellsAllEnds
one_tells_all alike config within exchange one e state = (
  λ whole. alike config within exchange (record { start = whole.start; events = whole.events; way = whole.way; end = e; complete = whole.complete }) one state e whole.complete,
  λ ends. record { start = one.start; events = one.events; way = one.way; complete = ends },
)

pub entries_tell_all : EntriesShowTheWay → OneWayTellsAllEnds → EntriesTellAllEnds
entries_tell_all show all config within exchange entries end e of complete state =
    let same = show within exchange entries of in
    let one : WholeWay config within exchange = record {
      start = of.start;
      events = of.events;
      way = of.way;
      end = end;
      complete = subst (λ (r : List ShownRecord). IsComplete config r end) same complete;
    } in
    let k = all config within exchange one e state in (
      λ whole. subst (λ (r : List ShownRecord). IsComplete config r e) (sym same) (k.0 whole),
      λ ends. k.1 (subst (λ (r : List ShownRecord). IsComplete config r e) same ends),
    )

has_weaker : {X : Type 0} (P Q : X → Type 0) (xs : List X) → ((x : X) → P x → Q x) → Has P xs → Has Q xs
has_weaker P Q [] to h = h
has_weaker P Q (x ∷ xs) to (inl p) = inl (to x p)
has_weaker P Q (x ∷ xs) to (inr h) = inr (has_weaker P Q xs to h)

has_one : {X Y : Type 0} (P : X → Type 0) (xs : List X) → ((x : X) → P x → Y) → Has P xs → Y
has_one P [] to h = absurd h
has_one P (x ∷ xs) to (inl p) = to x p
has_one P (x ∷ xs) to (inr h) = has_one P xs to h

pub one_for_each : OneWayTellsAllEnds → WholeIsReached → OneWayForEachState
one_for_each all reached config within exchange ways have e = (
  λ whole.
      let k = reached config within exchange e whole in
      has_weaker (λ one. one.end.fsm ≡ fsm_of k.1.member.state.head) (λ one. EndsSo one e) ways
      (λ one state. (all config within exchange one e (sym k.4 ∙ sym state)).0 whole) (have k.0 k.1 k.2 k.3),
  λ h. has_one (λ one. EndsSo one e) ways (λ one ends. record { start = one.start; events = one.events; way = one.way; complete = ends }) h,
)
