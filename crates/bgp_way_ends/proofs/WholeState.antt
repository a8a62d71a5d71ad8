-- All whole ways of an exchange end in one state.
use Rattle.std.proofs.Common.{◌≡◌, ◌∙◌, ◌==◌, ◌⊎◌, ℕ, Bool, List, [], ◌∷◌, Option, None, Some, if◌then◌else◌, inl, inr, refl, sym, ap, subst}
use Rattle.std.proofs.lemmas.Bool.{cases_Bool}
use Rattle.bgp_prefix.specs.Shown as shown
use Rattle.bgp_prefix.specs.Shown.{ShownRecord}
use Rattle.streams.specs.declared.connection.End.{End as TheEnd}
use Rattle.bgp_open.specs.declared.config.Config.{Config}
use Rattle.bgp_wire.specs.declared.header.MessageType.{MessageType}
use Rattle.bgp_machine.specs.declared.fsm.Fsm.{Fsm}
use Rattle.bgp_machine.specs.declared.fsm.Fsm.TheVariants as fsms
use Rattle.bgp_machine.specs.declared.rows.HiddenRow.{HiddenRow}
use Rattle.bgp_machine.specs.declared.rows.HiddenRow.TheVariants.{Listens, Notes, Starts as RowStarts}
use Rattle.bgp_machine.specs.declared.state.Head.{Head}
use Rattle.bgp_machine.specs.declared.state.Head.TheVariants.{Idle, Connect, Active, OpenSent, OpenConfirm, Established}
use Rattle.bgp_machine.specs.declared.want.Want.{Want}
use Rattle.bgp_machine.specs.Run.{End, IsComplete}
use Rattle.bgp_machine.specs.Shows.{Pays}
use Rattle.bgp_machine.specs.State.{SessionState, Turn, fsm_of}
use Rattle.bgp_machine.specs.Step.{HiddenIn, hidden_change}
use Rattle.bgp_recording.specs.declared.message.Message.{Message}
use Rattle.bgp_recording.specs.declared.standing.Before.TheVariants.{Other}
use Rattle.bgp_recording.specs.declared.state.State.{State}
use Rattle.bgp_recording.specs.declared.state.State.TheVariants as states
use Rattle.bgp_recording.specs.Allowed.{Ended, IsAllowed, Received, Sent, ends_in, ends_of, received_in, sent_in}
use Rattle.bgp_recording.specs.Changes.{opened_state}
use Rattle.bgp_recording.specs.States.{state_number}
use Rattle.bgp_recording.specs.Tells.{Event, Passed, items_in}
use Rattle.streams.specs.declared.passed.Side.{Side}
use Rattle.bgp_judge.specs.Chains.{EndsByChains}
use Rattle.bgp_judge.specs.Member.{Member, fresh_member}
use Rattle.bgp_judge.specs.Next.{Next, Opens}
use Rattle.bgp_judge.specs.Told.{EachRunIsAsTold, fresh_told, told_next}
use Rattle.bgp_orders.specs.Ways.{records_in, records_of_way}
use Rattle.bgp_way_ends.proofs.Chains.{down_head, first_up, heard_in, silent_phase}
use Rattle.bgp_way_ends.proofs.Ended.{Begins, ended_final, from_both, kinds_of, only_sent, sent_final}
use Rattle.bgp_way_ends.proofs.Falls.{FallsByCause, Good, NoNotices, SomeNotice, change_is, change_keeps, either_idle, either_opened, fell, kind_after, kind_of, last_kind, no_notices, none_before, opened_said, said_in}
use Rattle.bgp_way_ends.proofs.Hearing.{is_keepalive}
use Rattle.bgp_way_ends.proofs.OneState.{AllRetryNone, AreTyped, causes_in, final_in, fsm_by, retries_none, said_way, told_final, told_start}
use Rattle.bgp_way_ends.proofs.Phases.{Before, IsUp, Phase, phase_of}
use Rattle.bgp_way_ends.proofs.Sending.{IsUnopened, none_up}
use Rattle.bgp_way_ends.proofs.WayEnds.{Chain, Fine, fine_in, fsm_told, heard_way, idle_state, octets_of, to_chain}

-- ---- the first record

unopened_up : (h : Head) → IsUnopened h → IsUp h
unopened_up Idle u = absurd u
unopened_up (Connect delay) u = λ e. (let k : ⊥ = cc in k)
unopened_up (Active delay) u = λ e. (let k : ⊥ = cc in k)
unopened_up (OpenSent timer) u = absurd u
unopened_up (OpenConfirm link timer) u = absurd u
unopened_up (Established link timer) u = absurd u

start_opened : (config : Config) (t new : ℕ) (row : HiddenRow) (wants left : List Want) (change still : Option (Fsm × Fsm)) (turn : Turn) → (new ≡ 1 → ⊥)
    → HiddenIn Idle config t row wants turn → change ≡ hidden_change row fsms.Idle (fsm_of turn.head) → Pays config None (shown.Changed t 1 new) wants change left still
    → IsUnopened turn.head × (left ≡ [])
start_opened config t new RowStarts wants left change still turn isnt r is pays =
    (subst (λ (u : Turn). IsUnopened u.head) (sym r.1) tt, change_keeps config None t 1 new wants left change still pays ∙ r.0)
start_opened config t new Listens wants left change still turn isnt r is pays =
    (subst (λ (u : Turn). IsUnopened u.head) (sym r.1) tt, change_keeps config None t 1 new wants left change still pays ∙ r.0)
start_opened config t new Notes wants left change still turn isnt r is pays =
    let e : change ≡ Some (fsms.Idle, fsms.Idle) = is ∙ ap (λ (u : Turn). hidden_change Notes fsms.Idle (fsm_of u.head)) r.1 in
    absurd (isnt (change_is config None t 1 new wants left change still fsms.Idle fsms.Idle e pays).1)
start_opened config t new row wants left change still turn isnt r is pays = absurd r

begun : (config : Config) (t new : ℕ) (m : Member) → (new ≡ 1 → ⊥) → Next config (shown.Changed t 1 new) fresh_member m → IsUnopened m.state.head × (m.wants ≡ [])
begun config t new m isnt (inl c) = absurd c.pays
begun config t new m isnt (inr s) =
    let head : s.before.head ≡ Idle = down_head s.before.head (silent_phase config fresh_member.state s.before s.silent) in
    let o = subst (λ (h : Head). Opens config h (shown.Changed t 1 new) m.wants m.change s.turn) head s.opens in
    let k = start_opened config t new o.0 o.1 m.wants o.2 m.change s.turn isnt o.3.0 o.3.1 o.4 in
    (subst IsUnopened (sym (ap (λ (v : SessionState). v.head) s.state)) k.0, k.1)

not_one : (state : State) → Begins state → state_number state ≡ 1 → ⊥
not_one state (inl is) e = let k : states.Idle ≡ states.Connect = sym (idle_state state e) ∙ is in cc
not_one state (inr is) e = let k : states.Idle ≡ states.Active = sym (idle_state state e) ∙ is in cc

-- ---- lists

either_none : {X : Type 0} (xs : List X) → (xs ≡ []) ⊎ (xs ≡ [] → ⊥)
either_none [] = inl refl
either_none {X} (x ∷ xs) = inr (λ e. (let k : ⊥ = cc in k))

none_of : (ms : List Message) → octets_of ms ≡ [] → ms ≡ []
none_of [] e = refl
none_of (m ∷ ms) e = absurd (let k : ⊥ = cc in k)

none_and_some : (os : List (List ℕ)) → NoNotices os → SomeNotice os → ⊥
none_and_some [] none some = some
none_and_some (o ∷ os) none (inl notice) = none.0 notice
none_and_some (o ∷ os) none (inr some) = none_and_some os none.1 some

-- once a message is received the peer's OPEN is
rises_two : (os : List (List ℕ)) → kind_after 2 os ≡ 0 → ⊥
rises_two [] e = cc
rises_two (o ∷ os) e = rises_two os e

rises_one : (os : List (List ℕ)) → kind_after 1 os ≡ 0 → ⊥
rises_one [] e = cc
rises_one (o ∷ os) e = elim (cases_Bool (is_keepalive o)) [
  | inl is ↦ rises_two os (sym (ap (λ (b : Bool). kind_after (if b then 2 else 1) os) is) ∙ e)
  | inr isnt ↦ rises_one os (sym (ap (λ (b : Bool). kind_after (if b then 2 else 1) os) isnt) ∙ e)
]

none_heard : (os : List (List ℕ)) → kind_after 0 os ≡ 0 → os ≡ []
none_heard [] e = refl
none_heard (o ∷ os) e = absurd (rises_one os e)

-- ---- a whole way

-- what packets tell of a session
pub record ExchangeValue : Type 0 where
  pub opened_by : Side
  pub second : ℕ
  pub received : List Message
  pub sent : List Message
  pub end : Option TheEnd

pub record HaveTypes (exchange : ExchangeValue) : Type 0 where
  pub received : AreTyped exchange.received
  pub sent : AreTyped exchange.sent

-- one of its ways, and an end of a run that shows just its records
pub record Whole (config : Config) (within : ℕ) (exchange : ExchangeValue) : Type 0 where
  pub start : State
  pub events : List Event
  pub begins : Begins start
  pub alone : exchange.received ≡ [] → exchange.sent ≡ [] → start ≡ opened_state exchange.opened_by
  pub allowed : IsAllowed within exchange.received exchange.sent exchange.end (items_in events)
  pub end : End
  pub complete : IsComplete config (records_of_way exchange.second start events) end

-- where the own OPEN is sent, the state is by the phase
abbrev by_kind : ℕ → Fsm
by_kind kind = if kind == 0 then fsms.OpenSent else (if kind == 1 then fsms.OpenConfirm else (if kind == 2 then fsms.Established else fsms.Idle))

opened_fsm : (h : Head) → (IsUnopened h → ⊥) → fsm_of h ≡ by_kind (kind_of (phase_of h))
opened_fsm Idle isnt = refl
opened_fsm (Connect delay) isnt = absurd (isnt tt)
opened_fsm (Active delay) isnt = absurd (isnt tt)
opened_fsm (OpenSent timer) isnt = refl
opened_fsm (OpenConfirm link timer) isnt = refl
opened_fsm (Established link timer) isnt = refl

active_phase : (h : Head) → fsm_of h ≡ fsms.Active → kind_of (phase_of h) ≡ 0
active_phase Idle e = absurd (let k : ⊥ = cc in k)
active_phase (Connect delay) e = absurd (let k : ⊥ = cc in k)
active_phase (Active delay) e = refl
active_phase (OpenSent timer) e = absurd (let k : ⊥ = cc in k)
active_phase (OpenConfirm link timer) e = absurd (let k : ⊥ = cc in k)
active_phase (Established link timer) e = absurd (let k : ⊥ = cc in k)

some_message : (m : Message) (ms : List Message) → m ∷ ms ≡ [] → ⊥
some_message m ms e = cc

some_end : (e : TheEnd) (es : List TheEnd) → e ∷ es ≡ [] → ⊥
some_end e es none = cc

-- nothing is passed
nothing_passed : (state : State) (events : List Event) → received_in (items_in events) ≡ [] → sent_in (items_in events) ≡ [] → ends_in (items_in events) ≡ []
    → final_in state Other events ≡ state
nothing_passed state [] rs ss es = refl
nothing_passed state (Passed second (Received m) ∷ later) rs ss es = absurd (some_message m (received_in (items_in later)) rs)
nothing_passed state (Passed second (Sent m) ∷ later) rs ss es = absurd (some_message m (sent_in (items_in later)) ss)
nothing_passed state (Passed second (Ended e) ∷ later) rs ss es = absurd (some_end e (ends_in (items_in later)) es)

active_kind : (h : Head) → fsm_of h ≡ fsms.Active → IsUp h × (kind_of (phase_of h) ≡ 0)
active_kind h e = (λ idle. (let k : fsms.Active ≡ fsms.Idle = sym e ∙ idle in cc), active_phase h e)

module _ (config : Config) (within : ℕ) (exchange : ExchangeValue) (ends : EndsByChains) (each : EachRunIsAsTold) (one : Whole config within exchange) where
  abbrev records : List ShownRecord
  records = records_in one.start Other one.events []

  abbrev rs : List (List ℕ)
  rs = octets_of exchange.received

  abbrev ss : List (List ℕ)
  ss = octets_of exchange.sent

  fine : Fine records
  fine = fine_in one.start Other one.events []

  chain : Chain config exchange.second (state_number one.start) records one.end
  chain = to_chain config ends exchange.second (state_number one.start) records one.end one.complete

  heard : heard_in records ≡ rs
  heard = heard_way one.start Other one.events [] ∙ ap octets_of one.allowed.of_received

  opens : IsUnopened chain.first.state.head × (chain.first.wants ≡ [])
  opens = begun config exchange.second (state_number one.start) chain.first (not_one one.start one.begins) chain.begins

  is_up : IsUp chain.first.state.head
  is_up = unopened_up chain.first.state.head opens.0

  good : Good chain.first
  good = record { all_up = none_up chain.first.wants opens.1; silent = λ u. opens.1 }

  first_phase : phase_of chain.first.state.head ≡ Before
  first_phase = (first_up config exchange.second (state_number one.start) chain.first chain.begins is_up).0

  -- the state at last, by the tables of ways
  final : one.end.fsm ≡ fsm_by (final_in one.start Other one.events)
  final =
      let begin = shown.Changed exchange.second 1 (state_number one.start) in
      fsm_told config each (begin ∷ records) one.end one.complete
      ∙ told_final (told_next fresh_told begin) one.start Other one.events (told_start exchange.second one.start)

  last_by : IsUp chain.last.state.head → kind_after 0 rs ≡ kind_of (phase_of chain.last.state.head)
  last_by up =
      let k = last_kind config records chain.first chain.last fine is_up up chain.goes in
      ap (λ (os : List (List ℕ)). kind_after 0 os) (sym heard) ∙ ap (λ (p : Phase). kind_after (kind_of p) (heard_in records)) (sym first_phase) ∙ k

  -- where the connection ends
  module _ (x : TheEnd) (is : exchange.end ≡ Some x) where
    ends_x : ends_in (items_in one.events) ≡ x ∷ []
    ends_x = one.allowed.of_end ∙ ap ends_of is

    final_if_none : exchange.received ≡ [] → final_in one.start Other one.events ≡ sent_final one.start Other (kinds_of exchange.sent)
    final_if_none none =
        only_sent within one.start Other one.events x (one.allowed.of_received ∙ none) ends_x one.allowed.each
        ∙ ap (λ (ms : List Message). sent_final one.start Other (kinds_of ms)) one.allowed.of_sent

    idle_if_some : (exchange.received ≡ [] → ⊥) → one.end.fsm ≡ fsms.Idle
    idle_if_some some = elim (ended_final within one.start Other one.events x ends_x one.allowed.each) [
      | inl idle ↦ final ∙ ap fsm_by idle
      | inr active ↦
          let k = active_kind chain.last.state.head (chain.fsm ∙ final ∙ ap fsm_by active) in
          absurd (some (none_of exchange.received (none_heard rs (last_by k.0 ∙ k.1))))
    ]

  -- where it doesn't
  module _ (types : HaveTypes exchange) (is : exchange.end ≡ None) where
    ends_none : ends_in (items_in one.events) ≡ []
    ends_none = one.allowed.of_end ∙ ap ends_of is

    said : said_in records ≡ ss
    said = said_way one.start Other one.events ends_none ∙ ap octets_of one.allowed.of_sent

    tries : AllRetryNone records
    tries = retries_none one.start Other one.events ends_none

    abbrev first_record : Option ShownRecord
    first_record = Some (shown.Changed exchange.second 1 (state_number one.start))

    causes : FallsByCause first_record records
    causes =
        causes_in first_record one.start Other one.events ends_none (subst AreTyped (sym one.allowed.of_received) types.received)
        (subst AreTyped (sym one.allowed.of_sent) types.sent)

    up_notices : IsUp chain.last.state.head → NoNotices rs × NoNotices ss
    up_notices up =
        let k = no_notices config records chain.first chain.last fine is_up up good chain.goes in
        (subst NoNotices heard k.0, subst NoNotices said k.1)

    -- before the own OPEN nothing is received or sent
    up_before : IsUp chain.last.state.head → IsUnopened chain.last.state.head → (rs ≡ []) × (ss ≡ [])
    up_before up u =
        let k = none_before config records chain.first chain.last fine tries is_up up good chain.goes u in
        (sym heard ∙ k.1, sym said ∙ k.2)

    -- and where nothing is sent, the own OPEN isn't
    up_silent : IsUp chain.last.state.head → ss ≡ [] → IsUnopened chain.last.state.head
    up_silent up none = elim (either_opened chain.last.state.head) [
      | inl u ↦ u
      | inr isnt ↦ absurd (opened_said config records chain.first chain.last fine is_up up good chain.free chain.goes opens.0 isnt (said ∙ none))
    ]

    idle_why : fsm_of chain.last.state.head ≡ fsms.Idle → SomeNotice rs ⊎ (SomeNotice ss ⊎ ((ss ≡ []) × (rs ≡ [] → ⊥)))
    idle_why idle = elim (fell config chain.last idle chain.free records first_record chain.first fine tries causes is_up good tt chain.goes) [
      | inl notice ↦ inl (subst SomeNotice heard notice)
      | inr rest ↦ elim rest [
        | inl notice ↦ inr (inl (subst SomeNotice said notice))
        | inr k ↦ inr (inr (sym said ∙ k.1, λ e. k.2 (heard ∙ e)))
      ]
    ]

    -- with nothing received and sent
    final_start : exchange.received ≡ [] → exchange.sent ≡ [] → final_in one.start Other one.events ≡ opened_state exchange.opened_by
    final_start none none_sent =
        nothing_passed one.start one.events (one.allowed.of_received ∙ none) (one.allowed.of_sent ∙ none_sent) ends_none
        ∙ one.alone none none_sent

-- ---- two whole ways

-- what packets tell is alike
pub record IsLike (a b : ExchangeValue) : Type 0 where
  pub opened_by : a.opened_by ≡ b.opened_by
  pub received : octets_of a.received ≡ octets_of b.received
  pub sent : octets_of a.sent ≡ octets_of b.sent
  pub kinds : kinds_of a.sent ≡ kinds_of b.sent
  pub end : a.end ≡ b.end

pub like_back : (a b : ExchangeValue) → IsLike a b → IsLike b a
like_back a b like = record { opened_by = sym like.opened_by; received = sym like.received; sent = sym like.sent; kinds = sym like.kinds; end = sym like.end }

octets_none : (ms : List Message) → ms ≡ [] → octets_of ms ≡ []
octets_none ms e = ap octets_of e

module _ (config : Config) (within : ℕ) (ends : EndsByChains) (each : EachRunIsAsTold) where
  module _ (a b : ExchangeValue) (like : IsLike a b) (one : Whole config within a) (other : Whole config within b) where
    abbrev c : Chain config a.second (state_number one.start) (records config within a ends each one) one.end
    c = chain config within a ends each one

    abbrev d : Chain config b.second (state_number other.start) (records config within b ends each other) other.end
    d = chain config within b ends each other

    -- with an end of the connection
    ended_alike : (x : TheEnd) → a.end ≡ Some x → one.end.fsm ≡ other.end.fsm
    ended_alike x is =
        let is' : b.end ≡ Some x = sym like.end ∙ is in
        elim (either_none a.received) [
          | inl none ↦
              let none' = none_of b.received (sym like.received ∙ octets_none a.received none) in
              let k = final_if_none config within a ends each one x is none in
              let l = final_if_none config within b ends each other x is' none' in
              let same : final_in one.start Other one.events ≡ final_in other.start Other other.events =
              k ∙ ap (λ (ks : List (Option MessageType)). sent_final one.start Other ks) like.kinds
              ∙ from_both one.start other.start (kinds_of b.sent) one.begins other.begins ∙ sym l in
              final config within a ends each one ∙ ap fsm_by same ∙ sym (final config within b ends each other)
          | inr some ↦
              idle_if_some config within a ends each one x is some
              ∙ sym (idle_if_some config within b ends each other x is'
              (λ e. some (none_of a.received (like.received ∙ octets_none b.received e))))
        ]

    module _ (types : HaveTypes a) (types' : HaveTypes b) (is : a.end ≡ None) where
      is' : b.end ≡ None
      is' = sym like.end ∙ is

      -- one stays up, the other falls
      not_apart : IsUp c.last.state.head → fsm_of d.last.state.head ≡ fsms.Idle → ⊥
      not_apart up idle =
          let none = up_notices config within a ends each one types is up in
          elim (idle_why config within b ends each other types' is' idle) [
            | inl notice ↦ none_and_some (octets_of a.received) none.0 (subst SomeNotice (sym like.received) notice)
            | inr rest ↦ elim rest [
              | inl notice ↦ none_and_some (octets_of a.sent) none.1 (subst SomeNotice (sym like.sent) notice)
              | inr k ↦
                  let u = up_silent config within a ends each one types is up (like.sent ∙ k.0) in
                  k.1 (sym like.received ∙ (up_before config within a ends each one types is up u).0)
            ]
          ]

      -- both stay up
      both_up : IsUp c.last.state.head → IsUp d.last.state.head → one.end.fsm ≡ other.end.fsm
      both_up up up' = elim (either_none (octets_of a.sent)) [
        | inl none ↦
            let u = up_silent config within a ends each one types is up none in
            let none_heard_ = (up_before config within a ends each one types is up u).0 in
            let k = final_start config within a ends each one types is (none_of a.received none_heard_) (none_of a.sent none) in
            let l = final_start config within b ends each other types' is' (none_of b.received (sym like.received ∙ none_heard_)) (none_of b.sent (sym like.sent ∙ none)) in
            let same : final_in one.start Other one.events ≡ final_in other.start Other other.events = k ∙ ap opened_state like.opened_by ∙ sym l in
            final config within a ends each one ∙ ap fsm_by same ∙ sym (final config within b ends each other)
        | inr some ↦
            let k = opened_fsm c.last.state.head (λ u. some (up_before config within a ends each one types is up u).1) in
            let l = opened_fsm d.last.state.head (λ u. some (like.sent ∙ (up_before config within b ends each other types' is' up' u).1)) in
            let same : kind_of (phase_of c.last.state.head) ≡ kind_of (phase_of d.last.state.head) =
            sym (last_by config within a ends each one up) ∙ ap (λ (os : List (List ℕ)). kind_after 0 os) like.received ∙ last_by config within b ends each other up' in
            sym c.fsm ∙ k ∙ ap by_kind same ∙ sym l ∙ d.fsm
      ]

  stays_alike : (a b : ExchangeValue) (like : IsLike a b) (one : Whole config within a) (other : Whole config within b) → HaveTypes a → HaveTypes b → a.end ≡ None
      → one.end.fsm ≡ other.end.fsm
  stays_alike a b like one other types types' is =
      let c = chain config within a ends each one in
      let d = chain config within b ends each other in
      let is' : b.end ≡ None = sym like.end ∙ is in
      elim (either_idle (fsm_of c.last.state.head)) [
        | inl idle ↦ elim (either_idle (fsm_of d.last.state.head)) [
          | inl idle' ↦ sym c.fsm ∙ idle ∙ sym idle' ∙ d.fsm
          | inr up' ↦ absurd (not_apart b a (like_back a b like) other one types' types is' up' idle)
        ]
        | inr up ↦ elim (either_idle (fsm_of d.last.state.head)) [
          | inl idle' ↦ absurd (not_apart a b like one other types types' is up idle')
          | inr up' ↦ both_up a b like one other types types' is up up'
        ]
      ]

  either_end : (o : Option TheEnd) → (o ≡ None) ⊎ ((x : TheEnd) × (o ≡ Some x))
  either_end None = inl refl
  either_end (Some x) = inr (x, refl)

  pub end_in_one_state : (a b : ExchangeValue) → IsLike a b → HaveTypes a → HaveTypes b → (one : Whole config within a) (other : Whole config within b) → one.end.fsm ≡ other.end.fsm
  end_in_one_state a b like types types' one other = elim (either_end a.end) [
    | inl none ↦ stays_alike a b like one other types types' none
    | inr some ↦ ended_alike a b like one other some.0 some.1
  ]
