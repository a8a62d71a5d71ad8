-- Just one verdict over all ways, and more patience.
use Rattle.std.proofs.Common.{◌≡◌, inl, inr, ◌≤◌, ◌+◌, ◌-◌, ◌++◌, ℕ, zero, suc, false, None, List, [], ◌∷◌, length, refl, sym, ap, subst, arith, append_assoc, append-nil}
use Rattle.std.proofs.lemmas.Bool.{cases_lt}
use Rattle.bgp_prefix.specs.Shown as shown
use Rattle.bgp_prefix.specs.Shown.{ShownRecord}
use Rattle.bgp_open.specs.declared.config.Config.{Config}
use Rattle.bgp_rib.specs.Routes.{no_routes}
use Rattle.bgp_machine.specs.declared.rows.HiddenRow.TheVariants.{Starts, Listens}
use Rattle.bgp_machine.specs.declared.state.Head.TheVariants as heads
use Rattle.bgp_machine.specs.Run.{Taken, Begins, End, IsComplete, Run}
use Rattle.bgp_machine.specs.State.{SessionState, enters, fresh_state}
use Rattle.bgp_machine.specs.Step.{Hidden}
use Rattle.bgp_recording.specs.declared.ordering.Exchange.{Exchange}
use Rattle.bgp_recording.specs.declared.state.State.{State}
use Rattle.bgp_recording.specs.Allowed.{Item, Received, Sent, Ended, MayPrecede, EachMayPrecede, sent_in}
use Rattle.bgp_recording.specs.Changes.{opened_state}
use Rattle.bgp_recording.specs.States.{state_number}
use Rattle.bgp_recording.specs.Tells.{Event, Passed, items_in}
use Rattle.bgp_recording.specs.Told.{IsTold}
use Rattle.bgp_recording.proofs.Lists.{all_weaker}
use Rattle.bgp_orders.specs.Explained.{IsExplained, IsWhole, VerdictOver, Yes, No, Unfinished, HasVerdictOver, HasOneVerdictOver, NeverNoneOver, MorePatienceExplains, MorePatienceKeepsEnds, FewerAreExplained}
use Rattle.bgp_orders.specs.Ways.{IsWay, records_of_front, records_of_way}
use Rattle.bgp_recording.specs.declared.standing.Before.TheVariants.{Other}
use Rattle.bgp_orders.proofs.Reached.{some_way}
use Rattle.bgp_orders.proofs.Ways.{more_records, opened_either}

-- ---- records that begin a run

begins_before : (config : Config) (records more : List ShownRecord) → Begins config (records ++ more) → Begins config records
begins_before config records more (rest, e, run) =
    (more ++ rest, e, subst (λ (v : List ShownRecord). Run config fresh_state v e) (append_assoc records more rest) run)

complete_begins : (config : Config) (records : List ShownRecord) (e : End) → IsComplete config records e → Begins config records
complete_begins config records e (s, run, is) =
    ([], s, subst (λ (v : List ShownRecord). Run config fresh_state v s) (sym (append-nil records)) run)

-- the change from Idle begins one
starts_run : (config : Config) (t : ℕ) → Begins config (shown.Changed t 1 2 ∷ [])
starts_run config t =
    let after : SessionState = record { head = heads.Connect false; routes = no_routes } in
    let x : Taken = record { before = fresh_state; second = t; event = Hidden Starts; wants = []; after = after; shown = shown.Changed t 1 2 ∷ [] } in (
      [],
      after,
      record {
        steps = x ∷ [];
        are_steps = (refl, record { step = (enters (heads.Connect false), (refl, refl), refl); shows = (refl, ([], None, (refl, refl, refl, refl), (refl, refl))) }, refl);
        shows = refl;
      },
    )

listens_run : (config : Config) (t : ℕ) → Begins config (shown.Changed t 1 3 ∷ [])
listens_run config t =
    let after : SessionState = record { head = heads.Active false; routes = no_routes } in
    let x : Taken = record { before = fresh_state; second = t; event = Hidden Listens; wants = []; after = after; shown = shown.Changed t 1 3 ∷ [] } in (
      [],
      after,
      record {
        steps = x ∷ [];
        are_steps = (refl, record { step = (enters (heads.Active false), (refl, refl), refl); shows = (refl, ([], None, (refl, refl, refl, refl), (refl, refl))) }, refl);
        shows = refl;
      },
    )

-- ---- fewer sent messages

record IsCut (front : List Event) (count : ℕ) : Type 0 where
  pub first : List Event
  pub others : List Event
  pub joined : first ++ others ≡ front
  pub counts : length (sent_in (items_in first)) ≡ count

cut : (front : List Event) (count : ℕ) → length (sent_in (items_in front)) ≡ count + 1 → IsCut front count
cut [] count h = absurd (omega (arith, h))
cut (Passed second (Received m) ∷ later) count h =
    let k = cut later count h in
    record { first = Passed second (Received m) ∷ k.first; others = k.others; joined = ap (λ (v : List Event). Passed second (Received m) ∷ v) k.joined; counts = k.counts }
cut (Passed second (Sent m) ∷ later) zero h = record { first = []; others = Passed second (Sent m) ∷ later; joined = refl; counts = refl }
cut (Passed second (Sent m) ∷ later) (suc count) h =
    let k = cut later count (omega (arith, h)) in
    record { first = Passed second (Sent m) ∷ k.first; others = k.others; joined = ap (λ (v : List Event). Passed second (Sent m) ∷ v) k.joined; counts = omega (arith, k.counts) }
cut (Passed second (Ended e) ∷ later) count h =
    let k = cut later count h in
    record { first = Passed second (Ended e) ∷ k.first; others = k.others; joined = ap (λ (v : List Event). Passed second (Ended e) ∷ v) k.joined; counts = k.counts }

pub fewer_are_explained : FewerAreExplained
fewer_are_explained config within exchange count x =
    let k = cut x.front count x.counts in
    let way : IsWay within exchange x.start (k.first ++ (k.others ++ x.later)) =
    subst (λ (v : List Event). IsWay within exchange x.start v) (append_assoc k.first k.others x.later)
    (subst (λ (v : List Event). IsWay within exchange x.start (v ++ x.later)) (sym k.joined) x.way) in
    let begins : Begins config (records_of_front exchange.second x.start (k.first ++ k.others) x.later) =
    subst (λ (v : List Event). Begins config (records_of_front exchange.second x.start v x.later)) (sym k.joined) x.begins in
    let more = more_records x.start Other k.first k.others x.later in
    record {
      start = x.start;
      front = k.first;
      later = k.others ++ x.later;
      way = way;
      counts = k.counts;
      begins = begins_before config (records_of_front exchange.second x.start k.first (k.others ++ x.later)) more.0
          (subst (λ (v : List ShownRecord). Begins config (shown.Changed exchange.second 1 (state_number x.start) ∷ v)) (sym more.1) begins);
    }

pub so_many_fewer : (config : Config) (within : ℕ) (exchange : Exchange) (fewer count : ℕ) → IsExplained config within exchange (fewer + count) → IsExplained config within exchange count
so_many_fewer config within exchange zero count x = subst (λ (v : ℕ). IsExplained config within exchange v) (omega arith) x
so_many_fewer config within exchange (suc fewer) count x =
    so_many_fewer config within exchange fewer count
    (fewer_are_explained config within exchange (fewer + count) (subst (λ (v : ℕ). IsExplained config within exchange v) (omega arith) x))

pub at_most_explained : (config : Config) (within : ℕ) (exchange : Exchange) (count more : ℕ) → count ≤ more → IsExplained config within exchange more → IsExplained config within exchange count
at_most_explained config within exchange count more le x =
    so_many_fewer config within exchange (more - count) count (subst (λ (v : ℕ). IsExplained config within exchange v) (omega (arith, le)) x)

-- ---- none, and all

pub none_explained : (config : Config) (within : ℕ) (exchange : Exchange) → IsTold exchange → IsExplained config within exchange 0
none_explained config within exchange told =
    let start : State = opened_state exchange.opened_by in
    let way = some_way within exchange start told (opened_either exchange.opened_by, λ r s. refl) in
    let Begun : State → Type 0 = λ s. Begins config (shown.Changed exchange.second 1 (state_number s) ∷ []) in
    record {
      start = start;
      front = [];
      later = way.0;
      way = way.1;
      counts = refl;
      begins = elim (opened_either exchange.opened_by) [
        | inl e ↦ subst Begun (sym e) (starts_run config exchange.second)
        | inr e ↦ subst Begun (sym e) (listens_run config exchange.second)
      ];
    }

pub whole_is_explained : (config : Config) (within : ℕ) (exchange : Exchange) (e : End) → IsWhole config within exchange e → IsExplained config within exchange (length exchange.sent.now)
whole_is_explained config within exchange e x = record {
  start = x.start;
  front = x.events;
  later = [];
  way = subst (λ (v : List Event). IsWay within exchange x.start v) (sym (append-nil x.events)) x.way;
  counts = ap length x.way.allowed.of_sent;
  begins = complete_begins config (records_of_way exchange.second x.start x.events) e x.complete;
}

-- ---- just one verdict

-- of two noes the one doesn't come before the other
no_less_no : (config : Config) (within : ℕ) (exchange : Exchange) (one other : ℕ) → (¬ IsExplained config within exchange (one + 1)) → IsExplained config within exchange other → other ≤ one
no_less_no config within exchange one other none x =
    elim (cases_lt one other) [
      | inl lt ↦ absurd (none (at_most_explained config within exchange (one + 1) other (omega (arith, lt)) x))
      | inr ge ↦ ge
    ]

same_no : (one other : ℕ) → one ≤ other → other ≤ one → No one ≡ No other
same_no one other a b = ap No (omega (arith, a, b))

no_and_all : (config : Config) (within : ℕ) (exchange : Exchange) (count : ℕ) → HasVerdictOver config within exchange (No count) → IsExplained config within exchange (length exchange.sent.now) → ⊥
no_and_all config within exchange count is x = is.2 (at_most_explained config within exchange (count + 1) (length exchange.sent.now) (omega (arith, is.0)) x)

pub one_verdict_over : HasOneVerdictOver
one_verdict_over config within exchange Yes Yes a b = refl
one_verdict_over config within exchange Yes (No count) a b = absurd (no_and_all config within exchange count b (whole_is_explained config within exchange a.0 a.1))
one_verdict_over config within exchange Yes Unfinished a b = absurd (b.1 a.0 a.1)
one_verdict_over config within exchange (No count) Yes a b = absurd (no_and_all config within exchange count a (whole_is_explained config within exchange b.0 b.1))
one_verdict_over config within exchange (No count) (No other) a b =
    same_no count other (no_less_no config within exchange other count b.2 a.1) (no_less_no config within exchange count other a.2 b.1)
one_verdict_over config within exchange (No count) Unfinished a b = absurd (no_and_all config within exchange count a b.0)
one_verdict_over config within exchange Unfinished Yes a b = absurd (a.1 b.0 b.1)
one_verdict_over config within exchange Unfinished (No count) a b = absurd (no_and_all config within exchange count b a.0)
one_verdict_over config within exchange Unfinished Unfinished a b = refl

each_explained : (config : Config) (within : ℕ) (exchange : Exchange) → IsTold exchange → ((verdict : VerdictOver) → ¬ HasVerdictOver config within exchange verdict)
    → (count : ℕ) → count ≤ length exchange.sent.now → (IsExplained config within exchange count → ⊥) → ⊥
each_explained config within exchange told none zero le not = not (none_explained config within exchange told)
each_explained config within exchange told none (suc count) le not =
    each_explained config within exchange told none count (omega (arith, le))
    (λ x. none (No count) (omega (arith, le), x, λ more. not (subst (λ (v : ℕ). IsExplained config within exchange v) (omega arith) more)))

pub never_none_over : NeverNoneOver
never_none_over config within exchange told none =
    each_explained config within exchange told none (length exchange.sent.now) (omega arith)
    (λ x. none Unfinished (x, λ e w. none Yes (e, w)))

-- ---- more patience

may_precede_more : (within more : ℕ) → within ≤ more → (first second : Item) → MayPrecede within first second → MayPrecede more first second
may_precede_more within more le (Received r) (Received q) h = tt
may_precede_more within more le (Received r) (Sent s) h = h
may_precede_more within more le (Received r) (Ended e) h = h
may_precede_more within more le (Sent s) (Received r) h = omega (arith, h, le)
may_precede_more within more le (Sent s) (Sent t) h = tt
may_precede_more within more le (Sent s) (Ended e) h = tt
may_precede_more within more le (Ended e) (Received r) h = omega (arith, h, le)
may_precede_more within more le (Ended e) (Sent s) h = h
may_precede_more within more le (Ended e) (Ended f) h = tt

each_may_more : (within more : ℕ) → within ≤ more → (order : List Item) → EachMayPrecede within order → EachMayPrecede more order
each_may_more within more le [] h = tt
each_may_more within more le (item ∷ later) h =
    (all_weaker (MayPrecede within item) (MayPrecede more item) (λ x k. may_precede_more within more le item x k) later h.0, each_may_more within more le later h.1)

way_more : (within more : ℕ) (exchange : Exchange) (start : State) (events : List Event) → within ≤ more → IsWay within exchange start events → IsWay more exchange start events
way_more within more exchange start events le way = record {
  starts = way.starts;
  allowed = record {
    of_received = way.allowed.of_received;
    of_sent = way.allowed.of_sent;
    of_end = way.allowed.of_end;
    each = each_may_more within more le (items_in events) way.allowed.each;
  };
  timed = way.timed;
}

pub more_patience_explains : MorePatienceExplains
more_patience_explains config within more exchange count le x = record {
  start = x.start;
  front = x.front;
  later = x.later;
  way = way_more within more exchange x.start (x.front ++ x.later) le x.way;
  counts = x.counts;
  begins = x.begins;
}

pub more_patience_keeps_ends : MorePatienceKeepsEnds
more_patience_keeps_ends config within more exchange e le x = record {
  start = x.start;
  events = x.events;
  way = way_more within more exchange x.start x.events le x.way;
  complete = x.complete;
}
