-- The verdict over all ways from the four starts is that over all ways.
use Rattle.std.proofs.Common.{◌≡◌, ◌∙◌, ◌++◌, ◌+◌, ℕ, Bool, true, false, List, [], ◌∷◌, append-nil, length, inl, inr, refl, sym, ap, subst}
use Rattle.bgp_prefix.specs.Shown as shown
use Rattle.bgp_prefix.specs.Shown.{ShownRecord}
use Rattle.streams.specs.declared.connection.Connection.{Connection}
use Rattle.bgp_open.specs.declared.config.Config.{Config}
use Rattle.bgp_machine.specs.Run.{Begins, End, end_of}
use Rattle.bgp_recording.specs.declared.framing.Framings.{Framings}
use Rattle.bgp_recording.specs.declared.message.Message.{Message}
use Rattle.bgp_recording.specs.declared.ordering.Exchange.{Exchange}
use Rattle.bgp_recording.specs.declared.standing.Before.TheVariants.{Other}
use Rattle.bgp_recording.specs.declared.state.State.{State}
use Rattle.bgp_recording.specs.Allowed.{sent_in}
use Rattle.bgp_recording.specs.States.{state_number}
use Rattle.bgp_recording.specs.Tells.{Event, items_in}
use Rattle.bgp_judge.specs.Chains.{BeginsByChains, EndsByChains, Reaches}
use Rattle.bgp_judge.specs.Member.{IsFree, Member, fresh_member}
use Rattle.bgp_judge.specs.Next.{Next}
use Rattle.bgp_orders.specs.Connections.{TellsConnection}
use Rattle.bgp_orders.specs.Explained.{IsExplained, IsWhole, No, Unfinished, Yes}
use Rattle.bgp_orders.specs.Ways.{IsWay, MayStart, records_in, records_of_front, records_of_way}
use Rattle.bgp_way_ends.specs.Starts.{IsExplainedFromAny, IsWholeFromAny, Start, TwoStartsDecide, TwoStartsEndAll, TwoStartsExplainAll, records_from, records_of_start}
use Rattle.bgp_way_ends.proofs.StartSteps.{AtStart, IsStarting, Kinds, at_start}
use Rattle.bgp_way_ends.proofs.Starts.{delayed_way, plain_way, way_from}

starting : (exchange : Exchange) (s : State) → MayStart exchange s → IsStarting s
starting exchange s (inl is, none) = subst IsStarting (sym is) tt
starting exchange s (inr is, none) = subst IsStarting (sym is) tt

module _ (config : Config) (within : ℕ) (framings : Framings) (connection : Connection) (exchange : Exchange) (tells : TellsConnection framings connection exchange) where
  kinds_of : (s : State) (events : List Event) → IsWay within exchange s events → Kinds framings.sent (sent_in (items_in events))
  kinds_of s events way = subst (λ (ms : List Message). Kinds framings.sent ms) (sym (way.allowed.of_sent ∙ tells.is.sent)) tells.said.kinds

  -- records that lead to a member
  record Chained (records : List ShownRecord) : Type 0 where
    pub last : Member
    pub goes : Reaches config fresh_member records last

  from_begins : BeginsByChains → (records : List ShownRecord) → Begins config records → Chained records
  from_begins begins records k = let x = (begins config records).0 k in record { last = x.0; goes = x.1 }

  to_begins : BeginsByChains → (records : List ShownRecord) (last : Member) → Reaches config fresh_member records last → Begins config records
  to_begins begins records last k = (begins config records).1 (last, k)

  -- the first record of each front leads to the start
  abbrev Opened : State → List ShownRecord → Member → Type 0
  Opened s records last = (m : Member) × AtStart s m × Next config (shown.Changed exchange.second 1 (state_number s)) fresh_member m × Reaches config m records last

  opened : (s : State) (records : List ShownRecord) (last : Member) → IsStarting s → Reaches config fresh_member (shown.Changed exchange.second 1 (state_number s) ∷ records) last
      → Opened s records last
  opened s records last start (mid, next, rest) = (mid, at_start config exchange.second s mid start next, next, rest)

  closed : (s : State) (records : List ShownRecord) (m last : Member) → Next config (shown.Changed exchange.second 1 (state_number s)) fresh_member m → Reaches config m records last
      → Reaches config fresh_member (shown.Changed exchange.second 1 (state_number s) ∷ records) last
  closed s records m last next rest = (m, next, rest)

  -- ---- explained

  explained_by : BeginsByChains → (count : ℕ) (s : State) (front later : List Event) (m last : Member) → IsWay within exchange s (front ++ later)
      → length (sent_in (items_in front)) ≡ count → Next config (shown.Changed exchange.second 1 (state_number s)) fresh_member m
      → Reaches config m (records_in s Other front later) last → IsExplained config within exchange count
  explained_by begins count s front later m last way counts next rest = record {
    start = s;
    front = front;
    later = later;
    way = way;
    counts = counts;
    begins = to_begins begins (records_of_front exchange.second s front later) last (closed s (records_in s Other front later) m last next rest);
  }

  -- nothing is sent: the first record is enough
  none_sent : BeginsByChains → (count : ℕ) (s : State) (front later : List Event) (m : Member) → IsWay within exchange s (front ++ later)
      → length (sent_in (items_in front)) ≡ count → sent_in (items_in front) ≡ [] → Next config (shown.Changed exchange.second 1 (state_number s)) fresh_member m
      → IsExplained config within exchange count
  none_sent begins count s front later m way counts none next =
      explained_by begins count s [] (front ++ later) m m way (sym (ap length none) ∙ counts) next refl

  two_explain : BeginsByChains → (count : ℕ) (s : State) (d : Bool) (front later : List Event) (last : Member) → IsWay within exchange s (front ++ later)
      → length (sent_in (items_in front)) ≡ count → Opened s (records_from (record { state = s; is_delayed = d }) front later) last → IsExplained config within exchange count
  two_explain begins count s false front later last way counts (m, begun, next, rest) =
      elim (plain_way config framings.sent s (starting exchange s way.starts) m last front later begun (kinds_of s (front ++ later) way) rest) [
        | inl goes ↦ explained_by begins count s front later m last way counts next goes
        | inr none ↦ none_sent begins count s front later m way counts none.0 next
      ]
  two_explain begins count s true front later last way counts (m, begun, next, rest) =
      elim (delayed_way config framings.sent s (starting exchange s way.starts) m last front later begun (kinds_of s (front ++ later) way) rest) [
        | inl goes ↦ explained_by begins count s front later m last way counts next goes
        | inr cut ↦ elim cut.1 [
          | inl none ↦ none_sent begins count s front later m way counts none next
          | inr other ↦ explained_by begins count s front later m other.last way counts next other.goes
        ]
      ]

  to_two : BeginsByChains → (count : ℕ) → IsExplainedFromAny config within exchange count → IsExplained config within exchange count
  to_two begins count x =
      let s = x.start.state in
      let start = starting exchange s x.way.starts in
      let k = from_begins begins (records_of_start exchange.second x.start x.front x.later) x.begins in
      two_explain begins count s x.start.is_delayed x.front x.later k.last x.way x.counts (opened s (records_from x.start x.front x.later) k.last start k.goes)

  any_explains : BeginsByChains → (count : ℕ) (s : State) (front later : List Event) (last : Member) → IsWay within exchange s (front ++ later)
      → length (sent_in (items_in front)) ≡ count → Opened s (records_in s Other front later) last → IsExplainedFromAny config within exchange count
  any_explains begins count s front later last way counts (m, begun, next, rest) =
      let k = way_from config framings.sent s (starting exchange s way.starts) m last front later begun (kinds_of s (front ++ later) way) rest in
      let one : Start = record { state = s; is_delayed = k.is_delayed } in record {
        start = one;
        front = front;
        later = later;
        way = way;
        counts = counts;
        begins = to_begins begins (records_of_start exchange.second one front later) last (closed s (records_from one front later) m last next k.goes);
      }

  to_any : BeginsByChains → (count : ℕ) → IsExplained config within exchange count → IsExplainedFromAny config within exchange count
  to_any begins count x =
      let k = from_begins begins (records_of_front exchange.second x.start x.front x.later) x.begins in
      any_explains begins count x.start x.front x.later k.last x.way x.counts
      (opened x.start (records_in x.start Other x.front x.later) k.last (starting exchange x.start x.way.starts) k.goes)

  -- ---- whole

  all_events : (s : State) (events : List Event) → IsWay within exchange s events → Kinds framings.sent (sent_in (items_in (events ++ [])))
  all_events s events way = subst (λ (es : List Event). Kinds framings.sent (sent_in (items_in es))) (sym (append-nil events)) (kinds_of s events way)

  two_end : (s : State) (d : Bool) (events : List Event) (last : Member) → IsWay within exchange s events → IsFree last
      → Opened s (records_from (record { state = s; is_delayed = d }) events []) last → Reaches config fresh_member (records_of_way exchange.second s events) last
  two_end s false events last way free (m, begun, next, rest) =
      elim (plain_way config framings.sent s (starting exchange s way.starts) m last events [] begun (all_events s events way) rest) [
        | inl goes ↦ closed s (records_in s Other events []) m last next goes
        | inr none ↦ absurd (none.1 (ap (λ (es : List Event). sent_in (items_in es)) (append-nil events) ∙ none.0))
      ]
  two_end s true events last way free (m, begun, next, rest) =
      elim (delayed_way config framings.sent s (starting exchange s way.starts) m last events [] begun (all_events s events way) rest) [
        | inl goes ↦ closed s (records_in s Other events []) m last next goes
        | inr cut ↦ absurd (cut.0 free)
      ]

  to_two_ends : EndsByChains → (e : End) → IsWholeFromAny config within exchange e → IsWhole config within exchange e
  to_two_ends ends e x =
      let s = x.start.state in
      let k = (ends config (records_of_start exchange.second x.start x.events []) e).0 x.complete in
      let reached = two_end s x.start.is_delayed x.events k.0 x.way k.2
      (opened s (records_from x.start x.events []) k.0 (starting exchange s x.way.starts) k.1) in record {
        start = s;
        events = x.events;
        way = x.way;
        complete = (ends config (records_of_way exchange.second s x.events) e).1 (k.0, reached, k.2, k.3);
      }

  any_ends : EndsByChains → (e : End) (s : State) (events : List Event) (last : Member) → IsWay within exchange s events → IsFree last → end_of last.state ≡ e
      → Opened s (records_in s Other events []) last → IsWholeFromAny config within exchange e
  any_ends ends e s events last way free is (m, begun, next, rest) =
      let k = way_from config framings.sent s (starting exchange s way.starts) m last events [] begun (all_events s events way) rest in
      let one : Start = record { state = s; is_delayed = k.is_delayed } in record {
        start = one;
        events = events;
        way = way;
        complete = (ends config (records_of_start exchange.second one events []) e).1 (last, closed s (records_from one events []) m last next k.goes, free, is);
      }

  to_any_ends : EndsByChains → (e : End) → IsWhole config within exchange e → IsWholeFromAny config within exchange e
  to_any_ends ends e x =
      let k = (ends config (records_of_way exchange.second x.start x.events) e).0 x.complete in
      any_ends ends e x.start x.events k.0 x.way k.2 k.3
      (opened x.start (records_in x.start Other x.events []) k.0 (starting exchange x.start x.way.starts) k.1)

-- ---- the laws

pub explain_all : BeginsByChains → TwoStartsExplainAll
explain_all begins config within framings connection exchange count tells =
    (to_two config within framings connection exchange tells begins count, to_any config within framings connection exchange tells begins count)

pub end_all : EndsByChains → TwoStartsEndAll
end_all ends config within framings connection exchange e tells =
    (to_two_ends config within framings connection exchange tells ends e, to_any_ends config within framings connection exchange tells ends e)

pub decide : TwoStartsExplainAll → TwoStartsEndAll → TwoStartsDecide
decide explain end config within framings connection exchange Yes tells = (
  λ k. (k.0, (end config within framings connection exchange k.0 tells).0 k.1),
  λ k. (k.0, (end config within framings connection exchange k.0 tells).1 k.1),
)
decide explain end config within framings connection exchange (No count) tells =
    let here = explain config within framings connection exchange count tells in
    let next = explain config within framings connection exchange (count + 1) tells in
    (λ k. (k.0, here.0 k.1, λ x. k.2 (next.1 x)), λ k. (k.0, here.1 k.1, λ x. k.2 (next.0 x)))
decide explain end config within framings connection exchange Unfinished tells =
    let all = explain config within framings connection exchange (length exchange.sent.now) tells in
    let ends = λ (e : End). end config within framings connection exchange e tells in
    (λ k. (all.0 k.0, λ e x. k.1 e ((ends e).1 x)), λ k. (all.1 k.0, λ e x. k.1 e ((ends e).0 x)))
