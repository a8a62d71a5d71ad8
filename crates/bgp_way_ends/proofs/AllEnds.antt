-- The ends of a whole way are all ends of its exchange, and those that a yes lists all of its connection.
use Rattle.std.proofs.Common.{◌≡◌, ◌∙◌, ℕ, List, [], ◌∷◌, length, Option, MatchOption, inl, inr, refl, sym, ap, subst, map}
use Rattle.std.specs.List.{AllByRecursion}
use Rattle.bgp_prefix.specs.Shown as shown
use Rattle.bgp_prefix.specs.Shown.{ShownRecord}
use Rattle.streams.specs.declared.connection.Connection.{Connection}
use Rattle.streams.specs.declared.passed.Side.{Side}
use Rattle.streams.specs.declared.passed.Side.TheVariants as sides
use Rattle.bgp_wire.specs.Header.{header_of, type_of}
use Rattle.bgp_wire.specs.Framing.{IsFrame}
use Rattle.bgp_wire.specs.Verdict.{type_code}
use Rattle.bgp_wire.specs.declared.header.MessageType.{MessageType}
use Rattle.bgp_open.specs.declared.config.Config.{Config}
use Rattle.bgp_machine.specs.Lists.{Each, Has}
use Rattle.bgp_machine.specs.Run.{End, IsComplete}
use Rattle.bgp_recording.specs.declared.framing.Framing.{Framing}
use Rattle.bgp_recording.specs.declared.framing.Framings.{Framings}
use Rattle.bgp_recording.specs.declared.framing.Unshown.{Unshown}
use Rattle.bgp_recording.specs.declared.message.Message.{Message}
use Rattle.bgp_recording.specs.declared.ordering.Exchange.{Exchange}
use Rattle.bgp_recording.specs.declared.standing.Before.TheVariants.{Other}
use Rattle.bgp_recording.specs.Captured.{records_of}
use Rattle.bgp_recording.specs.Changes.{opened_state}
use Rattle.bgp_recording.specs.Framed.{HasKind}
use Rattle.bgp_recording.specs.Pieces.{IsFaultyOf}
use Rattle.bgp_recording.specs.Gathered.{IsClocked, IsHeard, IsSaid}
use Rattle.bgp_recording.specs.Moments.{end_moment}
use Rattle.bgp_recording.specs.Once.{AreSame}
use Rattle.bgp_recording.specs.States.{state_number}
use Rattle.bgp_recording.specs.Tells.{Numbered}
use Rattle.bgp_recording.specs.Values.{MessageValue, values_of}
use Rattle.bgp_recording.proofs.Heard.{own_end_is}
use Rattle.bgp_ended.proofs.OneFraming.{IsTimed, are_timed, end_by, heard_once, said_once}
use Rattle.bgp_judge.specs.Chains.{EndsByChains}
use Rattle.bgp_judge.specs.Told.{EachRunIsAsTold}
use Rattle.bgp_orders.specs.Connections.{TellsConnection}
use Rattle.bgp_orders.specs.Entries.{EntriesShowTheWay}
use Rattle.bgp_orders.specs.WholeWays.{CanHaveEnded}
use Rattle.bgp_orders.specs.Ways.{records_of_way}
use Rattle.bgp_orders.proofs.Ways.{same_records}
use Rattle.bgp_way_ends.specs.Connections.{ListsState, MadeOrderListsAllEnds, WayListsAllEnds}
use Rattle.bgp_way_ends.specs.OneState.{EachWholeWayTellsAllEnds, IsTyped, WholeWaysEndInOneState}
use Rattle.bgp_way_ends.specs.EveryEnd.{MadeYesListsEveryEnd, WayYesListsEveryEnd}
use Rattle.bgp_way_ends.specs.WayEnds.{OneWayTellsAllEnds, WholeWay}
use Rattle.bgp_way_ends.proofs.Connections.{map_map}
use Rattle.bgp_way_ends.proofs.Ended.{Begins, kinds_of}
use Rattle.bgp_way_ends.proofs.OneState.{AreTyped}
use Rattle.bgp_way_ends.proofs.WayEnds.{octets_of}
use Rattle.bgp_way_ends.proofs.WholeState.{ExchangeValue, HaveTypes, IsLike, Whole, end_in_one_state}

-- ---- of an exchange

abbrev value_of : Exchange → ExchangeValue
value_of exchange = record {
  opened_by = exchange.opened_by;
  second = exchange.second;
  received = exchange.received.now;
  sent = exchange.sent.now;
  end = exchange.end;
}

abbrev whole_of : (config : Config) (within : ℕ) (exchange : Exchange) → WholeWay config within exchange → Whole config within (value_of exchange)
whole_of config within exchange one = record {
  start = one.start;
  events = one.events;
  begins = one.way.starts.0;
  alone = one.way.starts.1;
  allowed = one.way.allowed;
  end = one.end;
  complete = one.complete;
}

same_like : (a : ExchangeValue) → IsLike a a
same_like a = record { opened_by = refl; received = refl; sent = refl; kinds = refl; end = refl }

pub in_one_state : EndsByChains → EachRunIsAsTold → WholeWaysEndInOneState
in_one_state ends each config within exchange types one other =
    let have : HaveTypes (value_of exchange) = record { received = types.received; sent = types.sent } in
    end_in_one_state config within ends each (value_of exchange) (value_of exchange) (same_like (value_of exchange)) have have
    (whole_of config within exchange one) (whole_of config within exchange other)

pub tells_all : WholeWaysEndInOneState → OneWayTellsAllEnds → EachWholeWayTellsAllEnds
tells_all state all config within exchange types one e = (
  λ whole.
      let other : WholeWay config within exchange = record { start = whole.start; events = whole.events; way = whole.way; end = e; complete = whole.complete } in
      (all config within exchange one e (state config within exchange types other one)).0 whole,
  λ ends. record { start = one.start; events = one.events; way = one.way; complete = ends },
)

-- ---- of a connection

abbrev Kind : Framing → Message → Option MessageType → Type 0
Kind framing m kind =
    MatchOption kind ((length m.octets.now ≡ 19) × IsFaultyOf framing m.octets.now)
    (λ k. IsFrame framing.limit m.octets.now × (type_code k ≡ type_of (header_of m.octets.now)))

typed_by : (framing : Framing) (m : Message) → HasKind framing m → IsTyped m
typed_by framing m has e = sym (subst (Kind framing m) e has).1

are_typed : (framing : Framing) (ms : List Message) → AllByRecursion (HasKind framing) ms → AreTyped ms
are_typed framing [] each = tt
are_typed framing (m ∷ ms) each = (typed_by framing m each.0, are_typed framing ms each.1)

octets_by : (ms : List Message) → octets_of ms ≡ map (λ (v : MessageValue). v.octets) (values_of ms)
octets_by [] = refl
octets_by (m ∷ ms) = ap (λ (os : List (List ℕ)). m.octets.now ∷ os) (octets_by ms)

kinds_by : (ms : List Message) → kinds_of ms ≡ map (λ (v : MessageValue). v.kind) (values_of ms)
kinds_by [] = refl
kinds_by (m ∷ ms) = ap (λ (ks : List (Option MessageType)). m.kind ∷ ks) (kinds_by ms)

same_octets : (ms ns : List Message) → values_of ms ≡ values_of ns → octets_of ms ≡ octets_of ns
same_octets ms ns e = octets_by ms ∙ ap (λ (vs : List MessageValue). map (λ (v : MessageValue). v.octets) vs) e ∙ sym (octets_by ns)

same_kinds : (ms ns : List Message) → values_of ms ≡ values_of ns → kinds_of ms ≡ kinds_of ns
same_kinds ms ns e = kinds_by ms ∙ ap (λ (vs : List MessageValue). map (λ (v : MessageValue). v.kind) vs) e ∙ sym (kinds_by ns)

-- what the packets of a connection tell, with these of its messages
abbrev value_with : Connection → List Message → List Message → ExchangeValue
value_with connection rs ss = record { opened_by = connection.opened_by; second = connection.second; received = rs; sent = ss; end = connection.end }

record AreMessages (framings : Framings) (connection : Connection) (rs ss : List Message) : Type 0 where
  pub received_unshown : Unshown
  pub sent_unshown : Unshown
  pub heard : IsHeard framings.received connection.received rs received_unshown
  pub said : IsSaid framings.sent connection.sent connection.end ss sent_unshown

have_types : (framings : Framings) (connection : Connection) (rs ss : List Message) → AreMessages framings connection rs ss → HaveTypes (value_with connection rs ss)
have_types framings connection rs ss h = record { received = are_typed framings.received rs h.heard.kinds; sent = are_typed framings.sent ss h.said.kinds }

are_like : (framings : Framings) (connection : Connection) (rs ss rs' ss' : List Message) → IsClocked connection → AreMessages framings connection rs ss
    → AreMessages framings connection rs' ss' → IsLike (value_with connection rs ss) (value_with connection rs' ss')
are_like framings connection rs ss rs' ss' clocked h k =
    let clock = clocked.clock in
    let fractions = clocked.fractions in
    let fraction = fractions.fraction in
    let came = are_timed clock fraction connection.packet connection.received.runs.now clocked.received fractions.received in
    let made = are_timed clock fraction connection.packet connection.sent.runs.now clocked.sent fractions.sent in
    let ends = own_end_is (IsTimed clock fraction) connection.end
    (end_by _ _ (λ e. IsTimed clocked.clock clocked.fractions.fraction (end_moment e)) connection.end (λ e g f. (g.0, f)) clocked.ends fractions.ends) in
    let same : AreSame connection.received connection.received = record { octets = refl; givers = λ place. refl } in
    let same_sent : AreSame connection.sent connection.sent = record { octets = refl; givers = λ place. refl } in
    let r = (heard_once framings.received clock fraction connection.received connection.received rs rs' h.received_unshown k.received_unshown same came h.heard k.heard).0 in
    let s = (said_once framings.sent clock fraction connection.sent connection.sent connection.end ss ss' h.sent_unshown k.sent_unshown same_sent made ends h.said k.said).0 in
    record { opened_by = refl; received = same_octets rs rs' r; sent = same_octets ss ss' s; kinds = same_kinds ss ss' s; end = refl }

-- a whole way of a connection's messages
record WholeOver (config : Config) (within : ℕ) (framings : Framings) (connection : Connection) (e : End) : Type 0 where
  pub rs : List Message
  pub ss : List Message
  pub messages : AreMessages framings connection rs ss
  pub whole : Whole config within (value_with connection rs ss)
  pub ends : whole.end ≡ e

one_over : EndsByChains → EachRunIsAsTold → (config : Config) (within : ℕ) (framings : Framings) (connection : Connection) (e f : End) → IsClocked connection
    → WholeOver config within framings connection e → WholeOver config within framings connection f → e.fsm ≡ f.fsm
one_over ends each config within framings connection e f clocked a b =
    let one = value_with connection a.rs a.ss in
    let other = value_with connection b.rs b.ss in
    ap (λ (v : End). v.fsm) (sym a.ends)
    ∙ end_in_one_state config within ends each one other (are_like framings connection a.rs a.ss b.rs b.ss clocked a.messages b.messages)
    (have_types framings connection a.rs a.ss a.messages) (have_types framings connection b.rs b.ss b.messages) a.whole b.whole
    ∙ ap (λ (v : End). v.fsm) b.ends

-- the exchange says what the connection's packets do
same_value : (framings : Framings) (connection : Connection) (exchange : Exchange) (tells : TellsConnection framings connection exchange)
    → value_of exchange ≡ value_with connection tells.received tells.sent
same_value framings connection exchange tells =
    let is = tells.is in
    λ i. record { opened_by = is.opened_by i; second = is.second i; received = is.received i; sent = is.sent i; end = is.end i }

moved_whole : (config : Config) (within : ℕ) (a b : ExchangeValue) → a ≡ b → (one : Whole config within a) → (other : Whole config within b) × (other.end ≡ one.end)
moved_whole config within a b same one = subst (λ (v : ExchangeValue). (other : Whole config within v) × (other.end ≡ one.end)) same (one, refl)

over_of : (config : Config) (within : ℕ) (framings : Framings) (connection : Connection) (exchange : Exchange) → TellsConnection framings connection exchange
    → (one : WholeWay config within exchange) → WholeOver config within framings connection one.end
over_of config within framings connection exchange tells one = record {
  rs = tells.received;
  ss = tells.sent;
  messages = record { received_unshown = tells.received_unshown; sent_unshown = tells.sent_unshown; heard = tells.heard; said = tells.said };
  whole = (moved_whole config within (value_of exchange) (value_with connection tells.received tells.sent) (same_value framings connection exchange tells)
      (whole_of config within exchange one)).0;
  ends = (moved_whole config within (value_of exchange) (value_with connection tells.received tells.sent) (same_value framings connection exchange tells)
      (whole_of config within exchange one)).1;
}

-- ---- what a yes lists

has_first : (ends : List End) → (ends ≡ [] → ⊥) → (one : End) × Has (λ x. x ≡ one) ends
has_first [] some = absurd (some refl)
has_first (x ∷ ends) some = (x, inl refl)

complete_of : (config : Config) (records : List ShownRecord) (ends : List End) (e : End) → Each (IsComplete config records) ends → Has (λ x. x ≡ e) ends → IsComplete config records e
complete_of config records [] e each has = absurd has
complete_of config records (x ∷ ends) e each (inl same) = subst (IsComplete config records) same each.0
complete_of config records (x ∷ ends) e each (inr has) = complete_of config records ends e each.1 has

lists_state : (ends : List End) (one e : End) → one.fsm ≡ e.fsm → Has (λ x. x ≡ one) ends → ListsState ends e
lists_state [] one e state has = absurd has
lists_state (x ∷ ends) one e state (inl same) = inl (ap (λ (v : End). v.fsm) same ∙ state)
lists_state (x ∷ ends) one e state (inr has) = inr (lists_state ends one e state has)

either_side : (side : Side) → Begins (opened_state side)
either_side sides.Local = inl refl
either_side sides.Peer = inr refl

module _ (by_chains : EndsByChains) (each_told : EachRunIsAsTold) (show : EntriesShowTheWay) where
  can_over : (config : Config) (within : ℕ) (framings : Framings) (connection : Connection) (e : End) → CanHaveEnded config within framings connection e
      → WholeOver config within framings connection e
  can_over config within framings connection e can =
      over_of config within framings connection can.exchange can.tells
      (record { start = can.whole.start; events = can.whole.events; way = can.whole.way; end = e; complete = can.whole.complete })

  pub way_yes : WayListsAllEnds → WayYesListsEveryEnd
  way_yes lists_all config within framings connection entries received sent ends e clocked of lists some =
      let it = of.of in
      let same = show within of.exchange entries it in
      let first = has_first ends some in
      let complete = complete_of config (records_of entries) ends first.0 lists.each first.1 in
      let mine : WholeWay config within of.exchange = record {
        start = it.start;
        events = it.events;
        way = it.way;
        end = first.0;
        complete = subst (λ (r : List ShownRecord). IsComplete config r first.0) same complete;
      } in
      let all = lists_all config within framings connection entries received sent ends e clocked of lists in (
        λ can.
            let state = one_over by_chains each_told config within framings connection first.0 e clocked
            (over_of config within framings connection of.exchange of.tells mine) (can_over config within framings connection e can) in
            (all (lists_state ends first.0 e state first.1)).0 can,
        λ has. (all (lists_state ends e e refl has)).1 has,
      )

  pub made_yes : MadeOrderListsAllEnds → MadeYesListsEveryEnd
  made_yes lists_all config within framings connection entries received sent ends e clocked recorded lists some can =
      let tells = recorded.tells in
      let start = opened_state connection.opened_by in
      let same : records_of entries ≡ records_of_way connection.second start tells.events =
      sym (map_map entries) ∙ ap (λ (v : List Numbered). map (λ (n : Numbered). n.shown) v) tells.shown
      ∙ ap (λ (rs : List ShownRecord). shown.Changed connection.second 1 (state_number start) ∷ rs) (same_records start Other tells.events) in
      let first = has_first ends some in
      let complete = complete_of config (records_of entries) ends first.0 lists.each first.1 in
      let mine : WholeOver config within framings connection first.0 = record {
        rs = recorded.received;
        ss = recorded.sent;
        messages = record { received_unshown = received; sent_unshown = sent; heard = recorded.heard; said = recorded.said };
        whole = record {
          start = start;
          events = tells.events;
          begins = either_side connection.opened_by;
          alone = λ none none_sent. refl;
          allowed = tells.allowed;
          end = first.0;
          complete = subst (λ (r : List ShownRecord). IsComplete config r first.0) same complete;
        };
        ends = refl;
      } in
      let state = one_over by_chains each_told config within framings connection first.0 e clocked mine (can_over config within framings connection e can) in
      lists_all config within framings connection entries received sent ends e clocked recorded lists (lists_state ends first.0 e state first.1) can
