-- What records of a connection have in common, whichever order they are in.
use Rattle.std.proofs.Common.{◌≡◌, ◌∙◌, ◌⊎◌, ◌↔◌, ℕ, Bool, true, false, IsTrue, List, [], ◌∷◌, Option, None, Some, ap, append-nil, inl, inr, length, map, option_map, refl, subst, sym}
use Rattle.bgp_prefix.specs.Shown as shown
use Rattle.bgp_prefix.specs.Shown.{ShownRecord}
use Rattle.mrt.specs.Reader.{shown_of}
use Rattle.streams.specs.declared.connection.Connection.{Connection}
use Rattle.streams.specs.declared.connection.End.{End as TheEnd}
use Rattle.bgp_open.specs.Open.{IsOpen, OpenFields, open_of}
use Rattle.bgp_open.specs.OpenFault.{IsWellFormed}
use Rattle.bgp_open.specs.declared.config.Config.{Config}
use Rattle.bgp_machine.specs.Run.{Begins, End, IsComplete}
use Rattle.bgp_recording.specs.Allowed.{IsAllowed, received_in, sent_in}
use Rattle.bgp_recording.specs.Captured.{records_of}
use Rattle.bgp_recording.specs.Changes.{opened_state}
use Rattle.bgp_recording.specs.Gathered.{IsClocked}
use Rattle.bgp_recording.specs.Recorded.{IsRecorded}
use Rattle.bgp_recording.specs.States.{state_number}
use Rattle.bgp_recording.specs.Tells.{AreTimed, Event, Numbered, items_in, numbered_of}
use Rattle.bgp_recording.specs.declared.entry.Entry.{Entry}
use Rattle.bgp_recording.specs.declared.framing.Framings.{Framings}
use Rattle.bgp_recording.specs.declared.framing.Unshown.{Unshown}
use Rattle.bgp_recording.specs.declared.message.Message.{Message}
use Rattle.bgp_recording.specs.declared.ordering.Exchange.{Exchange}
use Rattle.bgp_recording.specs.declared.standing.Before.TheVariants.{Other}
use Rattle.bgp_recording.specs.declared.state.State.{State}
use Rattle.bgp_orders.specs.Connections.{TellsConnection}
use Rattle.bgp_orders.specs.Explained.{IsExplained, IsWhole}
use Rattle.bgp_orders.specs.WholeWays.{AreOfAWayOver}
use Rattle.bgp_orders.specs.Ways.{IsWay, records_of_way}
use Rattle.bgp_orders.proofs.Entries.{entries_show_the_way}
use Rattle.bgp_orders.proofs.Ways.{opened_either, same_records}
use Rattle.bgp_parts.specs.Confederations.{SomeShowConfederations}
use Rattle.bgp_parts.specs.Opens.{FirstReceived, FirstSent, IsOpenMessage}
use Rattle.bgp_check.specs.NotJudged.{HasExtendedLength, IsWhyNot, SendsSome, why_not}
use Rattle.bgp_check.specs.Stretch.{IsStretch}
use Rattle.bgp_check.specs.WidestOf.{AreTold}
use Rattle.bgp_check.specs.declared.not_judged.NotJudged.{NotJudged}
use Rattle.bgp_check_tool.specs.Orders.{records_received, records_sent}
use Rattle.bgp_check_tool.proofs.SameWays.{OtherOrder, other_order, other_way, same_values}
use Rattle.bgp_check_tool.proofs.WayMessages.{confederations_alike, first_received, first_sent, one_received, one_sent, sends_alike}
use Rattle.bgp_check_tool.proofs.WayRecords.{front_is_stretch, received_first, sent_first}

-- the records are those of some way of an exchange
pub record AreOfWay (within : ℕ) (exchange : Exchange) (records : List ShownRecord) : Type 0 where
  pub start : State
  pub events : List Event
  pub way : IsWay within exchange start events
  pub same : records ≡ records_of_way exchange.second start events

shown_by : (entries : List Entry) → map (λ (n : Numbered). n.shown) (map numbered_of entries) ≡ records_of entries
shown_by [] = refl
shown_by (e ∷ entries) = ap (λ (rest : List ShownRecord). shown_of e.record ∷ rest) (shown_by entries)

-- ---- of entries that tell a connection

module _ (within : ℕ) (framings : Framings) (connection : Connection) (entries : List Entry) (received sent : Unshown) (recorded : IsRecorded framings within connection entries received sent) where
  -- their records are those of the events that they tell
  pub recorded_shows : records_of entries ≡ records_of_way connection.second (opened_state connection.opened_by) recorded.tells.events
  recorded_shows =
      let start = opened_state connection.opened_by in
      sym (shown_by entries) ∙ ap (map (λ (n : Numbered). n.shown)) recorded.tells.shown
      ∙ ap (λ (rs : List ShownRecord). shown.Changed connection.second 1 (state_number start) ∷ rs) (same_records start Other recorded.tells.events)

  -- and the first message that is such is that of their messages
  pub recorded_sent : (Is : List ℕ → Type 0) (found : Option (List ℕ)) → FirstSent Is (records_of entries) found → FirstSent Is (records_sent recorded.sent) found
  recorded_sent Is found first =
      subst (λ (ms : List Message). FirstSent Is (records_sent ms) found) recorded.tells.allowed.of_sent
      (first_sent Is (opened_state connection.opened_by) Other recorded.tells.events [] found (subst (λ (rs : List ShownRecord). FirstSent Is rs found) recorded_shows first))

  pub recorded_received : (Is : List ℕ → Type 0) (found : Option (List ℕ)) → FirstReceived Is (records_of entries) found → FirstReceived Is (records_received recorded.received) found
  recorded_received Is found first =
      subst (λ (ms : List Message). FirstReceived Is (records_received ms) found) recorded.tells.allowed.of_received
      (first_received Is (opened_state connection.opened_by) Other recorded.tells.events [] found (subst (λ (rs : List ShownRecord). FirstReceived Is rs found) recorded_shows first))

-- ---- of a connection

module _ (within : ℕ) (framings : Framings) (connection : Connection) (exchange : Exchange) (tells : TellsConnection framings connection exchange) (clocked : IsClocked connection) where
  -- those in the made order, or in another that the packets allow
  pub recorded_way : (entries : List Entry) (received sent : Unshown) → IsRecorded framings within connection entries received sent → AreOfWay within exchange (records_of entries)
  recorded_way entries received sent recorded =
      let t = recorded.tells in
      let start = opened_state connection.opened_by in
      let values =
      same_values framings connection recorded.received recorded.sent tells.received tells.sent received sent tells.received_unshown tells.sent_unshown clocked recorded.heard recorded.said tells.heard
      tells.said in
      let k : OtherOrder within connection.second start tells.received tells.sent connection.end t.events =
      other_order within connection.second start recorded.received recorded.sent tells.received tells.sent connection.end t.events values.0 values.1 t.allowed t.timed in
      record {
        start = start;
        events = k.order;
        way = record {
          starts = (opened_either connection.opened_by, λ none_received none_sent. ap opened_state (sym tells.is.opened_by));
          allowed = subst (λ (rs : List Message). IsAllowed within rs exchange.sent.now exchange.end (items_in k.order)) (sym tells.is.received)
              (subst (λ (ss : List Message). IsAllowed within tells.received ss exchange.end (items_in k.order)) (sym tells.is.sent)
              (subst (λ (e : Option TheEnd). IsAllowed within tells.received tells.sent e (items_in k.order)) (sym tells.is.end) k.allowed));
          timed = subst (λ (t : ℕ). AreTimed t k.order) (sym tells.is.second) k.timed;
        };
        same = sym (shown_by entries) ∙ ap (map (λ (n : Numbered). n.shown)) t.shown
            ∙ ap (λ (rs : List ShownRecord). shown.Changed connection.second 1 (state_number start) ∷ rs) (same_records start Other t.events) ∙ k.same
            ∙ ap (λ (t : ℕ). records_of_way t start k.order) (sym tells.is.second);
      }

  -- and those of a way
  pub found_way : (entries : List Entry) (received sent : Unshown) → AreOfAWayOver framings within connection entries received sent → AreOfWay within exchange (records_of entries)
  found_way entries received sent over =
      let k = other_way framings connection clocked over.exchange exchange over.tells tells within over.of.start over.of.events over.of.way in
      record { start = over.of.start; events = k.0; way = k.1; same = entries_show_the_way within over.exchange entries over.of ∙ k.2 }

-- ---- of an exchange

module _ (within : ℕ) (exchange : Exchange) (records : List ShownRecord) (of : AreOfWay within exchange records) where
  pub way_stretch : IsStretch records
  way_stretch = subst IsStretch (sym of.same) (front_is_stretch exchange.second of.start of.events [] of.way.starts.0)

  -- the first message that is such is that of the messages
  pub way_sent : (Is : List ℕ → Type 0) (found : Option (List ℕ)) → FirstSent Is (records_sent exchange.sent.now) found → FirstSent Is records found
  way_sent Is found first =
      subst (λ (rs : List ShownRecord). FirstSent Is rs found) (sym of.same)
      (sent_first Is of.start Other of.events [] found (subst (λ (ms : List Message). FirstSent Is (records_sent ms) found) (sym of.way.allowed.of_sent) first))

  pub sent_by_way : (Is : List ℕ → Type 0) (found : Option (List ℕ)) → FirstSent Is records found → FirstSent Is (records_sent exchange.sent.now) found
  sent_by_way Is found first =
      subst (λ (ms : List Message). FirstSent Is (records_sent ms) found) of.way.allowed.of_sent
      (first_sent Is of.start Other of.events [] found (subst (λ (rs : List ShownRecord). FirstSent Is rs found) of.same first))

  pub way_received : (Is : List ℕ → Type 0) (found : Option (List ℕ)) → FirstReceived Is (records_received exchange.received.now) found → FirstReceived Is records found
  way_received Is found first =
      subst (λ (rs : List ShownRecord). FirstReceived Is rs found) (sym of.same)
      (received_first Is of.start Other of.events [] found (subst (λ (ms : List Message). FirstReceived Is (records_received ms) found) (sym of.way.allowed.of_received) first))

  pub received_by_way : (Is : List ℕ → Type 0) (found : Option (List ℕ)) → FirstReceived Is records found → FirstReceived Is (records_received exchange.received.now) found
  received_by_way Is found first =
      subst (λ (ms : List Message). FirstReceived Is (records_received ms) found) of.way.allowed.of_received
      (first_received Is of.start Other of.events [] found (subst (λ (rs : List ShownRecord). FirstReceived Is rs found) of.same first))

  -- if they begin a run, all that was sent is explained
  pub way_explains : (config : Config) → Begins config records → IsExplained config within exchange (length exchange.sent.now)
  way_explains config begins = record {
    start = of.start;
    front = of.events;
    later = [];
    way = subst (λ (v : List Event). IsWay within exchange of.start v) (sym (append-nil of.events)) of.way;
    counts = ap length of.way.allowed.of_sent;
    begins = subst (λ (rs : List ShownRecord). Begins config rs) of.same begins;
  }

  pub way_whole : (config : Config) (e : End) → IsComplete config records e → IsWhole config within exchange e
  way_whole config e complete = record { start = of.start; events = of.events; way = of.way; complete = subst (λ (rs : List ShownRecord). IsComplete config rs e) of.same complete }

-- ---- two of one exchange are judged, or neither is

same_bool : (a b : Bool) (P Q : Type 0) → (IsTrue a ↔ P) → (IsTrue b ↔ Q) → (P → Q) → (Q → P) → a ≡ b
same_bool true true P Q h k to from = refl
same_bool false false P Q h k to from = refl
same_bool true false P Q h k to from = absurd (let no = k.1 (to (h.0 refl)) in cc)
same_bool false true P Q h k to from = absurd (let no = h.1 (from (k.0 refl)) in cc)

pub same_told : (peers : Option (List ℕ)) (one other : Option OpenFields) → AreTold peers one → AreTold peers other → one ≡ other
same_told None one other is too = is ∙ sym too
same_told (Some octets) one other (inl is) (inl too) = is.1 ∙ sym too.1
same_told (Some octets) one other (inl is) (inr too) = absurd (too.0 is.0)
same_told (Some octets) one other (inr is) (inl too) = absurd (is.0 too.0)
same_told (Some octets) one other (inr is) (inr too) = is.1 ∙ sym too.1

none_why : (why : NotJudged) → None ≡ Some why → ⊥
none_why why e = cc

module _ (within : ℕ) (exchange : Exchange) (one other : List ShownRecord) (of : AreOfWay within exchange one) (of2 : AreOfWay within exchange other) where
  their_received : received_in (items_in of.events) ≡ received_in (items_in of2.events)
  their_received = of.way.allowed.of_received ∙ sym of2.way.allowed.of_received

  their_sent : sent_in (items_in of.events) ≡ sent_in (items_in of2.events)
  their_sent = of.way.allowed.of_sent ∙ sym of2.way.allowed.of_sent

  sends_too : SendsSome one → SendsSome other
  sends_too sends =
      subst SendsSome (sym of2.same)
      (sends_alike exchange.second exchange.second of.start of2.start of.events of2.events their_received their_sent (subst SendsSome of.same sends))

  confederations_too : SomeShowConfederations one → SomeShowConfederations other
  confederations_too some =
      subst SomeShowConfederations (sym of2.same)
      (confederations_alike exchange.second exchange.second of.start of2.start of.events of2.events their_received their_sent (subst SomeShowConfederations of.same some))

  same_sent : (Is : List ℕ → Type 0) (a b : Option (List ℕ)) → FirstSent Is one a → FirstSent Is other b → a ≡ b
  same_sent Is a b has too = one_sent Is other a b (way_sent within exchange other of2 Is a (sent_by_way within exchange one of Is a has)) too

  same_received : (Is : List ℕ → Type 0) (a b : Option (List ℕ)) → FirstReceived Is one a → FirstReceived Is other b → a ≡ b
  same_received Is a b has too = one_received Is other a b (way_received within exchange other of2 Is a (received_by_way within exchange one of Is a has)) too

pub both_judged : (within : ℕ) (exchange : Exchange) (one other : List ShownRecord) (of : AreOfWay within exchange one) (of2 : AreOfWay within exchange other) (why : NotJudged)
    → IsWhyNot one None → IsWhyNot other (Some why) → ⊥
both_judged within exchange one other of of2 why none some =
    let own = same_sent within exchange one other of of2 IsWellFormed none.own some.own none.has_own some.has_own in
    let whole = same_sent within exchange one other of of2 IsOpen none.whole some.whole none.has_whole some.has_whole in
    let peers = same_received within exchange one other of of2 IsOpenMessage none.peers some.peers none.has_peers some.has_peers in
    let told = same_told some.peers none.told some.told (subst (λ (o : Option (List ℕ)). AreTold o none.told) peers none.is_told) some.is_told in
    let sends =
    same_bool none.sends some.sends (SendsSome one) (SendsSome other) none.is_sends some.is_sends (sends_too within exchange one other of of2) (sends_too within exchange other one of2 of) in
    let Extended : Option (List ℕ) → Option (List ℕ) → Type 0 = λ p w. HasExtendedLength p ⊎ HasExtendedLength w in
    let extended =
    same_bool none.extended some.extended (Extended none.peers none.whole) (Extended some.peers some.whole) none.is_extended some.is_extended
    (λ h. subst (λ (w : Option (List ℕ)). Extended some.peers w) whole (subst (λ (p : Option (List ℕ)). Extended p none.whole) peers h))
    (λ h. subst (λ (w : Option (List ℕ)). Extended none.peers w) (sym whole) (subst (λ (p : Option (List ℕ)). Extended p some.whole) (sym peers) h)) in
    let confederated =
    same_bool none.confederated some.confederated (SomeShowConfederations one) (SomeShowConfederations other) none.is_confederated some.is_confederated
    (confederations_too within exchange one other of of2) (confederations_too within exchange other one of2 of) in
    none_why why
    (none.is_why ∙ ap (λ (b : Bool). why_not b none.extended (option_map open_of none.own) none.told none.confederated) sends
    ∙ ap (λ (b : Bool). why_not some.sends b (option_map open_of none.own) none.told none.confederated) extended
    ∙ ap (λ (o : Option (List ℕ)). why_not some.sends some.extended (option_map open_of o) none.told none.confederated) own
    ∙ ap (λ (o : Option OpenFields). why_not some.sends some.extended (option_map open_of some.own) o none.confederated) told
    ∙ ap (λ (b : Bool). why_not some.sends some.extended (option_map open_of some.own) some.told b) confederated ∙ sym some.is_why)
