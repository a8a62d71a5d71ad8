-- A yes on a connection lists all ends in its states.
use Rattle.std.proofs.Common.{◌≡◌, ◌∙◌, ℕ, List, [], ◌∷◌, inl, inr, refl, sym, ap, subst, map}
use Rattle.bgp_prefix.specs.Shown as shown
use Rattle.bgp_prefix.specs.Shown.{ShownRecord}
use Rattle.mrt.specs.Reader.{shown_of}
use Rattle.streams.specs.declared.connection.Connection.{Connection}
use Rattle.bgp_open.specs.declared.config.Config.{Config}
use Rattle.bgp_machine.specs.Lists.{Each, Has}
use Rattle.bgp_machine.specs.Run.{End, IsComplete}
use Rattle.bgp_recording.specs.declared.entry.Entry.{Entry}
use Rattle.bgp_recording.specs.declared.framing.Framings.{Framings}
use Rattle.bgp_recording.specs.declared.framing.Unshown.{Unshown}
use Rattle.bgp_recording.specs.declared.message.Message.{Message}
use Rattle.bgp_recording.specs.declared.standing.Before.TheVariants.{Other}
use Rattle.bgp_recording.specs.Captured.{records_of}
use Rattle.bgp_recording.specs.Changes.{opened_state}
use Rattle.bgp_recording.specs.Gathered.{IsClocked, IsHeard}
use Rattle.bgp_recording.specs.Once.{AreSame}
use Rattle.bgp_recording.specs.States.{state_number}
use Rattle.bgp_recording.specs.Tells.{Numbered, numbered_of}
use Rattle.bgp_recording.specs.Values.{MessageValue, values_of}
use Rattle.bgp_ended.proofs.OneFraming.{are_timed, heard_once}
use Rattle.bgp_judge.specs.Chains.{EndsByChains}
use Rattle.bgp_judge.specs.Told.{EachRunIsAsTold}
use Rattle.bgp_orders.specs.Entries.{EntriesShowTheWay}
use Rattle.bgp_orders.specs.Ways.{records_of_way}
use Rattle.bgp_orders.proofs.Ways.{same_records}
use Rattle.bgp_way_ends.specs.Connections.{ListsState, MadeOrderListsAllEnds, WayListsAllEnds}
use Rattle.bgp_way_ends.proofs.WayEnds.{events_alike, octets_of}

-- ---- the messages of a connection are framed once

by_values : (ms : List Message) → octets_of ms ≡ map (λ (v : MessageValue). v.octets) (values_of ms)
by_values [] = refl
by_values (m ∷ ms) = ap (λ (os : List (List ℕ)). m.octets.now ∷ os) (by_values ms)

same_octets : (framings : Framings) (connection : Connection) (rs ss : List Message) (a b : Unshown) → IsClocked connection
    → IsHeard framings.received connection.received rs a → IsHeard framings.received connection.received ss b → octets_of rs ≡ octets_of ss
same_octets framings connection rs ss a b clocked h k =
    let fraction = clocked.fractions.fraction in
    let timed = are_timed clocked.clock fraction connection.packet connection.received.runs.now clocked.received clocked.fractions.received in
    let same : AreSame connection.received connection.received = record { octets = refl; givers = λ place. refl } in
    let values = (heard_once framings.received clocked.clock fraction connection.received connection.received rs ss a b same timed h k).0 in
    by_values rs ∙ ap (λ (vs : List MessageValue). map (λ (v : MessageValue). v.octets) vs) values ∙ sym (by_values ss)

-- ---- lists of ends

-- one of a list in this state
record Among (config : Config) (records : List ShownRecord) (e : End) : Type 0 where
  pub one : End
  pub state : e.fsm ≡ one.fsm
  pub complete : IsComplete config records one

among : (config : Config) (records : List ShownRecord) (ends : List End) (e : End) → Each (IsComplete config records) ends → ListsState ends e → Among config records e
among config records [] e each has = absurd has
among config records (x ∷ ends) e each (inl same) = record { one = x; state = sym same; complete = each.0 }
among config records (x ∷ ends) e each (inr has) = among config records ends e each.1 has

listed_ends : (config : Config) (records : List ShownRecord) (ends : List End) (e : End) → Each (IsComplete config records) ends → Has (λ x. x ≡ e) ends → IsComplete config records e
listed_ends config records [] e each has = absurd has
listed_ends config records (x ∷ ends) e each (inl same) = subst (IsComplete config records) same each.0
listed_ends config records (x ∷ ends) e each (inr has) = listed_ends config records ends e each.1 has

pub map_map : (entries : List Entry) → map (λ (n : Numbered). n.shown) (map numbered_of entries) ≡ records_of entries
map_map [] = refl
map_map (entry ∷ entries) = ap (λ (v : List ShownRecord). shown_of entry.record ∷ v) (map_map entries)

-- ---- the laws

module _ (ends_by : EndsByChains) (each_told : EachRunIsAsTold) (show : EntriesShowTheWay) where
  pub way_lists_all : WayListsAllEnds
  way_lists_all config within framings connection entries received sent ends e clocked of lists state =
      let it = of.of in
      let same = show within of.exchange entries it in
      let k = among config (records_of entries) ends e lists.each state in
      let whole = subst (λ (r : List ShownRecord). IsComplete config r k.one) same k.complete in (
        λ can.
            let w = can.whole in
            let octets = ap octets_of (w.way.allowed.of_received ∙ can.tells.is.received)
            ∙ same_octets framings connection can.tells.received of.tells.received can.tells.received_unshown of.tells.received_unshown clocked can.tells.heard of.tells.heard
            ∙ ap octets_of (sym (it.way.allowed.of_received ∙ of.tells.is.received)) in
            lists.every e
            (subst (λ (r : List ShownRecord). IsComplete config r e) (sym same)
            (events_alike ends_by each_told config can.exchange.second of.exchange.second w.start it.start w.events it.events e k.one octets k.state w.complete whole)),
        λ has. record {
          exchange = of.exchange;
          tells = of.tells;
          whole = record {
            start = it.start;
            events = it.events;
            way = it.way;
            complete = subst (λ (r : List ShownRecord). IsComplete config r e) same (listed_ends config (records_of entries) ends e lists.each has);
          };
        },
      )

  pub made_lists_all : MadeOrderListsAllEnds
  made_lists_all config within framings connection entries received sent ends e clocked recorded lists state can =
      let w = can.whole in
      let tells = recorded.tells in
      let start = opened_state connection.opened_by in
      let same : records_of entries ≡ records_of_way connection.second start tells.events =
      sym (map_map entries) ∙ ap (λ (v : List Numbered). map (λ (n : Numbered). n.shown) v) tells.shown
      ∙ ap (λ (rs : List ShownRecord). shown.Changed connection.second 1 (state_number start) ∷ rs) (same_records start Other tells.events) in
      let k = among config (records_of entries) ends e lists.each state in
      let whole = subst (λ (r : List ShownRecord). IsComplete config r k.one) same k.complete in
      let octets = ap octets_of (w.way.allowed.of_received ∙ can.tells.is.received)
      ∙ same_octets framings connection can.tells.received recorded.received can.tells.received_unshown received clocked can.tells.heard recorded.heard
      ∙ ap octets_of (sym tells.allowed.of_received) in
      lists.every e
      (subst (λ (r : List ShownRecord). IsComplete config r e) (sym same)
      (events_alike ends_by each_told config can.exchange.second connection.second w.start start w.events tells.events e k.one octets k.state w.complete whole))
