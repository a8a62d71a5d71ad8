-- A yes of `check` lists all ends, under its configuration and each that allows its order.
use Rattle.std.proofs.Common.{◌≡◌, ℕ, List, [], ◌∷◌, Option, MatchOption, Some, length, reverse, refl, sym, subst}
use Rattle.std.specs.List.{AllByRecursion}
use Rattle.packets.specs.Packet.{Recorded}
use Rattle.streams.specs.declared.connection.Connection.{Connection}
use Rattle.streams.specs.declared.connection.Opening.{Opening}
use Rattle.streams.specs.declared.passed.Side.{Side}
use Rattle.bgp_prefix.specs.Shown.{ShownRecord}
use Rattle.bgp_prefix.specs.declared.session.Session.{Session}
use Rattle.bgp_wire.specs.Framing.{IsFrame}
use Rattle.bgp_wire.specs.Header.{header_of, type_of}
use Rattle.bgp_wire.specs.Verdict.{type_code}
use Rattle.bgp_wire.specs.declared.header.MessageType.{MessageType}
use Rattle.bgp_machine.specs.Run.{IsComplete}
use Rattle.bgp_recording.specs.Framed.{HasKind}
use Rattle.bgp_recording.specs.Gathered.{IsClocked}
use Rattle.bgp_recording.specs.Pieces.{IsFaultyOf}
use Rattle.bgp_recording.specs.declared.entry.Entry.{Entry}
use Rattle.bgp_recording.specs.declared.framing.Framing.{Framing}
use Rattle.bgp_recording.specs.declared.framing.Framings.{Framings}
use Rattle.bgp_recording.specs.declared.framing.Unshown.{Unshown}
use Rattle.bgp_recording.specs.declared.message.Message.{Message}
use Rattle.bgp_orders.specs.Entries.{EntriesShowTheWay}
use Rattle.bgp_orders.specs.WholeWays.{AreOfAWayOver}
use Rattle.bgp_import.proofs.InOrder.{in_order}
use Rattle.bgp_import.proofs.Telling.{is_clocked}
use Rattle.bgp_import.specs.Pairs.{selection_of}
use Rattle.bgp_way_ends.specs.EveryEnd.{WayYesListsEveryEnd}
use Rattle.bgp_way_ends.specs.OneState.{EachWholeWayTellsAllEnds, HasTypes, IsTyped}
use Rattle.bgp_way_ends.specs.WayEnds.{WholeWay}
use Rattle.bgp_recording_tool.proofs.SameWays.{same_as_itself, whole_there}
use Rattle.bgp_check_tool.proofs.OtherEnd.{clocked}
use Rattle.bgp_check_tool.specs.Printed.{AreRecordsOf, AreRecordsOfAWay, HasRecordsIn, HasRecordsSo}
use Rattle.bgp_check_tool.specs.Seen.{seen_from}
use Rattle.bgp_check_tool.specs.declared.another.Order.{Order}
use Rattle.bgp_check_tool.specs.declared.another.Order.TheVariants as orders
use Rattle.bgp_check_tool.specs.declared.options.CheckOptions.{CheckOptions}
use Rattle.bgp_order_laws.specs.Checked.{CheckedYesListsEveryEnd, IsSeen}
use Rattle.bgp_order_laws.proofs.Yeses.{made_of_way}

-- ---- messages that are NOTIFICATIONs by their kind are such by their octets

abbrev Kind : Framing → Message → Option MessageType → Type 0
Kind framing m kind =
    MatchOption kind ((length m.octets.now ≡ 19) × IsFaultyOf framing m.octets.now)
    (λ k. IsFrame framing.limit m.octets.now × (type_code k ≡ type_of (header_of m.octets.now)))

typed_by : (framing : Framing) (m : Message) → HasKind framing m → IsTyped m
typed_by framing m has e = sym (subst (Kind framing m) e has).1

are_typed : (framing : Framing) (ms : List Message) → AllByRecursion (HasKind framing) ms → AllByRecursion IsTyped ms
are_typed framing [] each = tt
are_typed framing (m ∷ ms) each = (typed_by framing m each.0, are_typed framing ms each.1)

have_types : (within : ℕ) (framings : Framings) (connection : Connection) (entries : List Entry) (received sent : Unshown)
    (of : AreOfAWayOver framings within connection entries received sent) → HasTypes of.exchange
have_types within framings connection entries received sent of =
    let tells = of.tells in record {
      received = subst (λ (ms : List Message). AllByRecursion IsTyped ms) (sym tells.is.received) (are_typed framings.received tells.received tells.heard.kinds);
      sent = subst (λ (ms : List Message). AllByRecursion IsTyped ms) (sym tells.is.sent) (are_typed framings.sent tells.sent tells.said.kinds);
    }

-- ---- the records of an end

-- they are those of a way of the connection as that side has it
record HasWay (options : CheckOptions) (packets : List Recorded) (last_packet : ℕ) (session : Session) (opening : Opening) (side : Side) (entries : List Entry) : Type 0 where
  pub framings : Framings
  pub connection : Connection
  pub is_seen : IsSeen options packets last_packet session opening side framings connection
  pub received : Unshown
  pub sent : Unshown
  pub way : AreOfAWayOver framings options.within connection entries received sent

of_made : (options : CheckOptions) (packets : List Recorded) (last_packet : ℕ) (session : Session) (opening : Opening) (side : Side) (entries : List Entry)
    → HasRecordsSo AreRecordsOf options packets last_packet session opening side entries → HasWay options packets last_packet session opening side entries
of_made options packets last_packet session opening side entries has =
    let are = has.are_records in record {
      framings = are.framings;
      connection = seen_from side has.connection;
      is_seen = record {
        addresses = has.addresses;
        segments = has.segments;
        has = has.has;
        is_session = has.is_session;
        whole = has.connection;
        chosen = has.chosen;
        seen = refl;
        looked_in = are.looked_in;
        looked_in_received = are.looked_in_received;
        looked_in_sent = are.looked_in_sent;
        is_looked_in = are.is_looked_in;
        are_offered = are.are_offered;
      };
      received = are.received_unshown;
      sent = are.sent_unshown;
      way = made_of_way options.within are.framings (seen_from side has.connection) entries are.received_unshown are.sent_unshown are.recorded;
    }

of_another : (options : CheckOptions) (packets : List Recorded) (last_packet : ℕ) (session : Session) (opening : Opening) (side : Side) (entries : List Entry)
    → HasRecordsSo AreRecordsOfAWay options packets last_packet session opening side entries → HasWay options packets last_packet session opening side entries
of_another options packets last_packet session opening side entries has =
    let are = has.are_records in record {
      framings = are.framings;
      connection = seen_from side has.connection;
      is_seen = record {
        addresses = has.addresses;
        segments = has.segments;
        has = has.has;
        is_session = has.is_session;
        whole = has.connection;
        chosen = has.chosen;
        seen = refl;
        looked_in = are.looked_in;
        looked_in_received = are.looked_in_received;
        looked_in_sent = are.looked_in_sent;
        is_looked_in = are.is_looked_in;
        are_offered = are.are_offered;
      };
      received = are.received_unshown;
      sent = are.sent_unshown;
      way = are.way;
    }

has_way : (order : Order) (options : CheckOptions) (packets : List Recorded) (last_packet : ℕ) (session : Session) (opening : Opening) (side : Side) (entries : List Entry)
    → HasRecordsIn order options packets last_packet session opening side entries → HasWay options packets last_packet session opening side entries
has_way orders.Made options packets last_packet session opening side entries has = of_made options packets last_packet session opening side entries has
has_way orders.Another options packets last_packet session opening side entries has = of_another options packets last_packet session opening side entries has
has_way orders.All options packets last_packet session opening side entries has = of_made options packets last_packet session opening side entries has

goes_by : (options : CheckOptions) (packets : List Recorded) (last_packet : ℕ) (session : Session) (opening : Opening) (side : Side) (framings : Framings) (connection : Connection)
    → IsSeen options packets last_packet session opening side framings connection → IsClocked connection
goes_by options packets last_packet session opening side framings connection is =
    let order = in_order (selection_of is.addresses options.port) packets is.segments is.has.taken in
    let its = is_clocked (reverse is.segments) (Some opening.number) last_packet is.whole order is.chosen in
    subst (λ (c : Connection). IsClocked c) (sym is.seen) (clocked side is.whole its)

-- ---- the law

pub checked_yes : WayYesListsEveryEnd → EntriesShowTheWay → EachWholeWayTellsAllEnds → CheckedYesListsEveryEnd
checked_yes law shows each options packets last_packet session opening side told it_is =
    let its = has_way told.order options packets last_packet session opening side it_is.entries it_is.has_records in
    let within = options.within in
    let clock = goes_by options packets last_packet session opening side its.framings its.connection its.is_seen in
    let of = its.way in
    let it = of.of in
    let same = shows within of.exchange it_is.entries it in
    record {
      framings = its.framings;
      connection = its.connection;
      is_seen = its.is_seen;
      under = λ e. law it_is.under within its.framings its.connection it_is.entries its.received its.sent it_is.ends e clock of it_is.holds.1 it_is.holds.0;
      over_all = λ config one e is_of complete can.
          let way : WholeWay config within of.exchange = record {
            start = it.start;
            events = it.events;
            way = it.way;
            end = one;
            complete = subst (λ (rs : List ShownRecord). IsComplete config rs one) same complete;
          } in
          let whole = whole_there config within its.framings its.connection its.connection can.exchange of.exchange e (same_as_itself its.connection) clock can.tells of.tells can.whole in
          let types = have_types within its.framings its.connection it_is.entries its.received its.sent of in
          let ended = (each config within of.exchange types way e).0 whole in
          it_is.lists.every config e is_of (subst (λ (rs : List ShownRecord). IsComplete config rs e) (sym same) ended);
    }
