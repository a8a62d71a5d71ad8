use Rattle.std.proofs.Common.{◌∙◌, ℕ, List, ap, map, option_map, subst}
use Rattle.bgp_prefix.specs.Shown.{ShownRecord}
use Rattle.mrt.specs.Reader.{shown_of}
use Rattle.bgp_orders.specs.Connections.{TellsConnection}
use Rattle.bgp_parts.specs.Opens.{HasOwnOpen, HasPeersOpen}
use Rattle.bgp_check.specs.Answered.{peer_as_by}
use Rattle.bgp_check.proofs.ToldOpen.{told_of}
use Rattle.bgp_check_tool.specs.Orders.{records_received, records_sent}
use Rattle.bgp_check_tool.proofs.SaidOver.{said_so, says_records}
use Rattle.bgp_check_tool.proofs.orders.search_end.Goals as goal

pub returns-clause-records : goal.returns-clause-records
returns-clause-records g c =
    let over = c.in_ok-over.over in
    says_records c.exchange-exchange.result _ _ c.peer_as_by-peer_as.result over.under over.too_long over.finding c.said_of.result c.said_of.ensures c.in_ok-over.ensures.records

pub returns-clause-said : goal.returns-clause-said
returns-clause-said g c =
    let viewed = c.args.viewed.now in
    let framed = c.in_ok-framed.framed in
    let exchange = c.exchange-exchange.result in
    let over = c.in_ok-over.over in
    let tells : TellsConnection c.args.framings viewed.connection exchange =
    record {
      received = framed.received.messages.items;
      sent = framed.sent.messages.items;
      received_unshown = framed.received.unshown;
      sent_unshown = framed.sent.unshown;
      heard = c.in_ok-framed.ensures.received;
      said = c.in_ok-framed.ensures.sent;
      is = c.exchange-exchange.ensures;
    } in
    let own = option_map (λ o. o.now) c.own_open-own.result in
    let peers = option_map (λ o. o.now) c.peers_open-peers.result in
    let told = told_of peers in
    let has_own : HasOwnOpen (records_sent exchange.sent.now) own =
    subst (λ (rs : List ShownRecord). HasOwnOpen rs own) (ap (map shown_of) c.deref.ensures.value ∙ c.in_ok-sent.ensures) c.own_open-own.ensures.first in
    let has_peers : HasPeersOpen (records_received exchange.received.now) peers =
    subst (λ (rs : List ShownRecord). HasPeersOpen rs peers) (ap (map shown_of) c.deref-2.ensures.value ∙ c.in_ok-received.ensures) c.peers_open-peers.ensures in
    λ clocked.
    said_so viewed.session viewed.options.within c.args.framings viewed.connection exchange tells own peers told.0 c.in-Some.widest has_own has_peers told.1
    (c.in-Some.ensures.some told.0 told.1) c.args.known over.wants_peers over.under over.too_long over.finding (c.in_ok-over.ensures.over clocked tells)
    c.peer_as_by-peer_as.result (c.peer_as_by-peer_as.ensures told.0 told.1 ∙ ap (λ (n : ℕ). peer_as_by over.wants_peers told.0 n) c.heard_as.ensures) c.said_of.result c.said_of.ensures
