use Rattle.bgp_orders.specs.Connections.{TellsConnection}
use Rattle.bgp_orders.proofs.NoOrder.{connection_is_told}
use Rattle.bgp_orders.proofs.Rows.{if_some}
use Rattle.bgp_orders.proofs.Steps.{if_ok}
use Rattle.bgp_instead.proofs.connection.sendable_over_orders.Goals as goal

pub returns : goal.returns
returns g c =
    let framed = c.in_ok-framed.framed in
    let exchange = c.exchange-exchange.result in
    let tells : TellsConnection c.args.framings c.args.connection.now exchange =
    record {
      received = framed.received.messages.items;
      sent = framed.sent.messages.items;
      received_unshown = framed.received.unshown;
      sent_unshown = framed.sent.unshown;
      heard = c.in_ok-framed.ensures.received;
      said = c.in_ok-framed.ensures.sent;
      is = c.exchange-exchange.ensures;
    } in
    if_ok c.sendable_instead.result _ _
    (λ found h. if_some found _ _
    (λ sendable are clocked. record {
      exchange = exchange;
      tells = tells;
      are = are (connection_is_told c.args.framings c.args.connection.now exchange tells clocked);
    }) h)
    c.sendable_instead.ensures
