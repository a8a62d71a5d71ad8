use Rattle.bgp_orders.specs.Connections.{TellsConnection}
use Rattle.bgp_orders.proofs.NoOrder.{connection_is_told}
use Rattle.bgp_orders.proofs.connection.verdict_over_orders.Goals as goal

pub returns : goal.returns
returns g c =
    let framed = c.in_ok-framed.framed in
    let tells : TellsConnection c.args.framings c.args.connection.now c.exchange-exchange.result =
    record {
      received = framed.received.messages.items;
      sent = framed.sent.messages.items;
      received_unshown = framed.received.unshown;
      sent_unshown = framed.sent.unshown;
      heard = c.in_ok-framed.ensures.received;
      said = c.in_ok-framed.ensures.sent;
      is = c.exchange-exchange.ensures;
    } in
    λ clocked. record {
      exchange = c.exchange-exchange.result;
      tells = tells;
      holds = c.with_packet.ensures c.args.config.now c.args.within
          (c.in_ok-explained.ensures (connection_is_told c.args.framings c.args.connection.now c.exchange-exchange.result tells clocked));
    }
