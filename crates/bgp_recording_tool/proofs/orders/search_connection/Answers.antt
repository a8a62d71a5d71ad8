use Rattle.std.proofs.Common.{subst}
use Rattle.bgp_orders.specs.Connections.{IsOverOrders}
use Rattle.bgp_orders.specs.WholeWays.{NoneIsFoundOver}
use Rattle.bgp_orders.specs.declared.connection.OverOrders.{OverOrders}
use Rattle.bgp_recording_tool.proofs.MadeOverAll.{found_or_many}
use Rattle.bgp_recording_tool.proofs.Searchings.{none_is}
use Rattle.bgp_recording_tool.proofs.orders.search_connection.Goals as goal

pub returns-in-None-clause-found : goal.returns-in-None-clause-found
returns-in-None-clause-found g c = λ clocked.
    let config = c.args.config.now in
    let connection = c.args.connection.now in
    let whole = subst (λ (o : OverOrders). IsOverOrders config c.args.within c.args.framings connection o) c.in-Yes.is (c.in_ok-verdict_over_orders.ensures clocked) in
    found_or_many config c.args.within c.args.framings connection clocked whole
    (none_is c.in_ok-another-in-Yes.field-0 (NoneIsFoundOver config c.args.within c.args.framings connection) c.in-None.is c.in_ok-another-in-Yes.ensures.none)
