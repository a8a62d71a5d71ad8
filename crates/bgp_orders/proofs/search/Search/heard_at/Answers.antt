use Rattle.bgp_orders.proofs.Steps.{if_ok, made_at, none_at, place_none, place_some}
use Rattle.bgp_orders.proofs.Tidy.{at_place, nothing_there}
use Rattle.bgp_orders.proofs.search.Search.heard_at.Goals as goal

pub returns-in_default-clause-made : goal.returns-in_default-clause-made
returns-in_default-clause-made g c =
    let s = c.args.self.now in
    none_at s.config s.exchange c.args.row.now c.args.index (place_none c.args.row.now c.args.index c.in_default.ensures.lookup)

pub returns-in_default-clause-stands : goal.returns-in_default-clause-stands
returns-in_default-clause-stands g c =
    nothing_there c.args.row.now c.args.index _ (place_none c.args.row.now c.args.index c.in_default.ensures.lookup)

pub returns-clause-made : goal.returns-clause-made
returns-clause-made g c =
    let s = c.args.self.now in
    if_ok c.heard.result _ _
    (λ made just. made_at s.config s.exchange c.args.row.now c.args.index c.in-Some.node.now made
    (place_some c.args.row.now c.args.index c.in-Some.node c.in-Some.ensures.lookup) just)
    c.heard.ensures.made

pub returns-clause-stands : goal.returns-clause-stands
returns-clause-stands g c =
    at_place c.args.row.now c.args.index c.in-Some.node.now _ (place_some c.args.row.now c.args.index c.in-Some.node c.in-Some.ensures.lookup) c.heard.ensures.stands
