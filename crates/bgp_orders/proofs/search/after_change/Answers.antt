use Rattle.bgp_orders.proofs.Steps.{by_change, by_no_change, if_ok}
use Rattle.bgp_orders.proofs.search.after_change.Goals as goal

pub returns-in_default : goal.returns-in_default
returns-in_default g c = by_no_change c.args.config.now c.args.second c.args.state c.args.led c.args.members.items c.in_default.is

pub returns : goal.returns
returns g c =
    if_ok c.next_members.result _ _
    (λ next h. by_change c.args.config.now c.args.second c.number.result c.number-2.result c.args.state c.in-Some.led c.args.led c.args.members.items c.as_slice.result.now next.items
    c.in-Some.is c.number.ensures.number c.number-2.ensures.number c.as_slice.ensures.value h)
    c.next_members.ensures.next
