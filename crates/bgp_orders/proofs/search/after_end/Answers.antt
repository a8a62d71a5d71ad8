use Rattle.bgp_orders.proofs.Steps.{by_end, if_ok}
use Rattle.bgp_orders.proofs.search.after_end.Goals as goal

pub returns : goal.returns
returns g c =
    if_ok c.after_change-2.result _ _
    (λ next h. by_end c.args.config.now c.args.second c.args.state c.state_then-ended.result c.led_by_end-led.result c.led_by_left-left.result c.args.are_left c.args.members.now
    c.in_ok-copies.copies.items c.in_ok-changed.changed.items next.items c.led_by_end-led.ensures c.state_then-ended.ensures c.led_by_left-left.ensures c.in_ok-copies.ensures c.in_ok-changed.ensures h)
    c.after_change-2.ensures
