use Rattle.std.proofs.Common.{refl}
use Rattle.mrt.specs.Reader.{shown_of}
use Rattle.bgp_orders.specs.Ways.{changed_to}
use Rattle.bgp_orders.proofs.Steps.{by_record, if_ok, leads_on}
use Rattle.bgp_orders.proofs.search.after_message.Goals as goal

pub returns : goal.returns
returns g c =
    let config = c.args.config.now in
    let r = shown_of c.args.message.now in
    let members = c.args.members.now in
    let mid = c.in_ok-shown.shown.items in
    if_ok c.after_change.result _ _
    (λ next h. leads_on config r (changed_to c.args.second c.args.state c.args.led) members mid next.items (by_record config r members members mid refl c.in_ok-shown.ensures.next) h)
    c.after_change.ensures
