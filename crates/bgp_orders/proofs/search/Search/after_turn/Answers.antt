use Rattle.std.proofs.Common.{◌∷◌, subst}
use Rattle.mrt.specs.Reader.{shown_of}
use Rattle.bgp_orders.specs.Rows.{LeadTo}
use Rattle.bgp_orders.specs.Ways.{changed_to}
use Rattle.bgp_orders.proofs.Steps.{if_ok}
use Rattle.bgp_orders.proofs.search.Search.after_turn.Goals as goal

pub returns : goal.returns
returns g c =
    let turn = c.args.turn.now in
    let records = shown_of turn.record ∷ changed_to turn.spot.last c.args.node.now.spot.state turn.led in
    if_ok c.after_message.result _ _
    (λ next h. subst (λ v. LeadTo c.args.self.now.config records v next.items) c.as_slice-from.ensures.value h)
    c.after_message.ensures
