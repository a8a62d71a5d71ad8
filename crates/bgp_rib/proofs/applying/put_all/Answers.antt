use Rattle.std.proofs.Common.{map, ap, sym, ◌∙◌}
use Rattle.bgp_update.specs.Allowed.{group_routes}
use Rattle.bgp_rib.specs.Rooms.{routes_in}
use Rattle.bgp_rib.specs.Routes.{entry_of, entries_outside, entries_with}
use Rattle.bgp_rib.proofs.RouteLemmas.{groups_put}
use Rattle.bgp_rib.proofs.applying.put_all.Goals as goal

pub returns-clause-routes : goal.returns-clause-routes
returns-clause-routes g c =
    let d = c.args.disabled in
    let first = group_routes c.args.changes.now.nlri in
    let second = group_routes c.args.changes.now.mp_reach_nlri in
    c.in_ok-put_group_if-2.ensures.routes
    ∙ ap (entries_with (entries_outside d (map entry_of second))) c.in_ok-put_group_if.ensures.routes
    ∙ sym (groups_put d first second (routes_in c.args.table.now))

pub returns-clause-noted : goal.returns-clause-noted
returns-clause-noted g c = λ h. c.put_group_if-2.ensures.noted (c.put_group_if.ensures.noted h)

pub returns-in_err-put_group_if-2-clause-noted : goal.returns-in_err-put_group_if-2-clause-noted
returns-in_err-put_group_if-2-clause-noted g c = λ h. c.put_group_if-2.ensures.noted (c.put_group_if.ensures.noted h)
