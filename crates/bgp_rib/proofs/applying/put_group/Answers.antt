use Rattle.std.proofs.Common.{◌∷◌, [], map, take, ap, sym, ◌∙◌}
use Rattle.bgp_update.specs.Changes.{routes_with}
use Rattle.bgp_rib.specs.Rooms.{routes_in}
use Rattle.bgp_rib.specs.Routes.{entry_of, entries_outside, entries_with}
use Rattle.bgp_rib.proofs.RouteLemmas.{route_put}
use Rattle.bgp_rib.proofs.Turns.{taken_more}
use Rattle.bgp_rib.proofs.applying.put_group.Goals as goal

pub returns-in_err-put_route-clause-noted : goal.returns-in_err-put_route-clause-noted
returns-in_err-put_route-clause-noted g c = λ h. c.put_route.ensures.noted (c.loop-destination.invariant.noted h)

pub loop-destination-preserved : goal.loop-destination-preserved
loop-destination-preserved g c =
    let d = c.args.disabled in
    let path = c.args.group.now.path in
    let ps = c.deref-destination-items.result.now in
    let i = c.loop-destination.destination-index in
    let p = c.destination-item.result in
    let es = routes_in c.args.table.now in
    record {
      routes = c.in_ok-put_route.ensures.routes
          ∙ ap (entries_with (entries_outside d ((p, path) ∷ []))) c.loop-destination.invariant.routes
          ∙ route_put d path (take i ps) p es
          ∙ ap (λ l. entries_with (entries_outside d (map entry_of (routes_with path l))) es) (sym (taken_more ps i p c.loop-destination-test.true c.destination-item.is));
      rooms = λ q h. c.loop-destination.invariant.rooms q (c.put_route.ensures.rooms q h);
      back = λ q. c.put_route.ensures.back q ∙ c.loop-destination.invariant.back q;
      noted = λ h. c.put_route.ensures.noted (c.loop-destination.invariant.noted h);
    }
