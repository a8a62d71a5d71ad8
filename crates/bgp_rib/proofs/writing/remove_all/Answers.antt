use Rattle.std.proofs.Common.{◌∷◌, [], ap, sym, ◌∙◌, take}
use Rattle.bgp_rib.specs.Rooms.{routes_in}
use Rattle.bgp_rib.specs.Routes.{entries_without}
use Rattle.bgp_rib.proofs.DestinationKeys.{without_none, without_more}
use Rattle.bgp_rib.proofs.Turns.{taken_more}
use Rattle.bgp_rib.proofs.writing.remove_all.Goals as goal

pub loop-destination-init : goal.loop-destination-init
loop-destination-init g c = record {
  routes = sym (without_none (routes_in c.args.table.now));
  rooms = λ q h. h;
}

pub loop-destination-preserved : goal.loop-destination-preserved
loop-destination-preserved g c =
    let ps = c.args.destinations.now in
    let i = c.loop-destination.destination-index in
    let p = c.destination-item.result in
    let es = routes_in c.args.table.now in
    record {
      routes = c.remove.ensures.routes ∙ ap (entries_without (p ∷ [])) c.loop-destination.invariant.routes
          ∙ without_more (take i ps) p es
          ∙ ap (λ l. entries_without l es) (sym (taken_more ps i p c.loop-destination-test.true c.destination-item.is));
      rooms = λ q h. c.loop-destination.invariant.rooms q (c.remove.ensures.rooms q h);
    }
