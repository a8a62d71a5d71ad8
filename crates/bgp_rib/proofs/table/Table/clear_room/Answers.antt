use Rattle.std.proofs.Common.{◌∙◌, ap, is_some, filter, subst}
use Rattle.bgp_rib.specs.Rooms.{AreInOrder}
use Rattle.bgp_rib.specs.Keys.{joined}
use Rattle.bgp_rib.proofs.Joined.{joined_ordered, joined_routes}
use Rattle.bgp_rib.proofs.table.Table.clear_room.Goals as goal

pub returns-clause-entries : goal.returns-clause-entries
returns-clause-entries g c =
    let t = c.self.inside in
    (λ i. joined (c.keep_routes.ensures.entries i) (c.keep_routes-2.ensures.entries i) (c.keep_routes-3.ensures.entries i) (c.keep_routes-4.ensures.entries i))
    ∙ joined_routes t.plain_v4.entries t.identified_v4.entries t.plain_v6.entries t.identified_v6.entries
    ∙ ap (filter (λ e. is_some e.1)) c.self.view_is

pub returns-clause-ordered : goal.returns-clause-ordered
returns-clause-ordered g c =
    joined_ordered c.keep_routes.new.map.entries c.keep_routes-2.new.map.entries c.keep_routes-3.new.map.entries c.keep_routes-4.new.map.entries
    c.keep_routes.ensures.ordered c.keep_routes-2.ensures.ordered c.keep_routes-3.ensures.ordered c.keep_routes-4.ensures.ordered

pub returns-clause-was_ordered : goal.returns-clause-was_ordered
returns-clause-was_ordered g c =
    let t = c.self.inside in
    subst AreInOrder c.self.view_is
    (joined_ordered t.plain_v4.entries t.identified_v4.entries t.plain_v6.entries t.identified_v6.entries
    c.keep_routes.ensures.was_ordered c.keep_routes-2.ensures.was_ordered c.keep_routes-3.ensures.was_ordered c.keep_routes-4.ensures.was_ordered)
