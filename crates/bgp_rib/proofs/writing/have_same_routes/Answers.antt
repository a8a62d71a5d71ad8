use Rattle.std.proofs.Common.{◌∙◌, sym, ne_eqb}
use Rattle.bgp_rib.specs.DestinationOrder.{destination_eq}
use Rattle.bgp_rib.specs.Rooms.{routes_in}
use Rattle.bgp_rib.proofs.DestinationKeys.{destinations_total, exact_destinations}
use Rattle.bgp_rib.proofs.RoomLemmas.{all_routed, length_routed}
use Rattle.bgp_rib.proofs.SameTables.{same_seen, unequal}
use Rattle.bgp_rib.proofs.writing.have_same_routes.Goals as goal

pub returns-then-len : goal.returns-then-len
returns-then-len g c =
    let es = c.args.table.now in
    let fs = c.args.other.now in
    c.is_same.ensures
    ∙ same_seen destination_eq g.V.PartialEq.eq es fs
    (all_routed destinations_total exact_destinations es c.len.ensures.ordered c.requires.full)
    (all_routed destinations_total exact_destinations fs c.len-2.ensures.ordered c.requires.other_full)

pub returns-else-len : goal.returns-else-len
returns-else-len g c =
    let es = c.args.table.now in
    let fs = c.args.other.now in
    let one = length_routed destinations_total exact_destinations es (all_routed destinations_total exact_destinations es c.len.ensures.ordered c.requires.full) in
    let other = length_routed destinations_total exact_destinations fs (all_routed destinations_total exact_destinations fs c.len-2.ensures.ordered c.requires.other_full) in
    ne_eqb c.len.result c.len-2.result c.if-len.false
    ∙ unequal _ (routes_in es) (routes_in fs) (λ e. c.if-len.false (c.len.ensures.len ∙ sym one ∙ e ∙ other ∙ sym c.len-2.ensures.len))
