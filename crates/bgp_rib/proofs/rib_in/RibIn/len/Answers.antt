use Rattle.std.proofs.Common.{◌∙◌, sym, ap, length}
use Rattle.bgp_rib.specs.Routes.{Routes}
use Rattle.bgp_rib.proofs.DestinationKeys.{destinations_total, exact_destinations}
use Rattle.bgp_rib.proofs.RoomLemmas.{all_routed, length_routed}
use Rattle.bgp_rib.proofs.rib_in.RibIn.len.Goals as goal

pub returns : goal.returns
returns g c =
    let es = c.self.inside.table in
    record {
      count = c.len.ensures.len
          ∙ sym (length_routed destinations_total exact_destinations es (all_routed destinations_total exact_destinations es c.len.ensures.ordered c.self.invariant.0))
          ∙ ap (λ (r : Routes). length r.entries) c.self.view_is;
    }
