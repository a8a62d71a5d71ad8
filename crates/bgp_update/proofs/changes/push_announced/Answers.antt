use Rattle.bgp_update.proofs.Routes.{on_ok, announced}
use Rattle.bgp_update.proofs.changes.push_announced.Goals as goal

pub returns : goal.returns
returns g c = on_ok c.push_mp_destinations.result _ _ (λ e attributes. announced _ _ _ _ _ _ _ c.in_ok-push_base_destinations.ensures e) c.push_mp_destinations.ensures
