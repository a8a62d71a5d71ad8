-- What becomes of the routes on an input.
use Rattle.std.specs.Prelude.{if◌then◌else◌, map}
use Rattle.bgp_rib.specs.Routes.{Routes, no_routes}
use Rattle.bgp_rib.specs.Updates.{after_updates, applied_value}
use Rattle.bgp_speaker.specs.declared.pending.Pending.{Pending}

-- the routes go, where they do, and then each UPDATE is applied
abbrev pub routes_pending : {X : Type 0} → Pending X → Routes → Routes
routes_pending p routes =
    after_updates (map applied_value p.updates.items) (if p.is_cleared then no_routes else routes)
