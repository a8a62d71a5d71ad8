use Rattle.bgp_rib.proofs.RouteLaws.{none_are, changed_are, disabled_are}
use Rattle.bgp_rib.proofs.laws.changes_leave_routes.Goals as goal

pub returns : goal.returns
returns c = record { none = none_are; changed = changed_are; disabled = disabled_are }
