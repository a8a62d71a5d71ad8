-- Whether the local system of a session may have offered route refresh (RFC 2918).
use Rattle.std.specs.Prelude.{Bool, true, false, if◌then◌else◌}
use Rattle.bgp_prefix.specs.declared.session.RouteRefresh.{RouteRefresh}
use Rattle.bgp_prefix.specs.declared.session.RouteRefresh.TheVariants.{NotOffered, Refused}
use Rattle.bgp_prefix.specs.declared.session.RouteRefresh.TheVariants.{PassedOver}

abbrev pub is_offered : RouteRefresh → Bool
is_offered NotOffered = false
is_offered Refused = true
is_offered PassedOver = true

-- where nothing says that its messages are to be passed over
abbrev pub refresh_with : Bool → RouteRefresh
refresh_with offered = if offered then Refused else NotOffered
