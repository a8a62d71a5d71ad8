-- What code has for unicast routes.
use Rattle.std.specs.Prelude.{ℕ, List}
use Rattle.json.specs.Json.{Json}
use Rattle.bgp_json_values.specs.RoutesJson.{spelled_unicast, unicast_json}
use Rattle.bgp_json_values.specs.declared.routes.Unicast.{Unicast}

-- the JSON of the routes
abbrev pub json_of : Unicast → Json
json_of r = unicast_json r.name.now r.identified r.family r.next_hop r.destinations.now

-- the octets that they spell
abbrev pub spelled_by : Unicast → List ℕ
spelled_by r = spelled_unicast r.family r.next_hop r.destinations.now
