-- Octets that are compared with those of destinations, one destination after another.
use Rattle.std.specs.Prelude.{ℕ, Bool, false, List, Option, None, Some, bytes_eq}
use Rattle.std.specs.Borrow.{Bor}
use Rattle.bgp_values.specs.Destination.{Destination}
use Rattle.bgp_json_values.specs.RoutesJson.{spelled_destinations}

-- those that are left are those that these destinations spell; none are if others stood before
abbrev pub are_left : Option (Bor (List ℕ)) → List Destination → Bool
are_left None destinations = false
are_left (Some rest) destinations = bytes_eq (spelled_destinations destinations) rest.now
