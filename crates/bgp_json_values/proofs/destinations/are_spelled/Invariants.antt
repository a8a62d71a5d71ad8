use Rattle.std.proofs.Common.{◌≡◌, bytes_eq, drop}
use Rattle.bgp_json_values.specs.RoutesJson.{spelled_destinations}
use Rattle.bgp_json_values.proofs.destinations.are_spelled.Given as goal

-- what is left to compare decides
abbrev pub invariant-loop-destination : goal.invariant-loop-destination
invariant-loop-destination l =
    bytes_eq (spelled_destinations (drop l.destination-index l.fn.destinations)) l.rest
    ≡ bytes_eq (spelled_destinations l.fn.destinations) l.fn.octets
