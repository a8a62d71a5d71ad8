use Rattle.std.proofs.Common.{◌≡◌, ◌∷◌, ℕ, List, Option, None, Some, bytes_eq, sym}
use Rattle.std.specs.Borrow.{Bor}
use Rattle.bgp_values.specs.Destination.{Destination}
use Rattle.bgp_json_values.specs.Fronts.{IsAfter}
use Rattle.bgp_json_values.specs.Left.{are_left}
use Rattle.bgp_json_values.specs.RoutesJson.{spelled_destination, spelled_destinations}
use Rattle.bgp_json_values.proofs.FrontsCompared.{by_rest, differ}
use Rattle.bgp_json_values.proofs.destinations.after_next.Goals as goal

-- what is left behind the octets of the first of some destinations
one_less : (d : Destination) (others : List Destination) (octets : List ℕ) (rest : Option (Bor (List ℕ))) → IsAfter (spelled_destination d) octets rest
    → are_left rest others ≡ bytes_eq (spelled_destinations (d ∷ others)) octets
one_less d others octets None none = differ (spelled_destination d) (spelled_destinations others) octets none
one_less d others octets (Some rest) parts = sym (by_rest (spelled_destination d) (spelled_destinations others) octets rest.now parts)

pub returns-in-Some : goal.returns-in-Some
returns-in-Some c = λ others. rw c.in-Some.is (one_less c.args.destination others c.in-Some.octets.now c.after_destination.result c.after_destination.ensures)
