-- What is read of a field of destinations is what its definition says.
use Rattle.std.proofs.Common.{◌≡◌, ℕ, Bool, List, Option, None, Some, refl, sym}
use Rattle.std.specs.Prelude.{IfSome, IfNone}
use Rattle.bgp_prefix.specs.declared.family.Family.{Family}
use Rattle.bgp_update.specs.declared.destination.Destination.{Destination}
use Rattle.bgp_update.specs.Destinations.{AreDestinations, destinations_of}
use Rattle.bgp_update.proofs.DestinationLists.{reads_destinations}

none_there : (identified : Bool) (family : Family) (octets : List ℕ) (found : Option (List Destination)) → destinations_of identified family octets ≡ found
    → ((ds : List Destination) → ¬ AreDestinations identified family octets ds) → None ≡ found
none_there identified family octets None is not_one = refl
none_there identified family octets (Some ds) is not_one = absurd (not_one ds ((reads_destinations identified family octets ds).1 is))

pub read_list : (identified : Bool) (family : Family) (octets : List ℕ) (result : Option (List Destination))
    → IfSome result (λ ds. AreDestinations identified family octets ds)
    → IfNone result ((ds : List Destination) → ¬ AreDestinations identified family octets ds)
    → result ≡ destinations_of identified family octets
read_list identified family octets None some none = none_there identified family octets (destinations_of identified family octets) refl none
read_list identified family octets (Some ds) some none = sym ((reads_destinations identified family octets ds).0 some)
