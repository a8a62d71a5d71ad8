-- The destinations of a field as a list: none where the field is incorrect.
use Rattle.std.specs.Prelude.{List, [], Option, None, Some}
use Rattle.bgp_update.specs.declared.destination.Destination.{Destination}

abbrev pub listed : Option (List Destination) → List Destination
listed None = []
listed (Some destinations) = destinations
