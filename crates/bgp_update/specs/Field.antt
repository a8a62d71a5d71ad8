-- What a field of destinations that was found is to a contract.
use Rattle.std.specs.Prelude.{List, Option}
use Rattle.bgp_update.specs.declared.destination.Destination.{Destination}
use Rattle.bgp_update.specs.declared.destinations.DestinationField.{DestinationField}
use Rattle.bgp_update.specs.Destinations.{destinations_of}

-- its destinations: none where the field is incorrect
abbrev pub field_destinations : DestinationField → Option (List Destination)
field_destinations field = destinations_of field.identified field.family field.octets.now
