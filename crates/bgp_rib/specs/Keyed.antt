-- The destination that a key stands for.
use Rattle.bgp_update.specs.declared.destination.Destination.{Destination}
use Rattle.bgp_rib.specs.declared.table.Key.{Key}
use Rattle.bgp_rib.specs.declared.table.Key.TheVariants.{PlainV4, IdentifiedV4}
use Rattle.bgp_rib.specs.declared.table.Key.TheVariants.{PlainV6, IdentifiedV6}
use Rattle.bgp_rib.specs.Keys.{v4_plain, v4_identified, v6_plain, v6_identified}

abbrev pub destination_of : Key → Destination
destination_of (PlainV4 key) = v4_plain key
destination_of (IdentifiedV4 key) = v4_identified key
destination_of (PlainV6 key) = v6_plain key
destination_of (IdentifiedV6 key) = v6_identified key
