-- What an OPEN offers of route refresh (RFC 2918, 2), which settles nothing: ROUTE-REFRESH messages
-- may come to the system that sent it.
use Rattle.std.specs.Prelude.{◌==◌, Bool, List}
use Rattle.std.specs.List.{list_any}
use Rattle.bgp_open.specs.Triplet.{Triplet}

-- capability 2, which has no value; one with a value is taken for it
abbrev pub is_route_refresh : Triplet → Bool
is_route_refresh capability = capability.code == 2

abbrev pub offers_refresh : List Triplet → Bool
offers_refresh capabilities = list_any is_route_refresh capabilities
