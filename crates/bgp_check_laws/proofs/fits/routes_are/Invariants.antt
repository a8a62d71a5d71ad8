use Rattle.std.proofs.Common.{◌≡◌, ◌++◌, All, List}
use Rattle.bgp_path.specs.Path.{PathValue}
use Rattle.bgp_update.specs.declared.destination.Destination.{Destination}
use Rattle.bgp_check_laws.specs.Ranges.{IsRoute}
use Rattle.bgp_check_laws.proofs.fits.routes_are.Given as goal

-- those so far are such, and with those that are left they are all
abbrev pub invariant-loop-destination : goal.invariant-loop-destination
invariant-loop-destination g l =
    (done : List (Destination × PathValue)) × All IsRoute done
    × (done ++ l.destination-iterator ≡ l.fn.rib.entries)
