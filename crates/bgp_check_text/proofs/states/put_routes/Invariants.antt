use Rattle.std.proofs.Common.{◌≡◌, ◌++◌, List, ℕ}
use Rattle.std.specs.List.{flat_map}
use Rattle.bgp_text.specs.Lines.{Writes}
use Rattle.bgp_check_text.specs.States.{route_line}
use Rattle.bgp_check_text.proofs.states.put_routes.Given as goal

-- what is written and what is left to write are the routes
abbrev pub invariant-loop-destination : goal.invariant-loop-destination
invariant-loop-destination g l =
    (text : List ℕ) × Writes l.fn.lines l.lines text
    × (text ++ flat_map route_line l.destination-iterator ≡ flat_map route_line l.fn.rib.entries)
