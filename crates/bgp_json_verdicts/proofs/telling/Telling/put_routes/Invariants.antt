use Rattle.std.proofs.Common.{◌≡◌, ◌++◌, List, map}
use Rattle.bgp_json_verdicts.specs.Lines.{LineValue, route_value}
use Rattle.bgp_json_verdicts.specs.Telling.{Tells}
use Rattle.bgp_json_verdicts.proofs.telling.Telling.put_routes.Given as goal

-- what is told and what is left to tell are the routes
abbrev pub invariant-loop-destination : goal.invariant-loop-destination
invariant-loop-destination g l =
    (told : List LineValue) × Tells l.fn.self l.self l.fn.lines l.lines told
    × (told ++ map route_value l.destination-iterator ≡ map route_value l.fn.rib.entries)
