use Rattle.std.proofs.Common.{◌≡◌, ◌++◌, List, map}
use Rattle.json.specs.Json.{Json}
use Rattle.bgp_json_check.specs.Objects.{route_json}
use Rattle.bgp_json_check.specs.Telling.{Tells}
use Rattle.bgp_json_check.proofs.teller.CheckTeller.put_all_routes.Given as goal

-- what is told and what is left to tell are the routes
abbrev pub invariant-loop-destination : goal.invariant-loop-destination
invariant-loop-destination g l =
    (told : List Json) × Tells l.fn.self l.self l.fn.lines l.lines told
    × (told ++ map (route_json l.kind l.fn.self.judged l.end) l.destination-iterator
    ≡ map (route_json l.kind l.fn.self.judged l.end) l.fn.rib.entries)
