use Rattle.std.proofs.Common.{◌≡◌, ◌++◌}
use Rattle.bgp_json_values.proofs.destinations.listed.Given as goal

-- what is listed and what is left to list are all
abbrev pub invariant-loop-destination : goal.invariant-loop-destination
invariant-loop-destination g l = l.list.items ++ l.destination-iterator ≡ l.fn.destinations
