use Rattle.std.proofs.Common.{◌≡◌, ◌≤◌, ◌+◌, length}
use Rattle.std.specs.Option.{option_map}
use Rattle.bgp_update.specs.Destinations.{destinations_of}
use Rattle.bgp_update.proofs.destinations.DestinationField.count.Given as goal

abbrev pub invariant-loop-rest : goal.invariant-loop-rest
invariant-loop-rest l = record {
  identified : l.rest.identified ≡ l.self.identified;
  family : l.rest.family ≡ l.self.family;
  so_far : option_map (λ n. l.count + n) (option_map length (destinations_of l.self.identified l.self.family l.rest.octets.now)) ≡ option_map length (destinations_of l.self.identified l.self.family l.self.octets.now);
  bound : l.count + length l.rest.octets.now ≤ length l.self.octets.now;
}

abbrev pub decreases-loop-rest : goal.decreases-loop-rest
decreases-loop-rest l = length l.rest.octets.now
