use Rattle.std.proofs.Common.{◌≡◌, length}
use Rattle.bgp_update.proofs.DestinationLists.{Read}
use Rattle.bgp_update.proofs.destinations.DestinationField.push_to.Given as goal

abbrev pub invariant-loop-destination : goal.invariant-loop-destination
invariant-loop-destination g l = record {
  identified : l.rest.identified ≡ l.self.identified;
  family : l.rest.family ≡ l.self.family;
  read : Read l.self.identified l.self.family l.self.octets.now l.rest.octets.now l.fn.out.items l.out.items;
}

abbrev pub decreases-loop-destination : goal.decreases-loop-destination
decreases-loop-destination g l = length l.rest.octets.now
