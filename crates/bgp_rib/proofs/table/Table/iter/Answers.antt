use Rattle.std.proofs.Common.{subst}
use Rattle.std.specs.List.Sorted.{IsStrictlySortedBy}
use Rattle.std.specs.Map.{keys_of}
use Rattle.bgp_rib.specs.DestinationOrder.{destination_cmp}
use Rattle.bgp_rib.proofs.Joined.{joined_ordered}
use Rattle.bgp_rib.proofs.table.Table.iter.Goals as goal

pub returns-clause-ordered : goal.returns-clause-ordered
returns-clause-ordered g c =
    let t = c.self.inside in
    subst (λ l. IsStrictlySortedBy destination_cmp (keys_of l)) c.self.view_is
    (joined_ordered t.plain_v4.entries t.identified_v4.entries t.plain_v6.entries t.identified_v6.entries c.iter.ensures.ordered c.iter-2.ensures.ordered c.iter-3.ensures.ordered c.iter-4.ensures.ordered)
