use Rattle.bgp_open.proofs.CapabilityEntries.{of_hops}
use Rattle.bgp_open.proofs.next_hops.first_hop_entry.Goals as goal

pub returns-clause-some : goal.returns-clause-some
returns-clause-some c =
    let parts = c.in_ok-entry.ensures.cases in
    of_hops _ _ _ _ _ _ parts.0 parts.1 parts.2 c.read_u16.ensures c.read_u16-2.ensures c.read_u16-3.ensures
