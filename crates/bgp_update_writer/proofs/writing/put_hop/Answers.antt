use Rattle.std.proofs.Common.{append_assoc}
use Rattle.bgp_update_writer.proofs.writing.put_hop.Goals as goal

pub returns-in-V6WithLinkLocal-clause-items : goal.returns-in-V6WithLinkLocal-clause-items
returns-in-V6WithLinkLocal-clause-items g c =
    rw (c.put_ipv6-in-V6WithLinkLocal-2.ensures.items, c.put_ipv6-in-V6WithLinkLocal.ensures.items, c.in-V6WithLinkLocal.is) (simp append_assoc)
