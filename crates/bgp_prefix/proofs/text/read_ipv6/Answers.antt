use Rattle.bgp_prefix.proofs.ReadExits.{ipv6_exit, ipv6_none}
use Rattle.bgp_prefix.proofs.text.read_ipv6.Goals as goal

pub returns-in-Ok : goal.returns-in-Ok
returns-in-Ok c = ipv6_exit _ _ _ c.requires c.in-Ok.ensures.value c.to_bits.ensures

pub returns-in-Err : goal.returns-in-Err
returns-in-Err c = ipv6_none _ c.in-Err.ensures.value
