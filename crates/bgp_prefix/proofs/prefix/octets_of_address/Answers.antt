use Rattle.bgp_prefix.proofs.PrefixParts.{octets_of_address-V4, octets_of_address-V6}
use Rattle.bgp_prefix.proofs.prefix.octets_of_address.Goals as goal

pub returns-in-V4 : goal.returns-in-V4
returns-in-V4 c = octets_of_address-V4 _ c.in-V4.number _ _ c.in-V4.is c.write_u32.ensures

pub returns-in-V6 : goal.returns-in-V6
returns-in-V6 c = octets_of_address-V6 _ c.in-V6.number _ _ c.in-V6.is c.write_u128.ensures
