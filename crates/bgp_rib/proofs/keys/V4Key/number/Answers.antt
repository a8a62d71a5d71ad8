use Rattle.std.proofs.Common.{◌∙◌, ap}
use Rattle.byteorder.specs.Endian.{big_number}
use Rattle.bgp_prefix.specs.declared.family.Family.TheVariants as family
use Rattle.bgp_rib.specs.Keys.{bits_number}
use Rattle.bgp_rib.proofs.KeyParts.{v4_number}
use Rattle.bgp_rib.proofs.keys.V4Key.number.Goals as goal

pub returns : goal.returns
returns c = c.read_u32.ensures ∙ v4_number (big_number 4 c.self.inside.octets) c.self.inside.length c.self.invariant ∙ ap (bits_number family.V4) c.self.view_is
