use Rattle.std.proofs.Common.{◌∙◌, ap, length}
use Rattle.byteorder.specs.Endian.{big_number}
use Rattle.bgp_rib.proofs.KeyParts.{v6_length}
use Rattle.bgp_rib.proofs.keys.V6Key.length.Goals as goal

pub returns : goal.returns
returns c = v6_length (big_number 16 c.self.inside.octets) c.self.inside.length c.self.invariant ∙ ap length c.self.view_is
