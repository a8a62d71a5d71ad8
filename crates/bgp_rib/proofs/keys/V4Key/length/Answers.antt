use Rattle.std.proofs.Common.{◌∙◌, ap, length}
use Rattle.byteorder.specs.Endian.{big_number}
use Rattle.bgp_rib.proofs.KeyParts.{v4_length}
use Rattle.bgp_rib.proofs.keys.V4Key.length.Goals as goal

pub returns : goal.returns
returns c = v4_length (big_number 4 c.self.inside.octets) c.self.inside.length c.self.invariant ∙ ap length c.self.view_is
