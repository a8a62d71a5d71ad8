use Rattle.std.proofs.Common.{take, arith}
use Rattle.std.proofs.lemmas.List.{length-take}
use Rattle.bgp_prefix.specs.Bits.{bits_of_octets}
use Rattle.bgp_prefix.proofs.Masks.{few_leading}
use Rattle.bgp_prefix.proofs.prefix.few_leading_octets.Goals as goal

pub returns : goal.returns
returns c =
    let bits = bits_of_octets c.args.octets.now in
    few_leading (take c.args.bits bits) _ _ _ _ (omega (arith, length-take c.args.bits bits, c.requires.few)) c.leading_octet-first.ensures c.leading_octet-second.ensures c.leading_octet-third.ensures c.leading_octet-fourth.ensures
