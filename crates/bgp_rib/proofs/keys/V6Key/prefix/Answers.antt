use Rattle.std.proofs.Common.{◌≡◌, ◌∙◌, ℕ, IfSome, ap, subst}
use Rattle.byteorder.specs.Endian.{big_number}
use Rattle.bgp_prefix.specs.declared.address.Address.TheVariants as addresses
use Rattle.bgp_prefix.specs.Prefix.{PrefixBits, prefix_of}
use Rattle.bgp_rib.specs.Keys.{v6_prefix}
use Rattle.bgp_rib.proofs.KeyParts.{v6_whole}
use Rattle.bgp_rib.proofs.keys.V6Key.prefix.Goals as goal

pub returns : goal.returns
returns c =
    subst (λ r. IfSome r (λ (p : PrefixBits). p ≡ prefix_of (addresses.V6 c.read_u128.result) c.self.inside.length)) c.in-Some.is c.new.ensures.value
    ∙ ap (λ (n : ℕ). prefix_of (addresses.V6 n) c.self.inside.length) c.read_u128.ensures
    ∙ v6_whole (big_number 16 c.self.inside.octets) c.self.inside.length ∙ ap v6_prefix c.self.view_is
