use Rattle.std.proofs.Common.{◌≡◌, ◌∙◌, ℕ, IfSome, ap, subst}
use Rattle.byteorder.specs.Endian.{big_number}
use Rattle.bgp_prefix.specs.declared.address.Address.TheVariants as addresses
use Rattle.bgp_prefix.specs.Prefix.{PrefixBits, prefix_of}
use Rattle.bgp_rib.specs.Keys.{v4_prefix}
use Rattle.bgp_rib.proofs.KeyParts.{v4_whole}
use Rattle.bgp_rib.proofs.keys.V4Key.prefix.Goals as goal

pub returns : goal.returns
returns c =
    subst (λ r. IfSome r (λ (p : PrefixBits). p ≡ prefix_of (addresses.V4 c.read_u32.result) c.self.inside.length)) c.in-Some.is c.new.ensures.value
    ∙ ap (λ (n : ℕ). prefix_of (addresses.V4 n) c.self.inside.length) c.read_u32.ensures
    ∙ v4_whole (big_number 4 c.self.inside.octets) c.self.inside.length ∙ ap v4_prefix c.self.view_is
