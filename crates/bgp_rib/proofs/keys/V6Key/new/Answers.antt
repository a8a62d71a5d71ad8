use Rattle.std.proofs.Common.{ℕ, ap, subst, sym}
use Rattle.bgp_prefix.specs.declared.address.Address.TheVariants.{V6}
use Rattle.bgp_rib.specs.Keys.{IsLowest}
use Rattle.bgp_rib.proofs.KeyParts.{bits_of, read_back}
use Rattle.bgp_rib.proofs.keys.V6Key.new.Goals as goal

pub invariant_of-result : goal.invariant_of-result
invariant_of-result c =
    subst (λ (n : ℕ). IsLowest (V6 n) c.args.length) (sym (read_back c.write_u128.new.buf _ c.args.address c.write_u128.ensures c.ranges.address.fits)) c.requires.lowest

pub returns : goal.returns
returns c =
    ap (λ (n : ℕ). bits_of (V6 n) c.args.length) (read_back c.write_u128.new.buf _ c.args.address c.write_u128.ensures c.ranges.address.fits)
