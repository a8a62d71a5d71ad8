use Rattle.std.proofs.Common.{◌≡◌, ◌∙◌, ℕ, ap, subst, sym}
use Rattle.bgp_prefix.specs.declared.address.Address.TheVariants.{V4, V6}
use Rattle.bgp_rib.specs.Keys.{IsLowest, v4_prefix, v6_prefix}
use Rattle.bgp_rib.proofs.KeyParts.{bits_of, lowest_of, v4_key, v6_key}
use Rattle.bgp_rib.proofs.table.Key.of.Goals as goal

pub new-prefix-requires : goal.new-prefix-requires
new-prefix-requires c =
    let p = c.args.destination.now.prefix in
    record {
      lowest = subst (λ (n : ℕ). IsLowest (V4 c.in-V4.address) n) (sym c.length-length.ensures.value) (lowest_of p (V4 c.in-V4.address) c.length-length.ensures.fits (sym c.address.ensures ∙ c.in-V4.is));
    }

pub returns-in-None : goal.returns-in-None
returns-in-None c =
    let p = c.args.destination.now.prefix in
    let a = c.in-V4.address in
    let prefix : v4_prefix c.new-prefix.result ≡ p =
    ap v4_prefix (c.new-prefix.ensures ∙ ap (bits_of (V4 a)) c.length-length.ensures.value) ∙ v4_key p a c.length-length.ensures.fits (sym c.address.ensures ∙ c.in-V4.is) in
    λ i. record { prefix = prefix i; path = sym c.in-None.is i }

pub returns-in-Some : goal.returns-in-Some
returns-in-Some c =
    let p = c.args.destination.now.prefix in
    let a = c.in-V4.address in
    let prefix : v4_prefix c.new-prefix.result ≡ p =
    ap v4_prefix (c.new-prefix.ensures ∙ ap (bits_of (V4 a)) c.length-length.ensures.value) ∙ v4_key p a c.length-length.ensures.fits (sym c.address.ensures ∙ c.in-V4.is) in
    λ i. record { prefix = prefix i; path = sym c.in-Some.is i }

pub new-prefix-requires-in-V6 : goal.new-prefix-requires-in-V6
new-prefix-requires-in-V6 c =
    let p = c.args.destination.now.prefix in
    record {
      lowest = subst (λ (n : ℕ). IsLowest (V6 c.in-V6.address) n) (sym c.length-length.ensures.value) (lowest_of p (V6 c.in-V6.address) c.length-length.ensures.fits (sym c.address.ensures ∙ c.in-V6.is));
    }

pub returns-in-None-path : goal.returns-in-None-path
returns-in-None-path c =
    let p = c.args.destination.now.prefix in
    let a = c.in-V6.address in
    let prefix : v6_prefix c.new-prefix-in-V6.result ≡ p =
    ap v6_prefix (c.new-prefix-in-V6.ensures ∙ ap (bits_of (V6 a)) c.length-length.ensures.value) ∙ v6_key p a c.length-length.ensures.fits (sym c.address.ensures ∙ c.in-V6.is) in
    λ i. record { prefix = prefix i; path = sym c.in-None-path.is i }

pub returns-in-Some-path : goal.returns-in-Some-path
returns-in-Some-path c =
    let p = c.args.destination.now.prefix in
    let a = c.in-V6.address in
    let prefix : v6_prefix c.new-prefix-in-V6.result ≡ p =
    ap v6_prefix (c.new-prefix-in-V6.ensures ∙ ap (bits_of (V6 a)) c.length-length.ensures.value) ∙ v6_key p a c.length-length.ensures.fits (sym c.address.ensures ∙ c.in-V6.is) in
    λ i. record { prefix = prefix i; path = sym c.in-Some-path.is i }
