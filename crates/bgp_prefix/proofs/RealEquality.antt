-- Prefixes of one family, one address and one length are one.
use Rattle.std.proofs.Common.{◌≡◌, Bool, true, List, length, arith, refl, sym, ap, ◌∙◌, eqb-true}
use Rattle.std.proofs.lemmas.Bool.{and_parts}
use Rattle.bgp_prefix.specs.Prefix.{PrefixBits, lowest_address}
use Rattle.bgp_prefix.specs.Address.{family_number, address_number}
use Rattle.bgp_prefix.specs.PrefixOrder.{prefix_number, prefix_eq}
use Rattle.bgp_prefix.specs.declared.family.Family.{Family}
use Rattle.bgp_prefix.specs.declared.family.Family.TheVariants.{V4, V6}
use Rattle.bgp_prefix.proofs.BitsAndNumbers.{same_with_zeros}

same_family : (f g : Family) → family_number f ≡ family_number g → f ≡ g
same_family V4 V4 e = refl
same_family V4 V6 e = absurd (omega arith)
same_family V6 V4 e = absurd (omega arith)
same_family V6 V6 e = refl

same_prefix_bits : (f : Family) (bits also : List Bool) → length bits ≡ length also → address_number (lowest_address f bits) ≡ address_number (lowest_address f also) → bits ≡ also
unfolding lowest_address
same_prefix_bits V4 bits also as_many same = same_with_zeros 32 bits also as_many same
same_prefix_bits V6 bits also as_many same = same_with_zeros 128 bits also as_many same

pub equal_prefixes : (p q : PrefixBits) → prefix_eq p q ≡ true → p ≡ q
equal_prefixes p q equal =
    let (of_family, others) = and_parts _ _ equal in
    let (numbers, lengths) = and_parts _ _ others in
    let family : p.family ≡ q.family = same_family p.family q.family (eqb-true _ _ of_family) in
    let number : prefix_number p ≡ prefix_number q = eqb-true _ _ numbers in
    let moved : address_number (lowest_address p.family p.bits) ≡ address_number (lowest_address p.family q.bits) =
    number ∙ ap (λ (f : Family). address_number (lowest_address f q.bits)) (sym family) in
    let bits = same_prefix_bits p.family p.bits q.bits (eqb-true _ _ lengths) moved in
    λ i. record { family = family i; bits = bits i }
