-- The order of prefixes: by family, IPv4 before IPv6, then by address, then by length.
use Rattle.std.specs.Prelude.{ℕ, ◌==◌, Bool}
use Rattle.std.specs.declared.cmp.Ordering.{Ordering}
use Rattle.std.specs.Ordering.{nat_cmp, on, then_cmp, eq_of_both}
use Rattle.bgp_prefix.specs.Address.{address_number, family_number}
use Rattle.bgp_prefix.specs.Prefix.{PrefixBits, prefix_length, address_of}

-- where the family stands
abbrev pub family_rank : PrefixBits → ℕ
family_rank prefix = family_number prefix.family

-- the number of the lowest address
abbrev pub prefix_number : PrefixBits → ℕ
prefix_number prefix = address_number (address_of prefix)

-- the order
abbrev pub prefix_cmp : PrefixBits → PrefixBits → Ordering
prefix_cmp = then_cmp (on family_rank nat_cmp)
    (then_cmp (on prefix_number nat_cmp) (on prefix_length nat_cmp))

-- the equality: of family, address and length, so of the prefixes
abbrev pub prefix_eq : PrefixBits → PrefixBits → Bool
prefix_eq = eq_of_both (on family_rank ◌==◌)
    (eq_of_both (on prefix_number ◌==◌) (on prefix_length ◌==◌))
