-- Why octets begin with no prefix, by number and in words.
use Rattle.std.specs.Prelude.{ℕ, List, codes}
use Rattle.bgp_prefix.specs.declared.prefix.PrefixFault.{PrefixFault}
use Rattle.bgp_prefix.specs.declared.prefix.PrefixFault.TheVariants.{TooLong, Short}

-- the number of a fault
abbrev pub fault_number : PrefixFault → ℕ
fault_number TooLong = 1
fault_number Short = 2

-- what is printed of a fault
abbrev pub fault_text : PrefixFault → List ℕ
fault_text TooLong = codes "a prefix has more bits than an address"
fault_text Short = codes "the octets end inside a prefix"
