-- The numbers that octets hold, of equally many octets each (RFC 1997; 4360; 4456, 8).
use Rattle.std.specs.Prelude.{ℕ, zero, suc, ◌/◌, List, [], ◌∷◌, length, drop, Option}
use Rattle.std.specs.Option.{option_map_or}
use Rattle.byteorder.specs.Endian.{big_number}

-- the first `count` of them, of `size` octets each
abbrev pub numbers_in : ℕ → ℕ → List ℕ → List ℕ
numbers_in zero size octets = []
numbers_in (suc count) size octets =
    big_number size octets ∷ numbers_in count size (drop size octets)

-- all of them
abbrev pub items_in : ℕ → List ℕ → List ℕ
items_in size octets = numbers_in (length octets / size) size octets

-- the list that an attribute holds, empty where there is none
abbrev pub items_from : ℕ → Option (List ℕ) → List ℕ
items_from size value = option_map_or (items_in size) value []
