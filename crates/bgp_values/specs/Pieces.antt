-- Octets in pieces of one size, one after another: how capabilities and attributes have lists.
use Rattle.std.specs.Prelude.{ℕ, zero, suc, ◌%◌, ◌==◌, ◌&&◌, Bool, nat_lt, List, [], ◌∷◌, length}
use Rattle.std.specs.Prelude.{take, drop, if◌then◌else◌}

-- at most so many pieces of this size
abbrev pub pieces_in : ℕ → ℕ → List ℕ → List (List ℕ)
pieces_in zero size octets = []
pieces_in (suc most) size octets =
    if nat_lt (length octets) size then []
    else take size octets ∷ pieces_in most size (drop size octets)

-- all of them: there are no more than octets
abbrev pub pieces_of : ℕ → List ℕ → List (List ℕ)
pieces_of size octets = pieces_in (length octets) size octets

-- pieces of this size fill the octets
abbrev pub are_pieces : ℕ → List ℕ → Bool
are_pieces size octets = length octets % size == 0

-- and there is one at least
abbrev pub are_some_pieces : ℕ → List ℕ → Bool
are_some_pieces size octets = nat_lt 0 (length octets) && are_pieces size octets
