-- A tag, where there are four octets of it.
use Rattle.std.proofs.Common.{◌≡◌, ◌≤◌, ℕ, List, [], ◌∷◌, length, drop, refl, arith, true}
use Rattle.byteorder.specs.Endian.{big_number}
use Rattle.segments.specs.Link.{is_tag, carried_behind}

pub behind_tag : (ether_type : ℕ) (octets : List ℕ) → is_tag ether_type ≡ true → 4 ≤ length octets
    → carried_behind ether_type octets ≡ carried_behind (big_number 2 (drop 2 octets)) (drop 4 octets)
behind_tag ether_type [] tag long = absurd (omega arith)
behind_tag ether_type (a ∷ []) tag long = absurd (omega arith)
behind_tag ether_type (a ∷ b ∷ []) tag long = absurd (omega arith)
behind_tag ether_type (a ∷ b ∷ c ∷ []) tag long = absurd (omega arith)
behind_tag ether_type (a ∷ b ∷ c ∷ d ∷ octets) tag long = rw tag refl
