-- The entries of a capability's value, one after another.
use Rattle.std.proofs.Common.{◌≡◌, ◌<◌, ◌+◌, ℕ, List, [], ◌∷◌, length, slice_index, take, drop, refl, arith}
use Rattle.byteorder.specs.Endian.{big_number}
use borrow.Rule.Slice.PartMut.{mid_of}
use Rattle.bgp_open.specs.RouteOffer.{path_entries, hop_entries}

pub of_paths : (entry others octets : List ℕ) (afi safi mode : ℕ) → entry ≡ take 4 octets → others ≡ drop 4 octets → length others + 4 ≡ length octets
    → afi ≡ big_number 2 entry → safi ≡ slice_index entry 2 → mode ≡ slice_index entry 3
    → path_entries octets ≡ (record { afi = afi; safi = safi; mode = mode }) ∷ path_entries others
of_paths entry others (a ∷ b ∷ c ∷ d ∷ r) afi safi mode front behind long first second third = rw (first, second, third, front, behind) refl
of_paths entry others [] afi safi mode front behind long first second third = absurd (omega arith)
of_paths entry others (a ∷ []) afi safi mode front behind long first second third = absurd (omega arith)
of_paths entry others (a ∷ b ∷ []) afi safi mode front behind long first second third = absurd (omega arith)
of_paths entry others (a ∷ b ∷ c ∷ []) afi safi mode front behind long first second third = absurd (omega arith)

pub no_path : (octets : List ℕ) → length octets < 4 → path_entries octets ≡ []
no_path [] short = refl
no_path (a ∷ []) short = refl
no_path (a ∷ b ∷ []) short = refl
no_path (a ∷ b ∷ c ∷ []) short = refl
no_path (a ∷ b ∷ c ∷ d ∷ r) short = absurd (omega arith)

pub of_hops : (entry others octets : List ℕ) (afi safi hop_afi : ℕ) → entry ≡ take 6 octets → others ≡ drop 6 octets → length others + 6 ≡ length octets
    → afi ≡ big_number 2 entry → safi ≡ big_number 2 (mid_of 2 4 entry) → hop_afi ≡ big_number 2 (mid_of 4 2 entry)
    → hop_entries octets ≡ (record { afi = afi; safi = safi; hop_afi = hop_afi }) ∷ hop_entries others
of_hops entry others (a ∷ b ∷ c ∷ d ∷ e ∷ f ∷ r) afi safi hop_afi front behind long first second third = rw (first, second, third, front, behind) refl
of_hops entry others [] afi safi hop_afi front behind long first second third = absurd (omega arith)
of_hops entry others (a ∷ []) afi safi hop_afi front behind long first second third = absurd (omega arith)
of_hops entry others (a ∷ b ∷ []) afi safi hop_afi front behind long first second third = absurd (omega arith)
of_hops entry others (a ∷ b ∷ c ∷ []) afi safi hop_afi front behind long first second third = absurd (omega arith)
of_hops entry others (a ∷ b ∷ c ∷ d ∷ []) afi safi hop_afi front behind long first second third = absurd (omega arith)
of_hops entry others (a ∷ b ∷ c ∷ d ∷ e ∷ []) afi safi hop_afi front behind long first second third = absurd (omega arith)

pub no_hop : (octets : List ℕ) → length octets < 6 → hop_entries octets ≡ []
no_hop [] short = refl
no_hop (a ∷ []) short = refl
no_hop (a ∷ b ∷ []) short = refl
no_hop (a ∷ b ∷ c ∷ []) short = refl
no_hop (a ∷ b ∷ c ∷ d ∷ []) short = refl
no_hop (a ∷ b ∷ c ∷ d ∷ e ∷ []) short = refl
no_hop (a ∷ b ∷ c ∷ d ∷ e ∷ f ∷ r) short = absurd (omega arith)
