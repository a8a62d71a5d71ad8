-- A whole message is its header as it is written, and its body; octets are those of the numbers that they spell.
use Rattle.std.proofs.Common.{◌≡◌, ◌∙◌, ◌<◌, ◌≤◌, ◌+◌, ℕ, List, [], ◌∷◌, ◌++◌, All, length, take, drop, replicate, slice_index, ◌-◌, refl, sym, ap, ap₂, arith}
use Rattle.std.proofs.lemmas.List.{take-append-drop, drop-drop, length-take-le, length-drop, drop_all}
use Rattle.std.proofs.lemmas.List.Elements.{All-head, All-tail, All-take, All-drop}
use Rattle.std.proofs.Math.Seq.{drop-cons}
use Rattle.byteorder.specs.Endian.{big_bytes, big_number}
use Rattle.bgp_wire.specs.Header.{header_of, header_octets, length_of, type_of}
use Rattle.bgp_wire.specs.Message.{IsMessage, body_of, message_octets}
use Rattle.bgp_wire.specs.Octets.{AreOctets}
use Rattle.bgp_wire.proofs.EachOctet.{IsOctet}

-- two octets, and four, are those of their number
pub two_octets : (octets : List ℕ) → 2 ≤ length octets → AreOctets octets
    → octets ≡ big_bytes 2 (big_number 2 octets) ++ drop 2 octets
two_octets [] long are = absurd (omega arith)
two_octets (a ∷ []) long are = absurd (omega arith)
two_octets (a ∷ b ∷ rest) long are =
    let small : a < 256 = All-head IsOctet a (b ∷ rest) are in
    let small' : b < 256 = All-head IsOctet b rest (All-tail IsOctet a (b ∷ rest) are) in
    ap₂ ◌∷◌ (omega (arith, small, small')) (ap₂ ◌∷◌ (omega (arith, small, small')) refl)

pub four_octets : (octets : List ℕ) → 4 ≤ length octets → AreOctets octets
    → octets ≡ big_bytes 4 (big_number 4 octets) ++ drop 4 octets
four_octets [] long are = absurd (omega arith)
four_octets (a ∷ []) long are = absurd (omega arith)
four_octets (a ∷ b ∷ []) long are = absurd (omega arith)
four_octets (a ∷ b ∷ c ∷ []) long are = absurd (omega arith)
four_octets (a ∷ b ∷ c ∷ d ∷ rest) long are =
    let are1 = All-tail IsOctet a (b ∷ c ∷ d ∷ rest) are in
    let are2 = All-tail IsOctet b (c ∷ d ∷ rest) are1 in
    let are3 = All-tail IsOctet c (d ∷ rest) are2 in
    let s0 : a < 256 = All-head IsOctet a (b ∷ c ∷ d ∷ rest) are in
    let s1 : b < 256 = All-head IsOctet b (c ∷ d ∷ rest) are1 in
    let s2 : c < 256 = All-head IsOctet c (d ∷ rest) are2 in
    let s3 : d < 256 = All-head IsOctet d rest are3 in
    ap₂ ◌∷◌ (omega (arith, s0, s1, s2, s3))
    (ap₂ ◌∷◌ (omega (arith, s0, s1, s2, s3)) (ap₂ ◌∷◌ (omega (arith, s0, s1, s2, s3)) (ap₂ ◌∷◌ (omega (arith, s0, s1, s2, s3)) refl)))

-- a list whose elements are all one
pub all_same : (value : ℕ) (list : List ℕ) → All (λ x. x ≡ value) list → list ≡ replicate (length list) value
all_same value [] all = refl
all_same value (x ∷ list) all =
    ap₂ ◌∷◌ (All-head (λ y. y ≡ value) x list all) (all_same value list (All-tail (λ y. y ≡ value) x list all))

-- the header of a whole message is that of its type and of its count of octets
header_is : (header : List ℕ) → length header ≡ 19 → AreOctets header → All (λ octet. octet ≡ 255) (take 16 header)
    → header ≡ header_octets (type_of header) (length_of header)
unfolding header_octets length_of type_of
header_is header long are marker =
    let front : length (take 16 header) ≡ 16 = length-take-le 16 header (omega arith) in
    let ones : take 16 header ≡ replicate 16 255 = all_same 255 (take 16 header) marker ∙ ap (λ (n : ℕ). replicate n 255) front in
    let count = two_octets (drop 16 header) (omega (arith, length-drop 16 header)) (All-drop IsOctet 16 header are) in
    let last : drop 18 header ≡ slice_index header 18 ∷ drop 19 header = drop-cons header 18 0 (omega arith) in
    let none : drop 19 header ≡ [] = drop_all 19 header (omega arith) in
    sym (take-append-drop 16 header)
    ∙ ap₂ ◌++◌ ones (count ∙ ap (λ (back : List ℕ). big_bytes 2 (big_number 2 (drop 16 header)) ++ back)
    (drop-drop 2 16 header ∙ last ∙ ap (λ (back : List ℕ). slice_index header 18 ∷ back) none))

pub message_is_header_and_body : (kind : ℕ) (octets : List ℕ) → AreOctets octets → IsMessage kind octets
    → octets ≡ message_octets kind (body_of octets)
unfolding message_octets
message_is_header_and_body kind octets are message =
    let long = message.header in
    let body : length (body_of octets) ≡ length octets - 19 = length-drop 19 octets in
    let total : length octets ≡ 19 + length (body_of octets) = omega arith in
    let header = header_is (header_of octets) (length-take-le 19 octets long) (All-take IsOctet 19 octets are) message.marker in
    sym (take-append-drop 19 octets)
    ∙ ap (λ (front : List ℕ). front ++ body_of octets)
    (header ∙ ap₂ header_octets message.type_field (message.count ∙ total))
