-- The fields of an UPDATE, by their lengths.
use Rattle.std.proofs.Common.{◌≡◌, ◌∙◌, ◌++◌, ◌<◌, ◌^◌, ℕ, List, [], ◌∷◌, length, take, drop, refl, ap}
use Rattle.byteorder.specs.Endian.{big_bytes, big_number}
use Rattle.byteorder.specs.Numbers.{big_number-reads_back}
use Rattle.bgp_wire.specs.Message.{body_of}
use Rattle.bgp_update.specs.Sections.{IsUpdate, Sections}
use Rattle.bgp_json.specs.MessageJson.{behind_field, counted_field, nlri_field, withdrawn_field}

take_front : (xs ys : List ℕ) → take (length xs) (xs ++ ys) ≡ xs
take_front [] ys = refl
take_front (x ∷ xs) ys = ap (λ (l : List ℕ). x ∷ l) (take_front xs ys)

drop_front : (xs ys : List ℕ) → drop (length xs) (xs ++ ys) ≡ ys
drop_front [] ys = refl
drop_front (x ∷ xs) ys = drop_front xs ys

counted : (octets field rest : List ℕ) → octets ≡ big_bytes 2 (length field) ++ (field ++ rest) → length field < 2 ^ 16
    → (counted_field octets ≡ field) × (behind_field octets ≡ rest)
counted octets field rest is fits =
    let count : big_number 2 octets ≡ length field = ap (big_number 2) is ∙ big_number-reads_back 2 (length field) (field ++ rest) fits in
    let behind : drop 2 octets ≡ field ++ rest = ap (drop 2) is in
    (rw (count, behind) (take_front field rest), rw (count, behind) (drop_front field rest))

pub lists : (octets : List ℕ) (s : Sections) → IsUpdate octets s → (withdrawn_field octets ≡ s.withdrawn) × (nlri_field octets ≡ s.nlri)
lists octets s update =
    let first = counted (body_of octets) s.withdrawn _ update.body update.withdrawn_length in
    let second = counted (behind_field (body_of octets)) s.attributes s.nlri first.1 update.attributes_length in
    (first.0, second.1)
