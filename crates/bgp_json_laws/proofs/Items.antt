-- Items whose JSON is equal are equal; or the octets that they spell are.
use Rattle.std.proofs.Common.{◌≡◌, ◌∙◌, ◌++◌, ◌+◌, ◌%◌, ◌<◌, ◌≤◌, ◌^◌, ◌==◌, ℕ, Bool, true, not, List, [], ◌∷◌, get_or, take, drop, refl, sym, ap, ap₂, codes, slice_index, arith}
use Rattle.std.specs.Fmt.{decimal}
use Rattle.std.proofs.lemmas.Bool.{and_from, and_parts, leb-true, ne_eqb, not_from_false}
use Rattle.std.proofs.lemmas.Fmt.{decimal_by_steps, decimal_injective}
use Rattle.std.proofs.lemmas.List.{get_or-take, length-take-le}
use Rattle.std.proofs.lemmas.List.Elements.{All-drop, All-take}
use mathlib.Core.List.{append_cancel_left}
use Rattle.byteorder.specs.Endian.{big_number}
use Rattle.byteorder.specs.Numbers.{big_from-take}
use Rattle.json.specs.Json.{Json}
use Rattle.bgp_wire.specs.Octets.{AreOctets}
use Rattle.bgp_names.proofs.Distinct.{lacks, lacks_both, one_front}
use Rattle.bgp_values.specs.CapabilityValue.{has_way}
use Rattle.bgp_values.specs.Items.{has_bits}
use Rattle.bgp_values.specs.declared.items.Item.TheVariants.{HopFamily, RestartFamily, PathFamily, LongLivedFamily, AsNumber2, AsNumber4, Community, ExtendedCommunity, LargeCommunity, Cluster}
use Rattle.bgp_json_values.specs.CapabilityJson.{flag, spelled_family}
use Rattle.bgp_json_values.specs.ItemJson.{family_members, item_json}
use Rattle.bgp_json_values.specs.Objects.{number_of}
use Rattle.bgp_json_laws.proofs.Fronts.{Pair, at_end, from_number, from_octet}
use Rattle.bgp_json_laws.proofs.Lookups.{of_key, text_of, truth_of, value_at}
use Rattle.bgp_json_laws.proofs.Pieces.{IsPiece}
use Rattle.bgp_json_laws.proofs.Tables.{same_way}
use Rattle.bgp_json_laws.proofs.Texts.{IsOctet, bytes_of, number_fits, same_address_4, same_number_json, same_octets}

pub paired : (size : ℕ) (o p : List ℕ) → IsPiece size o → IsPiece size p → Pair size o p
paired size o p first second = record { long = first.long; also = second.long; are = first.are; too = second.are }

-- the number of so many octets from a place on
pub same_big : (n k : ℕ) (o p : List ℕ) → AreOctets o → AreOctets p → 256 ^ n ≤ 2 ^ 64
    → number_of (big_number n (drop k o)) ≡ number_of (big_number n (drop k p)) → big_number n (drop k o) ≡ big_number n (drop k p)
same_big n k o p are too fits e =
    let first = number_fits n (drop k o) (All-drop IsOctet k o are) in
    let second = number_fits n (drop k p) (All-drop IsOctet k p too) in
    same_number_json (big_number n (drop k o)) (big_number n (drop k p)) (omega (arith, first, fits)) (omega (arith, second, fits)) e

pub same_octet : (k : ℕ) (o p : List ℕ) → AreOctets o → AreOctets p → number_of (get_or o k 0) ≡ number_of (get_or p k 0) → get_or o k 0 ≡ get_or p k 0
same_octet k o p are too e =
    let first = bytes_of o are k in
    let second = bytes_of p too k in
    same_number_json (get_or o k 0) (get_or p k 0) (omega (arith, first)) (omega (arith, second)) e

-- ---- families

-- a family by its numbers, in front of other members
pub same_family : (a s b t : ℕ) (ms ns : List (List ℕ × Json)) → a < 2 ^ 64 → s < 2 ^ 64 → b < 2 ^ 64 → t < 2 ^ 64
    → family_members a s ++ ms ≡ family_members b t ++ ns → (a ≡ b) × (s ≡ t)
same_family a s b t ms ns sa ss sb st e = (
  same_number_json a b sa sb (ap (of_key (codes "afi")) e),
  same_number_json s t ss st (ap (of_key (codes "safi")) e),
)

-- the first three octets are a family
first_three : (size : ℕ) (o p : List ℕ) → Pair size o p → number_of (big_number 2 o) ≡ number_of (big_number 2 p) → number_of (get_or o 2 0) ≡ number_of (get_or p 2 0)
    → (big_number 2 o ≡ big_number 2 p) × (get_or o 2 0 ≡ get_or p 2 0)
first_three size o p both e f = (same_big 2 0 o p both.are both.too (omega arith) e, same_octet 2 o p both.are both.too f)

three_pair : (size : ℕ) (o p : List ℕ) → 3 ≤ size → Pair size o p → Pair 3 (take 3 o) (take 3 p)
three_pair size o p more both = record {
  long = (let long = both.long in length-take-le 3 o (omega (arith, more, long)));
  also = (let also = both.also in length-take-le 3 p (omega (arith, more, also)));
  are = All-take IsOctet 3 o both.are;
  too = All-take IsOctet 3 p both.too;
}

take_three : (size : ℕ) (o p : List ℕ) → 3 ≤ size → Pair size o p → big_number 2 o ≡ big_number 2 p → get_or o 2 0 ≡ get_or p 2 0 → take 3 o ≡ take 3 p
take_three size o p more both e f =
    let short = three_pair size o p more both in
    let number : big_number 2 (take 3 o) ≡ big_number 2 (take 3 p) = big_from-take 0 2 3 o (omega arith) ∙ e ∙ sym (big_from-take 0 2 3 p (omega arith)) in
    let octet : get_or (take 3 o) 2 0 ≡ get_or (take 3 p) 2 0 = get_or-take 3 o 2 0 (omega arith) ∙ f ∙ sym (get_or-take 3 p 2 0 (omega arith)) in
    from_number 3 0 2 (take 3 o) (take 3 p) short (omega arith) number
    (from_octet 3 2 (take 3 o) (take 3 p) short (omega arith) octet (at_end 3 3 (take 3 o) (take 3 p) short (omega arith)))

-- ---- items of capabilities

pub same_hop_family : (o p : List ℕ) → IsPiece 6 o → IsPiece 6 p → item_json HopFamily o ≡ item_json HopFamily p → o ≡ p
same_hop_family o p is also e =
    let both = paired 6 o p is also in
    let afi = same_big 2 0 o p is.are also.are (omega arith) (ap (value_at (codes "afi")) e) in
    let safi = same_big 2 2 o p is.are also.are (omega arith) (ap (value_at (codes "safi")) e) in
    let hop = same_big 2 4 o p is.are also.are (omega arith) (ap (value_at (codes "next_hop_afi")) e) in
    from_number 6 0 2 o p both (omega arith) afi (from_number 6 2 2 o p both (omega arith) safi (from_number 6 4 2 o p both (omega arith) hop (at_end 6 6 o p both (omega arith))))

-- octets of a family whose flags are the first bit alone
spelled_alike : (size : ℕ) (o p : List ℕ) → 3 ≤ size → Pair size o p → big_number 2 o ≡ big_number 2 p → get_or o 2 0 ≡ get_or p 2 0
    → has_bits 128 (slice_index o 3) ≡ has_bits 128 (slice_index p 3) → drop 4 o ≡ drop 4 p → spelled_family o ≡ spelled_family p
spelled_alike size o p more both e f bits rest =
    ap₂ ◌++◌ (take_three size o p more both e f) (ap₂ ◌∷◌ (ap (λ (b : Bool). flag b 128) bits) rest)

pub same_restart_family : (o p : List ℕ) → IsPiece 4 o → IsPiece 4 p → item_json RestartFamily o ≡ item_json RestartFamily p → spelled_family o ≡ spelled_family p
same_restart_family o p is also e =
    let both = paired 4 o p is also in
    let three = first_three 4 o p both (ap (value_at (codes "afi")) e) (ap (value_at (codes "safi")) e) in
    spelled_alike 4 o p (omega arith) both three.0 three.1 (ap (λ (j : Json). truth_of (value_at (codes "preserved") j)) e) (at_end 4 4 o p both (omega arith))

pub same_long_lived_family : (o p : List ℕ) → IsPiece 7 o → IsPiece 7 p → item_json LongLivedFamily o ≡ item_json LongLivedFamily p → spelled_family o ≡ spelled_family p
same_long_lived_family o p is also e =
    let both = paired 7 o p is also in
    let three = first_three 7 o p both (ap (value_at (codes "afi")) e) (ap (value_at (codes "safi")) e) in
    let time = same_big 3 4 o p is.are also.are (omega arith) (ap (value_at (codes "time")) e) in
    spelled_alike 7 o p (omega arith) both three.0 three.1 (ap (λ (j : Json). truth_of (value_at (codes "preserved") j)) e)
    (from_number 7 4 3 o p both (omega arith) time (at_end 7 7 o p both (omega arith)))

pub same_path_family : (o p : List ℕ) → IsPiece 4 o → has_way o ≡ true → IsPiece 4 p → has_way p ≡ true → item_json PathFamily o ≡ item_json PathFamily p → o ≡ p
same_path_family o p is has also too e =
    let both = paired 4 o p is also in
    let three = first_three 4 o p both (ap (value_at (codes "afi")) e) (ap (value_at (codes "safi")) e) in
    let first = and_parts _ _ has in
    let second = and_parts _ _ too in
    let way = same_way (slice_index o 3) (slice_index p 3) (leb-true _ _ first.0) (leb-true _ _ first.1) (leb-true _ _ second.0) (leb-true _ _ second.1)
    (ap (λ (j : Json). text_of (value_at (codes "way") j)) e) in
    from_number 4 0 2 o p both (omega arith) three.0 (from_octet 4 2 o p both (omega arith) three.1 (from_octet 4 3 o p both (omega arith) way (at_end 4 4 o p both (omega arith))))

-- ---- items of attributes

pub same_as_number_2 : (o p : List ℕ) → IsPiece 2 o → IsPiece 2 p → item_json AsNumber2 o ≡ item_json AsNumber2 p → o ≡ p
same_as_number_2 o p is also e =
    let both = paired 2 o p is also in
    from_number 2 0 2 o p both (omega arith) (same_big 2 0 o p is.are also.are (omega arith) e) (at_end 2 2 o p both (omega arith))

pub same_as_number_4 : (o p : List ℕ) → IsPiece 4 o → IsPiece 4 p → item_json AsNumber4 o ≡ item_json AsNumber4 p → o ≡ p
same_as_number_4 o p is also e =
    let both = paired 4 o p is also in
    from_number 4 0 4 o p both (omega arith) (same_big 4 0 o p is.are also.are (omega arith) e) (at_end 4 4 o p both (omega arith))

pub same_cluster : (o p : List ℕ) → IsPiece 4 o → IsPiece 4 p → item_json Cluster o ≡ item_json Cluster p → o ≡ p
same_cluster o p is also e =
    let both = paired 4 o p is also in
    let address = same_address_4 (big_number 4 o) (big_number 4 p) (number_fits 4 o is.are) (number_fits 4 p also.are) e in
    from_number 4 0 4 o p both (omega arith) address (at_end 4 4 o p both (omega arith))

pub same_extended_community : (o p : List ℕ) → IsPiece 8 o → IsPiece 8 p → item_json ExtendedCommunity o ≡ item_json ExtendedCommunity p → o ≡ p
same_extended_community o p is also e = same_octets o p is.are also.are e

-- digits aren't colons
one_digit : (n : ℕ) → n < 10 → lacks 58 ((48 + n) ∷ []) ≡ true
one_digit n below =
    and_from (not ((48 + n) == 58)) true (not_from_false ((48 + n) == 58) (ne_eqb (48 + n) 58 (λ e. omega (arith, e, below)))) refl

lacks_colon : (n : ℕ) → n < 2 ^ 64 → lacks 58 (decimal n) ≡ true
lacks_colon n small =
    decimal_by_steps (λ (m : ℕ) (ds : List ℕ). lacks 58 ds ≡ true)
    (λ m below. one_digit m below)
    (λ m ds above so_far. lacks_both 58 ds ((48 + m % 10) ∷ []) so_far (one_digit (m % 10) (omega arith)))
    n small

-- a number in front of a colon, and what stands behind it
colon_apart : (m n : ℕ) (xs ys : List ℕ) → m < 2 ^ 64 → n < 2 ^ 64 → decimal m ++ (codes ":" ++ xs) ≡ decimal n ++ (codes ":" ++ ys) → (m ≡ n) × (xs ≡ ys)
colon_apart m n xs ys small also e =
    let parts = one_front 58 (decimal m) (decimal n) (codes ":" ++ xs) (codes ":" ++ ys) (lacks_colon m small) (lacks_colon n also) refl refl e in
    (decimal_injective m n small also parts.0, append_cancel_left (codes ":") xs ys parts.1)

pub fits_big : (n k : ℕ) (o : List ℕ) → AreOctets o → 256 ^ n ≤ 2 ^ 64 → big_number n (drop k o) < 2 ^ 64
fits_big n k o are fits = let first = number_fits n (drop k o) (All-drop IsOctet k o are) in omega (arith, first, fits)

pub same_community : (o p : List ℕ) → IsPiece 4 o → IsPiece 4 p → item_json Community o ≡ item_json Community p → o ≡ p
same_community o p is also e =
    let both = paired 4 o p is also in
    let fit = λ (k : ℕ). fits_big 2 k o is.are (omega arith) in
    let fit' = λ (k : ℕ). fits_big 2 k p also.are (omega arith) in
    let first = colon_apart (big_number 2 o) (big_number 2 p) _ _ (fit 0) (fit' 0) (ap text_of e) in
    let second = decimal_injective (big_number 2 (drop 2 o)) (big_number 2 (drop 2 p)) (fit 2) (fit' 2) first.1 in
    from_number 4 0 2 o p both (omega arith) first.0 (from_number 4 2 2 o p both (omega arith) second (at_end 4 4 o p both (omega arith)))

pub same_large_community : (o p : List ℕ) → IsPiece 12 o → IsPiece 12 p → item_json LargeCommunity o ≡ item_json LargeCommunity p → o ≡ p
same_large_community o p is also e =
    let both = paired 12 o p is also in
    let fit = λ (k : ℕ). fits_big 4 k o is.are (omega arith) in
    let fit' = λ (k : ℕ). fits_big 4 k p also.are (omega arith) in
    let first = colon_apart (big_number 4 o) (big_number 4 p) _ _ (fit 0) (fit' 0) (ap text_of e) in
    let second = colon_apart (big_number 4 (drop 4 o)) (big_number 4 (drop 4 p)) _ _ (fit 4) (fit' 4) first.1 in
    let third = decimal_injective (big_number 4 (drop 8 o)) (big_number 4 (drop 8 p)) (fit 8) (fit' 8) second.1 in
    from_number 12 0 4 o p both (omega arith) first.0
    (from_number 12 4 4 o p both (omega arith) second.0 (from_number 12 8 4 o p both (omega arith) third (at_end 12 12 o p both (omega arith))))
