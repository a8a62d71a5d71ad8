-- Octets that are equal where the numbers in them are, from a place on.
use Rattle.std.proofs.Common.{◌≡◌, ◌∙◌, ◌++◌, ◌+◌, ◌≤◌, ℕ, suc, List, ◌∷◌, length, get_or, take, drop, sym, ap, ap₂, arith}
use Rattle.std.proofs.lemmas.List.{drop-drop, drop_all, length-drop, length-take-le, take-append-drop}
use Rattle.std.proofs.lemmas.List.Elements.{All-drop, All-take}
use Rattle.std.proofs.Math.Seq.{drop-cons}
use Rattle.byteorder.specs.Endian.{big_bytes, big_number}
use Rattle.byteorder.specs.Numbers.{big_from-take}
use Rattle.bgp_prefix.proofs.AddressNumbers.{big_bytes-big_number}
use Rattle.bgp_wire.specs.Octets.{AreOctets}
use Rattle.bgp_json_laws.proofs.Texts.{IsOctet, bytes_of}

-- the first octets are those of their number
pub front : (n : ℕ) (xs : List ℕ) → n ≤ length xs → AreOctets xs → big_bytes n (big_number n xs) ≡ take n xs
front n xs long are =
    ap (big_bytes n) (sym (big_from-take 0 n n xs (omega arith)))
    ∙ big_bytes-big_number n (take n xs) (length-take-le n xs long) (bytes_of (take n xs) (All-take IsOctet n xs are))

same_front : (n : ℕ) (xs ys : List ℕ) → n ≤ length xs → n ≤ length ys → AreOctets xs → AreOctets ys → big_number n xs ≡ big_number n ys → take n xs ≡ take n ys
same_front n xs ys long also are too e = sym (front n xs long are) ∙ ap (big_bytes n) e ∙ front n ys also too

-- two lists of octets that are so long
pub record Pair (size : ℕ) (xs ys : List ℕ) : Type 0 where
  pub long : length xs ≡ size
  pub also : length ys ≡ size
  pub are : AreOctets xs
  pub too : AreOctets ys

-- from a place on they are equal if the number there is, and what stands behind it
pub from_number : (size k n : ℕ) (xs ys : List ℕ) → Pair size xs ys → k + n ≤ size → big_number n (drop k xs) ≡ big_number n (drop k ys)
    → drop (k + n) xs ≡ drop (k + n) ys → drop k xs ≡ drop k ys
from_number size k n xs ys p within e rest =
    let long = p.long in
    let also = p.also in
    let front = same_front n (drop k xs) (drop k ys) (omega (arith, within, long, length-drop k xs)) (omega (arith, within, also, length-drop k ys)) (All-drop IsOctet k xs p.are) (All-drop IsOctet k ys p.too) e in
    sym (take-append-drop n (drop k xs))
    ∙ ap₂ ◌++◌ front (drop-drop n k xs ∙ rest ∙ sym (drop-drop n k ys))
    ∙ take-append-drop n (drop k ys)

pub from_octet : (size k : ℕ) (xs ys : List ℕ) → Pair size xs ys → suc k ≤ size → get_or xs k 0 ≡ get_or ys k 0
    → drop (suc k) xs ≡ drop (suc k) ys → drop k xs ≡ drop k ys
from_octet size k xs ys p within e rest =
    let long = p.long in
    let also = p.also in
    drop-cons xs k 0 (omega (arith, within, long)) ∙ ap₂ ◌∷◌ e rest ∙ sym (drop-cons ys k 0 (omega (arith, within, also)))

-- nothing stands behind them
pub at_end : (size k : ℕ) (xs ys : List ℕ) → Pair size xs ys → size ≤ k → drop k xs ≡ drop k ys
at_end size k xs ys p past =
    let long = p.long in
    let also = p.also in
    drop_all k xs (omega (arith, past, long)) ∙ sym (drop_all k ys (omega (arith, past, also)))
