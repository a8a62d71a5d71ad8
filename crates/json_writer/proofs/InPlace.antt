-- What stands in front, once something was written behind the first places.
use Rattle.std.proofs.Common.{◌≡◌, ◌∙◌, ℕ, ◌+◌, ◌<◌, ◌≤◌, List, [], ◌∷◌, ◌++◌, length, take, set, rules, refl, ap, sym, arith, length-take-le, length-set, append_assoc, append-nil}
use Rattle.std.proofs.Math.Seq.{take-append-add}
use Rattle.std.proofs.lemmas.List.{take-append-le, take_more_set}
use Rattle.std.proofs.lemmas.Slice.{overwrites}
use borrow.Rule.Slice.PartMut.{put_mid, post_of}
use Rattle.json_writer.specs.Places.{Puts}

-- some of what was written over a part
pub front_of_mid : (at n k : ℕ) (places written : List ℕ) → at ≤ length places → k ≤ length written
    → take (at + k) (put_mid at n places written) ≡ take at places ++ take k written
front_of_mid at n k places written inside few =
    ap (λ (m : ℕ). take (m + k) (put_mid at n places written)) (sym (length-take-le at places inside))
    ∙ take-append-add (take at places) (written ++ post_of at n places) k
    ∙ ap (λ (xs : List ℕ). take at places ++ xs) (take-append-le k written (post_of at n places) few)

length_of_mid : (at n : ℕ) (places written : List ℕ) → at + n ≤ length places → length written ≡ n
    → length (put_mid at n places written) ≡ length places
length_of_mid at n places written inside long = search (rules, overwrites)

-- a part was written over, of which a text is the front
pub front_put : (at n k : ℕ) (places written : List ℕ) → at + n ≤ length places → length written ≡ n → k ≤ n
    → Puts places at (put_mid at n places written) (at + k) (take k written)
front_put at n k places written inside long few = record {
  front = front_of_mid at n k places written (omega arith) (omega arith);
  len = length_of_mid at n places written inside long;
}

-- an octet was written
pub one_put : (at octet : ℕ) (places : List ℕ) → at < length places → Puts places at (set places at octet) (at + 1) (octet ∷ [])
one_put at octet places inside = record { front = take_more_set places at octet inside; len = length-set places at octet }

-- nothing was written
pub none_put : (at : ℕ) (places : List ℕ) → Puts places at places at []
none_put at places = record { front = sym (append-nil (take at places)); len = refl }

-- a text was written, and then another
pub then_put : {old middle new xs ys : List ℕ} {at between end : ℕ} → Puts old at middle between xs → Puts middle between new end ys
    → Puts old at new end (xs ++ ys)
then_put {old} {middle} {new} {xs} {ys} {at} {between} {end} first second = record {
  front = second.front ∙ ap (λ (front : List ℕ). front ++ ys) first.front ∙ append_assoc (take at old) xs ys;
  len = second.len ∙ first.len;
}
