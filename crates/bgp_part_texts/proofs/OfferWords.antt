-- What is offered about routes, read back from its words.
use Rattle.std.proofs.Common.{◌≡◌, ◌∙◌, ◌+◌, ◌==◌, ◌||◌, ◌++◌, ℕ, Bool, true, false, List, [], ◌∷◌, Option, None, Some, codes, if◌then◌else◌, is_some, inl, inr, refl, sym, ap, get_or}
use Rattle.std.specs.Bool.{then_some}
use Rattle.std.proofs.lemmas.Bool.{cases_Bool, cond_both, or_parts}
use Rattle.bgp_open.specs.declared.route_offer.RouteOffer.{RouteOffer}
use Rattle.bgp_names.proofs.Distinct.{lacks, lacks_both}
use Rattle.bgp_why_parts.specs.Offers.{offer_text, offers_something, words_text}
use Rattle.bgp_part_texts.proofs.Clear.{both_clear, is_clear}
use Rattle.bgp_part_texts.proofs.Fields.{octet_at}
use Rattle.bgp_part_texts.proofs.Pieces.{AllPieces, AllSplit, AreTagged, IsTagged, Lacks, Split, all_hold, not_later, one_pieces, split_by_lacks}

-- the number of a word, by single octets
abbrev tag : List ℕ → ℕ
tag text =
    if octet_at 0 text == 115 then octet_at 6 text
    else if octet_at 0 text == 114 then 256 + octet_at 9 text
    else if octet_at 0 text == 110 then 512 + octet_at 1 text
    else 0

abbrev tags : List ℕ
tags = 52 ∷ 54 ∷ 308 ∷ 310 ∷ 613 ∷ []

abbrev words : RouteOffer → List (Option (List ℕ))
words offer =
    then_some offer.sends.v4 (codes "send-v4")
    ∷ then_some offer.sends.v6 (codes "send-v6")
    ∷ then_some offer.receives.v4 (codes "receive-v4")
    ∷ then_some offer.receives.v6 (codes "receive-v6")
    ∷ then_some offer.next_hops (codes "next-hops")
    ∷ []

abbrev Tagged : ℕ → Option (List ℕ) → Type 0
Tagged = IsTagged 44 [] tag refl

tagged_if : (b : Bool) (n : ℕ) (word : List ℕ) → Tagged n (Some word) → Tagged n (then_some b word)
tagged_if true n word is = is
tagged_if false n word is = tt

are_tagged : (offer : RouteOffer) → AreTagged 44 [] tag refl tags (words offer)
are_tagged offer = (
  tagged_if offer.sends.v4 52 (codes "send-v4") (λ x. refl),
  (
    tagged_if offer.sends.v6 54 (codes "send-v6") (λ x. refl),
    (
      tagged_if offer.receives.v4 308 (codes "receive-v4") (λ x. refl),
      (
        tagged_if offer.receives.v6 310 (codes "receive-v6") (λ x. refl),
        (tagged_if offer.next_hops 613 (codes "next-hops") (λ x. refl), tt),
      ),
    ),
  ),
)

lacks_if : (b : Bool) (word : List ℕ) → lacks 44 word ≡ true → Lacks 44 [] tag refl (then_some b word)
lacks_if true word is = is
lacks_if false word is = tt

are_split : (p q : RouteOffer) → AllSplit 44 [] tag refl (words p) (words q)
are_split p q =
    let both : (a b : Bool) (word : List ℕ) → lacks 44 word ≡ true → Split 44 [] tag refl (then_some a word) (then_some b word) =
    λ a b word is. split_by_lacks 44 [] tag refl (then_some a word) (then_some b word) (lacks_if a word is) (lacks_if b word is) in (
      both p.sends.v4 q.sends.v4 (codes "send-v4") refl,
      (
        both p.sends.v6 q.sends.v6 (codes "send-v6") refl,
        (
          both p.receives.v4 q.receives.v4 (codes "receive-v4") refl,
          (
            both p.receives.v6 q.receives.v6 (codes "receive-v6") refl,
            (both p.next_hops q.next_hops (codes "next-hops") refl, tt),
          ),
        ),
      ),
    )

is_there : (b : Bool) (word : List ℕ) → is_some (then_some b word) ≡ b
is_there true word = refl
is_there false word = refl

one_bit : (a b : Bool) (word : List ℕ) → then_some a word ≡ then_some b word → a ≡ b
one_bit a b word e = sym (is_there a word) ∙ ap is_some e ∙ is_there b word

-- an offer by its bits
abbrev offer_by : Bool → Bool → Bool → Bool → Bool → RouteOffer
offer_by a b c d e = record { sends = record { v4 = a; v6 = b }; receives = record { v4 = c; v6 = d }; next_hops = e }

one_by : (p q : RouteOffer) → p.sends.v4 ≡ q.sends.v4 → p.sends.v6 ≡ q.sends.v6 → p.receives.v4 ≡ q.receives.v4 → p.receives.v6 ≡ q.receives.v6
    → p.next_hops ≡ q.next_hops → p ≡ q
one_by p q a b c d e =
    ap (λ (x : Bool). offer_by x p.sends.v6 p.receives.v4 p.receives.v6 p.next_hops) a
    ∙ ap (λ (x : Bool). offer_by q.sends.v4 x p.receives.v4 p.receives.v6 p.next_hops) b
    ∙ ap (λ (x : Bool). offer_by q.sends.v4 q.sends.v6 x p.receives.v6 p.next_hops) c
    ∙ ap (λ (x : Bool). offer_by q.sends.v4 q.sends.v6 q.receives.v4 x p.next_hops) d
    ∙ ap (λ (x : Bool). offer_by q.sends.v4 q.sends.v6 q.receives.v4 q.receives.v6 x) e

abbrev word_at : ℕ → List (Option (List ℕ)) → Option (List ℕ)
word_at i pieces = get_or pieces i None

one_words : (p q : RouteOffer) → words_text p ≡ words_text q → p ≡ q
one_words p q e =
    let same : words p ≡ words q = one_pieces 44 [] tag refl [] tags (words p) (words q) refl (are_tagged p) (are_tagged q) (are_split p q) e in
    one_by p q
    (one_bit p.sends.v4 q.sends.v4 (codes "send-v4") (ap (word_at 0) same))
    (one_bit p.sends.v6 q.sends.v6 (codes "send-v6") (ap (word_at 1) same))
    (one_bit p.receives.v4 q.receives.v4 (codes "receive-v4") (ap (word_at 2) same))
    (one_bit p.receives.v6 q.receives.v6 (codes "receive-v6") (ap (word_at 3) same))
    (one_bit p.next_hops q.next_hops (codes "next-hops") (ap (word_at 4) same))

-- where nothing is offered each bit is off
abbrev nothing_offered : RouteOffer
nothing_offered = offer_by false false false false false

is_nothing : (p : RouteOffer) → offers_something p ≡ false → p ≡ nothing_offered
is_nothing p none =
    let v4 = p.sends.v4 in
    let v6 = p.sends.v6 in
    let r4 = p.receives.v4 in
    let r6 = p.receives.v6 in
    let hops = p.next_hops in
    let fourth = or_parts (((v4 || v6) || r4) || r6) hops none in
    let third = or_parts ((v4 || v6) || r4) r6 fourth.0 in
    let second = or_parts (v4 || v6) r4 third.0 in
    let first = or_parts v4 v6 second.0 in
    one_by p nothing_offered first.0 first.1 second.1 third.1 fourth.1

-- words aren't `none`
not_none : (p : RouteOffer) → words_text p ≡ codes "none" → ⊥
not_none p e = not_later 44 [] tag refl [] (codes "none") 623 tags (words p) (are_tagged p) refl refl refl (sym e)

pub one_offer : (p q : RouteOffer) → offer_text p ≡ offer_text q → p ≡ q
one_offer p q e = elim (cases_Bool (offers_something p)) [
  | inl is ↦ elim (cases_Bool (offers_something q)) [
    | inl is' ↦ one_words p q (rw (is, is') at e)
    | inr isnt' ↦ absurd (not_none p (rw (is, isnt') at e))
  ]
  | inr isnt ↦ elim (cases_Bool (offers_something q)) [
    | inl is' ↦ absurd (not_none q (sym (rw (isnt, is') at e)))
    | inr isnt' ↦ is_nothing p isnt ∙ sym (is_nothing q isnt')
  ]
]

-- ---- octets in it

module _ (T : List ℕ → Type 0) (none : T []) (both : (xs ys : List ℕ) → T xs → T ys → T (xs ++ ys)) where
  abbrev If : Option (List ℕ) → Type 0
  If None = Unit {0}
  If (Some word) = T word

  all_if : (b : Bool) (word : List ℕ) (ps : List (Option (List ℕ))) → T word → AllPieces T none both ps → AllPieces T none both (then_some b word ∷ ps)
  all_if true word ps is all = (is, all)
  all_if false word ps is all = all

  offer_holds : (p : RouteOffer) → T (codes ",") → T (codes "send-v4") → T (codes "send-v6") → T (codes "receive-v4") → T (codes "receive-v6") → T (codes "next-hops")
      → T (codes "none") → T (offer_text p)
  offer_holds p comma sends4 sends6 receives4 receives6 hops nothing =
      cond_both (offers_something p) (words_text p) (codes "none") T
      (λ _. all_hold T none both (codes ",") [] (words p) comma none
      (all_if p.sends.v4 (codes "send-v4") _ sends4
      (all_if p.sends.v6 (codes "send-v6") _ sends6
      (all_if p.receives.v4 (codes "receive-v4") _ receives4
      (all_if p.receives.v6 (codes "receive-v6") _ receives6
      (all_if p.next_hops (codes "next-hops") [] hops tt))))))
      (λ _. nothing)

-- no blank is in it
pub offer_lacks : (p : RouteOffer) → lacks 32 (offer_text p) ≡ true
offer_lacks p = offer_holds (λ (t : List ℕ). lacks 32 t ≡ true) refl (lacks_both 32) p refl refl refl refl refl refl refl

pub offer_clear : (p : RouteOffer) → is_clear (offer_text p) ≡ true
offer_clear p = offer_holds (λ (t : List ℕ). is_clear t ≡ true) refl both_clear p refl refl refl refl refl refl refl
