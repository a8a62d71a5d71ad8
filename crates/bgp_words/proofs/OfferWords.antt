-- The words of an offer, one after another.
use Rattle.std.proofs.Common.{arith, ◌≡◌, ◌≢◌, ◌∙◌, ◌&&◌, ◌==◌, ℕ, Bool, true, false, not, List, [], ◌∷◌, ◌++◌, Option, Some, None, get_or, length, suc, zero, refl, sym, ap, subst, inl, inr, codes}
use Rattle.std.specs.Prelude.{◌↔◌, ◌<◌}
use Rattle.std.specs.List.{list_all}
use Rattle.std.specs.Borrow.{Bor}
use Rattle.std.proofs.lemmas.Bool.{false≢true}
use Rattle.std.proofs.lemmas.Option.{none-some, same_Some}
use Rattle.std.proofs.lemmas.Str.Pattern.{IsSplitOnceResult, split_after, split_parts}
use Rattle.bgp_open.specs.declared.route_offer.RouteOffer.{RouteOffer}
use Rattle.bgp_words.specs.declared.offers.OfferWord.{OfferWord}
use Rattle.bgp_words.specs.Offers.{Adds, AreAdded, IsAdded, IsOffersText, IsWordText, has_word, with_commas, with_word}

-- no character is a comma
abbrev LacksComma : List ℕ → Type 0
LacksComma text = (i : ℕ) → i < length text → get_or text i 0 ≢ 44

abbrev is_other : ℕ → Bool
is_other c = not (c == 44)

both : (a b : Bool) → (a && b) ≡ true → (a ≡ true) × (b ≡ true)
both true b e = (refl, e)
both false b e = absurd (false≢true e)

no_comma : (c : ℕ) → is_other c ≡ true → c ≢ 44
no_comma c other same = absurd (false≢true (subst (λ k. is_other k ≡ true) same other))

lacks : (text : List ℕ) → list_all is_other text ≡ true → LacksComma text
lacks [] all i within = absurd (omega (arith, within))
lacks (c ∷ cs) all zero within = no_comma c (both (is_other c) (list_all is_other cs) all).0
lacks (c ∷ cs) all (suc i) within = lacks cs (both (is_other c) (list_all is_other cs) all).1 i (omega (arith, within))

word_lacks : (text : List ℕ) (word : OfferWord) → IsWordText text word → LacksComma text
word_lacks text word is = elim is [
  | inl a ↦ subst LacksComma (sym a.0) (lacks (codes "send-v4") refl)
  | inr more ↦ elim more [
    | inl b ↦ subst LacksComma (sym b.0) (lacks (codes "send-v6") refl)
    | inr more ↦ elim more [
      | inl c ↦ subst LacksComma (sym c.0) (lacks (codes "receive-v4") refl)
      | inr more ↦ elim more [
        | inl d ↦ subst LacksComma (sym d.0) (lacks (codes "receive-v6") refl)
        | inr e ↦ subst LacksComma (sym e.0) (lacks (codes "next-hops") refl)
      ]
    ]
  ]
]

added_lacks : (text : List ℕ) (offers wider : RouteOffer) → IsAdded text offers wider → LacksComma text
added_lacks text offers wider is = word_lacks text is.word is.is_word

comma_in : (before after : List ℕ) → LacksComma (before ++ (44 ∷ after)) → ⊥
comma_in [] after none = none 0 (omega arith) refl
comma_in (b ∷ before) after none = comma_in before after (λ i within. none (suc i) (omega (arith, within)))

module _ (text : List ℕ) (offers : RouteOffer) where
  -- a text without a comma is one word
  alone : IsSplitOnceResult 44 text None → (wider : RouteOffer) (first : List ℕ) (more : List (List ℕ)) → text ≡ with_commas first more
      → AreAdded (first ∷ more) offers wider → IsAdded text offers wider
  alone cut wider first [] spelled are =
      subst (λ (w : RouteOffer). IsAdded text offers w) (sym are.2) (subst (λ (t : List ℕ). IsAdded t offers are.0) (sym spelled) are.1)
  alone cut wider first (next ∷ more) spelled are =
      absurd (split_after 44 text first (with_commas next more) None cut (omega arith) spelled (added_lacks first offers are.0 are.1))

  pub last_word : (parts : Option (Bor (List ℕ) × Bor (List ℕ))) → IsSplitOnceResult 44 text parts → parts ≡ None
      → (r : Option RouteOffer) → ((w : RouteOffer) → (r ≡ Some w) ↔ IsAdded text offers w)
      → (w : RouteOffer) → (r ≡ Some w) ↔ Adds text offers w
  last_word parts cut none r reads w = (
    λ is. record { first = text; more = []; spelled = refl; are_added = (w, (reads w).0 is, refl) },
    λ adds. (reads w).1 (alone (subst (IsSplitOnceResult 44 text) none cut) w adds.first adds.more adds.spelled adds.are_added),
  )

  module _ (before after : Bor (List ℕ)) (cut : IsSplitOnceResult 44 text (Some (before, after))) where
    -- the first word stands before the comma, and the others after it
    pub record Others (wider : RouteOffer) : Type 0 where
      pub mid : RouteOffer
      pub is : IsAdded before.now offers mid
      pub adds : Adds after.now mid wider

    others : (wider : RouteOffer) (first : List ℕ) (more : List (List ℕ)) → text ≡ with_commas first more
        → AreAdded (first ∷ more) offers wider → Others wider
    others wider first [] spelled are =
        let whole = (split_parts 44 text (Some (before, after)) cut (omega arith)).0 in
        absurd (comma_in before.now after.now (subst LacksComma (sym spelled ∙ whole) (added_lacks first offers are.0 are.1)))
    others wider first (next ∷ more) spelled are =
        let parts = split_after 44 text first (with_commas next more) (Some (before, after)) cut (omega arith) spelled (added_lacks first offers are.0 are.1) in
        record {
          mid = are.0;
          is = subst (λ (t : List ℕ). IsAdded t offers are.0) (sym parts.0) are.1;
          adds = record { first = next; more = more; spelled = parts.1; are_added = are.2 };
        }

    module _ (r : Option RouteOffer) (reads : (w : RouteOffer) → (r ≡ Some w) ↔ IsAdded before.now offers w) where
      pub more_words : (next : RouteOffer) → r ≡ Some next → (w : RouteOffer) → Adds after.now next w ↔ Adds text offers w
      more_words next is w = (
        λ adds. record {
          first = before.now;
          more = adds.first ∷ adds.more;
          spelled = (split_parts 44 text (Some (before, after)) cut (omega arith)).0 ∙ ap (λ (t : List ℕ). before.now ++ (44 ∷ t)) adds.spelled;
          are_added = (next, (reads next).0 is, adds.are_added);
        },
        λ adds.
            let o = others w adds.first adds.more adds.spelled adds.are_added in
            let same : o.mid ≡ next = same_Some _ _ (sym ((reads o.mid).1 o.is) ∙ is) in
            subst (λ (m : RouteOffer). Adds after.now m w) same o.adds,
      )

      pub no_word : r ≡ None → (w : RouteOffer) → Adds text offers w → ⊥
      no_word none w adds =
          let o = others w adds.first adds.more adds.spelled adds.are_added in
          none-some o.mid (sym none ∙ (reads o.mid).1 o.is)

-- what is left to add, in place of the whole
module _ (text : List ℕ) (left : List ℕ) (offers : RouteOffer) (goes_on : (w : RouteOffer) → Adds left offers w ↔ IsOffersText text w) where
  pub one_more : (after : List ℕ) (next : RouteOffer) → ((w : RouteOffer) → Adds after next w ↔ Adds left offers w)
      → (w : RouteOffer) → Adds after next w ↔ IsOffersText text w
  one_more after next same w = (λ a. (goes_on w).0 ((same w).0 a), λ a. (same w).1 ((goes_on w).1 a))

  pub none_more : (r : Option RouteOffer) → r ≡ None → ((w : RouteOffer) → Adds left offers w → ⊥) → (w : RouteOffer) → (r ≡ Some w) ↔ IsOffersText text w
  none_more r lacks none w = (λ same. absurd (none-some w (sym lacks ∙ same)), λ a. absurd (none w ((goes_on w).1 a)))

  pub last_one : (r : Option RouteOffer) → ((w : RouteOffer) → (r ≡ Some w) ↔ Adds left offers w)
      → (w : RouteOffer) → (r ≡ Some w) ↔ IsOffersText text w
  last_one r is w = (λ same. (goes_on w).0 ((is w).0 same), λ a. (is w).1 ((goes_on w).1 a))

-- a word that is read, of an offer that has what it names, or lacks it
module _ (text : List ℕ) (offers : RouteOffer) (o : Option OfferWord) (reads : (w : OfferWord) → (o ≡ Some w) ↔ IsWordText text w) where
  pub no_such_word : (r : Option RouteOffer) → r ≡ None → o ≡ None → (wider : RouteOffer) → (r ≡ Some wider) ↔ IsAdded text offers wider
  no_such_word r none lacks wider = (
    λ same. absurd (none-some wider (sym none ∙ same)),
    λ adds. absurd (none-some adds.word (sym lacks ∙ (reads adds.word).1 adds.is_word)),
  )

  module _ (word : OfferWord) (is : o ≡ Some word) where
    the_word : (other : OfferWord) → IsWordText text other → other ≡ word
    the_word other is_other = same_Some _ _ (sym ((reads other).1 is_other) ∙ is)

    pub there_already : has_word word offers ≡ true → (wider : RouteOffer) → (None ≡ Some wider) ↔ IsAdded text offers wider
    there_already has wider = (
      λ same. absurd (none-some wider same),
      λ adds. absurd (false≢true (sym adds.lacks ∙ subst (λ (w : OfferWord). has_word w offers ≡ true) (sym (the_word adds.word adds.is_word)) has)),
    )

    pub is_new : has_word word offers ≡ false → (made : RouteOffer) → made ≡ with_word word offers → (wider : RouteOffer)
        → (Some made ≡ Some wider) ↔ IsAdded text offers wider
    is_new lacks made makes wider = (
      λ same. record { word = word; is_word = (reads word).0 is; lacks = lacks; is = sym (same_Some _ _ same) ∙ makes },
      λ adds. ap Some (makes ∙ (ap (λ (w : OfferWord). with_word w offers) (sym (the_word adds.word adds.is_word)) ∙ sym adds.is)),
    )
