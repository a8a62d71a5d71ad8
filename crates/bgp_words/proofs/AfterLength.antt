-- When a prefix's text has bits after its length.
use Rattle.std.proofs.Common.{◌≡◌, ◌≢◌, ◌∙◌, List, [], ◌∷◌, ◌++◌, Bool, false, Option, Some, None, get_or, drop, refl, sym, ap, subst, arith}
use Rattle.std.proofs.lemmas.Bool.{false≢true}
use Rattle.std.proofs.lemmas.Option.{none-some}
use Rattle.std.proofs.lemmas.List.Elements.{All-contains, All-head, All-tail, Contains-append_right}
use Rattle.std.proofs.lemmas.Str.Pattern.{IsSplitOnceResult}
use Rattle.std.specs.Prelude.{◌↔◌, ℕ, Contains, IsTrue, IsSomeAnd}
use Rattle.std.specs.Borrow.{Bor}
use Rattle.bgp_prefix.specs.Notation.{IsAddressText, IsPrefixText}
use Rattle.bgp_prefix.specs.Prefix.{PrefixBits, address_of}
use Rattle.bgp_prefix.specs.Slash.{LacksSlash}
use Rattle.bgp_prefix.specs.declared.address.Address.{Address}
use Rattle.bgp_prefix.proofs.ReadExits.{cut_at_slash}
use Rattle.bgp_words.specs.Values.{HasBitsAfter}

-- a text has one first slash
one_slash : (before other after rest : List ℕ) → LacksSlash before → LacksSlash other → before ++ (47 ∷ after) ≡ other ++ (47 ∷ rest) → other ≡ before
one_slash [] [] after rest lacks also same = refl
one_slash [] (c ∷ other) after rest lacks also same = absurd (All-head (λ k. k ≢ 47) c other also (sym (ap (λ t. get_or t 0 0) same)))
one_slash (b ∷ before) [] after rest lacks also same = absurd (All-head (λ k. k ≢ 47) b before lacks (ap (λ t. get_or t 0 0) same))
one_slash (b ∷ before) (c ∷ other) after rest lacks also same =
    let fronts = one_slash before other after rest (All-tail (λ k. k ≢ 47) b before lacks) (All-tail (λ k. k ≢ 47) c other also) (ap (drop 1) same) in
    let heads : c ≡ b = sym (ap (λ t. get_or t 0 0) same) in
    rw (heads, fronts) refl

module _ (text : List ℕ) where
  pub no_prefix : (r : Option PrefixBits) → ((prefix : PrefixBits) → (r ≡ Some prefix) ↔ IsPrefixText text prefix) → r ≡ None → IsTrue false ↔ HasBitsAfter text
  no_prefix None exact is = (λ no. absurd (false≢true no), λ has. absurd (none-some has.prefix ((exact has.prefix).1 has.is_prefix)))
  no_prefix (Some prefix) exact is = absurd (none-some prefix (sym is))

  pub no_slash : (r : Option (Bor (List ℕ) × Bor (List ℕ))) → IsSplitOnceResult 47 text r → r ≡ None → IsTrue false ↔ HasBitsAfter text
  no_slash None cut is = (
    λ no. absurd (false≢true no),
    λ has.
        let slash : Contains text 47 = rw has.around.0 (Contains-append_right has.before (47 ∷ has.after) 47 (0, omega arith, refl)) in
        absurd (All-contains (λ c. c ≢ 47) text 47 (cut_at_slash text None cut) slash refl),
  )
  no_slash (Some parts) cut is = absurd (none-some parts (sym is))

  module _ (before after : Bor (List ℕ)) (cut : IsSplitOnceResult 47 text (Some (before, after))) where
    same_front : (has : HasBitsAfter text) → IsAddressText before.now has.address
    same_front has =
        let (split, lacks) = cut_at_slash text (Some (before, after)) cut in
        let (other, also) = has.around in
        subst (λ t. IsAddressText t has.address) (one_slash before.now has.before after.now has.after lacks also (sym split ∙ other)) has.is_address

    pub no_address : (r : Option Address) → ((address : Address) → (r ≡ Some address) ↔ IsAddressText before.now address) → r ≡ None → IsTrue false ↔ HasBitsAfter text
    no_address None exact is = (
      λ no. absurd (false≢true no),
      λ has. absurd (none-some has.address ((exact has.address).1 (same_front has))),
    )
    no_address (Some address) exact is = absurd (none-some address (sym is))

    pub found : (prefix : PrefixBits) (address : Address) (r : Option PrefixBits) (s : Option Address) → ((other : PrefixBits) → (r ≡ Some other) ↔ IsPrefixText text other) → r ≡ Some prefix → ((other : Address) → (s ≡ Some other) ↔ IsAddressText before.now other) → s ≡ Some address → (b : Bool) → IsTrue b ↔ (address ≢ address_of prefix) → IsTrue b ↔ HasBitsAfter text
    found prefix address (Some p) (Some a) reads is exact there b differs = (
      λ yes. record {
        prefix = prefix;
        before = before.now;
        after = after.now;
        address = address;
        is_prefix = (reads prefix).0 is;
        around = cut_at_slash text (Some (before, after)) cut;
        is_address = (exact address).0 there;
        another = differs.0 yes;
      },
      λ has.
          let same_prefix : has.prefix ≡ prefix = let e = (reads has.prefix).1 has.is_prefix in cc in
          let same_address : has.address ≡ address = let e = (exact has.address).1 (same_front has) in cc in
          differs.1 (λ same. has.another (same_address ∙ (same ∙ sym (ap address_of same_prefix)))),
    )
    found prefix address None s reads is exact there b differs = absurd (none-some prefix is)
    found prefix address (Some p) None reads is exact there b differs = absurd (none-some address there)

-- of a word that is there, or isn't
module _ (P : List ℕ → Type 0) (o : Option (List ℕ)) where
  pub there : (word : List ℕ) → o ≡ Some word → (b : Bool) → IsTrue b ↔ P word → IsTrue b ↔ IsSomeAnd o P
  there word is b holds = (
    λ yes. subst (λ (w : Option (List ℕ)). IsSomeAnd w P) (sym is) (holds.0 yes),
    λ has. holds.1 (subst (λ (w : Option (List ℕ)). IsSomeAnd w P) is has),
  )

  pub absent : o ≡ None → IsTrue false ↔ IsSomeAnd o P
  absent is = (
    λ no. absurd (false≢true no),
    λ has. absurd (subst (λ (w : Option (List ℕ)). IsSomeAnd w P) is has),
  )
