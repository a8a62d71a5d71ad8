-- Pieces of a text with a separator between them, read back: each has octets that no other has.
use Rattle.std.proofs.Common.{◌≡◌, ◌∙◌, ◌==◌, ◌&&◌, ◌++◌, ℕ, Bool, true, not, List, [], ◌∷◌, Option, None, Some, refl, sym, ap, ap₂}
use Rattle.std.proofs.lemmas.Bool.{and_parts, both_ways, eq-eqb, not-true}
use mathlib.Core.List.{append_cancel_left}
use Rattle.bgp_names.proofs.Distinct.{lacks, one_front, stops}
use Rattle.bgp_why_parts.specs.Pieces.{separated}

-- a number that isn't among these
abbrev pub is_new : ℕ → List ℕ → Bool
is_new n [] = true
is_new n (m ∷ ms) = not (n == m) && is_new n ms

-- numbers above 0, each once
abbrev pub are_apart : List ℕ → Bool
are_apart [] = true
are_apart (n ∷ ns) = (not (n == 0) && is_new n ns) && are_apart ns

unlike : (m n : ℕ) → not (m == n) ≡ true → m ≡ n → ⊥
unlike m n isnt is = both_ways (m == n) (not-true (m == n) isnt) (eq-eqb m n is)

nothing_behind : (xs ys : List ℕ) → xs ++ ys ≡ [] → ys ≡ []
nothing_behind [] ys e = e
nothing_behind (x ∷ xs) ys e = absurd (let none : x ∷ (xs ++ ys) ≡ [] = e in cc)

-- where a separator begins with this octet, and a number is read of a text, which is 0 for none
module _ (c : ℕ) (more : List ℕ) (tag : List ℕ → ℕ) (empty : tag [] ≡ 0) where
  abbrev sep : List ℕ
  sep = c ∷ more

  -- the piece has this number, whatever follows it
  abbrev pub IsTagged : ℕ → Option (List ℕ) → Type 0
  IsTagged n None = Unit {0}
  IsTagged n (Some p) = (x : List ℕ) → tag (p ++ x) ≡ n

  abbrev pub AreTagged : List ℕ → List (Option (List ℕ)) → Type 0
  AreTagged [] [] = Unit {0}
  AreTagged [] (p ∷ ps) = ⊥
  AreTagged (n ∷ ns) [] = ⊥
  AreTagged (n ∷ ns) (p ∷ ps) = IsTagged n p × AreTagged ns ps

  -- whichever separator follows them, or nothing, two pieces are one where the wholes are
  abbrev pub Split : Option (List ℕ) → Option (List ℕ) → Type 0
  Split (Some p) (Some q) = (x y : List ℕ) → stops c x ≡ true → stops c y ≡ true → p ++ x ≡ q ++ y → (p ≡ q) × (x ≡ y)
  Split p q = Unit {0}

  abbrev pub AllSplit : List (Option (List ℕ)) → List (Option (List ℕ)) → Type 0
  AllSplit (p ∷ ps) (q ∷ qs) = Split p q × AllSplit ps qs
  AllSplit ps qs = Unit {0}

  -- so it is where the octet isn't in them
  abbrev pub Lacks : Option (List ℕ) → Type 0
  Lacks None = Unit {0}
  Lacks (Some p) = lacks c p ≡ true

  pub split_by_lacks : (p q : Option (List ℕ)) → Lacks p → Lacks q → Split p q
  split_by_lacks None None lp lq = tt
  split_by_lacks None (Some q) lp lq = tt
  split_by_lacks (Some p) None lp lq = tt
  split_by_lacks (Some p) (Some q) lp lq = λ x y sx sy e. one_front c p q x y lp lq sx sy e

  -- a text with another number isn't that of the pieces
  pub not_later : (before t : List ℕ) (n : ℕ) (ns : List ℕ) (qs : List (Option (List ℕ))) → AreTagged ns qs → tag t ≡ n → not (n == 0) ≡ true
      → is_new n ns ≡ true → before ++ t ≡ separated sep before qs → ⊥
  not_later before t n [] [] tagged is some new e =
      unlike n 0 some (sym is ∙ ap tag (nothing_behind before t e) ∙ empty)
  not_later before t n [] (q ∷ qs) tagged is some new e = tagged
  not_later before t n (m ∷ ms) [] tagged is some new e = tagged
  not_later before t n (m ∷ ms) (None ∷ qs) tagged is some new e =
      not_later before t n ms qs tagged.1 is some (and_parts (not (n == m)) (is_new n ms) new).1 e
  not_later before t n (m ∷ ms) (Some q ∷ qs) tagged is some new e =
      let rest = separated sep sep qs in
      unlike n m (and_parts (not (n == m)) (is_new n ms) new).0
      (sym is ∙ ap tag (append_cancel_left before t (q ++ rest) e) ∙ tagged.0 rest)

  rest_stops : (ps : List (Option (List ℕ))) → stops c (separated sep sep ps) ≡ true
  rest_stops [] = refl
  rest_stops (None ∷ ps) = rest_stops ps
  rest_stops (Some p ∷ ps) = eq-eqb c c refl

  pub one_pieces : (before : List ℕ) (ns : List ℕ) (ps qs : List (Option (List ℕ))) → are_apart ns ≡ true → AreTagged ns ps → AreTagged ns qs → AllSplit ps qs
      → separated sep before ps ≡ separated sep before qs → ps ≡ qs
  one_pieces before [] [] [] apart tp tq sp e = refl
  one_pieces before [] [] (q ∷ qs) apart tp tq sp e = absurd tq
  one_pieces before [] (p ∷ ps) qs apart tp tq sp e = absurd tp
  one_pieces before (n ∷ ns) [] qs apart tp tq sp e = absurd tp
  one_pieces before (n ∷ ns) (p ∷ ps) [] apart tp tq sp e = absurd tq
  one_pieces before (n ∷ ns) (None ∷ ps) (None ∷ qs) apart tp tq sp e =
      ap (λ (l : List (Option (List ℕ))). None ∷ l) (one_pieces before ns ps qs (and_parts (not (n == 0) && is_new n ns) (are_apart ns) apart).1 tp.1 tq.1 sp.1 e)
  one_pieces before (n ∷ ns) (None ∷ ps) (Some q ∷ qs) apart tp tq sp e =
      let own = and_parts (not (n == 0)) (is_new n ns) (and_parts (not (n == 0) && is_new n ns) (are_apart ns) apart).0 in
      let rest = separated sep sep qs in
      absurd (not_later before (q ++ rest) n ns ps tp.1 (tq.0 rest) own.0 own.1 (sym e))
  one_pieces before (n ∷ ns) (Some p ∷ ps) (None ∷ qs) apart tp tq sp e =
      let own = and_parts (not (n == 0)) (is_new n ns) (and_parts (not (n == 0) && is_new n ns) (are_apart ns) apart).0 in
      let rest = separated sep sep ps in
      absurd (not_later before (p ++ rest) n ns qs tq.1 (tp.0 rest) own.0 own.1 e)
  one_pieces before (n ∷ ns) (Some p ∷ ps) (Some q ∷ qs) apart tp tq sp e =
      let split = sp.0 (separated sep sep ps) (separated sep sep qs) (rest_stops ps) (rest_stops qs)
      (append_cancel_left before (p ++ separated sep sep ps) (q ++ separated sep sep qs) e) in
      ap₂ ◌∷◌ (ap Some split.0) (one_pieces sep ns ps qs (and_parts (not (n == 0) && is_new n ns) (are_apart ns) apart).1 tp.1 tq.1 sp.1 split.1)

-- what holds of the separator and of each piece holds of the whole
module _ (T : List ℕ → Type 0) (none : T []) (both : (xs ys : List ℕ) → T xs → T ys → T (xs ++ ys)) where
  abbrev pub AllPieces : List (Option (List ℕ)) → Type 0
  AllPieces [] = Unit {0}
  AllPieces (None ∷ ps) = AllPieces ps
  AllPieces (Some p ∷ ps) = T p × AllPieces ps

  pub all_hold : (separator before : List ℕ) (ps : List (Option (List ℕ))) → T separator → T before → AllPieces ps → T (separated separator before ps)
  all_hold separator before [] ts tb all = none
  all_hold separator before (None ∷ ps) ts tb all = all_hold separator before ps ts tb all
  all_hold separator before (Some p ∷ ps) ts tb all =
      both before (p ++ separated separator separator ps) tb
      (both p (separated separator separator ps) all.0 (all_hold separator separator ps ts ts all.1))
