-- Octets appended to a vector that has room for them, one item after another.
use Rattle.std.proofs.Common.{◌≡◌, ◌∙◌, ℕ, ◌+◌, ◌<◌, ◌≤◌, List, [], ◌∷◌, ◌++◌, length, get_or, take, sym, ap, arith, append-nil, append_assoc, length-append}
use Rattle.std.specs.List.{flat_map}
use Rattle.std.proofs.lemmas.List.{take_more}
use Rattle.std.proofs.lemmas.List.Folds.{length-flat_map-take}
use Rattle.std.proofs.Math.Seq.{take-length}
use Rattle.std.proofs.lemmas.Grind.{flat_map-append}

-- a vector of these items, this length and this capacity has got these octets since it had those
pub record IsFilled (old : List ℕ) (count room : ℕ) (octets new : List ℕ) (count' room' : ℕ) : Type 0 where
  pub items : new ≡ old ++ octets
  pub len : count' ≡ count + length octets
  pub capacity : room ≤ room'

-- with one item more, its octets stand at the end
one_more : {X : Type 0} (f : X → List ℕ) (xs : List X) (i : ℕ) (d : X) → i < length xs → flat_map f (take (i + 1) xs) ≡ flat_map f (take i xs) ++ f (get_or xs i d)
one_more {X} f xs i d lt =
    ap (λ (ys : List X). flat_map f ys) (take_more xs i d lt)
    ∙ flat_map-append f (take i xs) (get_or xs i d ∷ [])
    ∙ ap (λ (os : List ℕ). flat_map f (take i xs) ++ os) (append-nil (f (get_or xs i d)))

-- and so is it longer
pub longer : {X : Type 0} (f : X → List ℕ) (xs : List X) (i : ℕ) (d : X) → i < length xs
    → length (flat_map f (take (i + 1) xs)) ≡ length (flat_map f (take i xs)) + length (f (get_or xs i d))
longer f xs i d lt = ap length (one_more f xs i d lt) ∙ length-append (flat_map f (take i xs)) (f (get_or xs i d))

-- all of them are so long
pub length_all : {X : Type 0} (f : X → List ℕ) (xs : List X) (i : ℕ) → i ≤ length xs → length xs ≤ i
    → length (flat_map f (take i xs)) ≡ length (flat_map f xs)
length_all {X} f xs i le ge =
    let end : i ≡ length xs = omega arith in
    let whole : take i xs ≡ xs = ap (λ (k : ℕ). take k xs) end ∙ take-length xs in
    ap (λ (ys : List X). length (flat_map f ys)) whole

pub filled_more : {X : Type 0} (f : X → List ℕ) (xs : List X) (i : ℕ) (d : X) (old mid new : List ℕ) (count room count' room' count'' room'' : ℕ) → i < length xs
    → IsFilled old count room (flat_map f (take i xs)) mid count' room' → new ≡ mid ++ f (get_or xs i d) → count'' ≡ count' + length (f (get_or xs i d)) → room' ≤ room''
    → IsFilled old count room (flat_map f (take (i + 1) xs)) new count'' room''
filled_more f xs i d old mid new count room count' room' count'' room'' lt before items len capacity =
    let front = flat_map f (take i xs) in
    let one = f (get_or xs i d) in
    record {
      items = items ∙ ap (λ (m : List ℕ). m ++ one) before.items ∙ append_assoc old front one ∙ ap (λ (os : List ℕ). old ++ os) (sym (one_more f xs i d lt));
      len = omega (arith, len, before.len, ap length (one_more f xs i d lt), length-append front one);
      capacity = omega (arith, before.capacity);
    }

-- with one that is the next
pub filled_with : {X : Type 0} (f : X → List ℕ) (xs : List X) (i : ℕ) (d x : X) (old mid new : List ℕ) (count room count' room' count'' room'' : ℕ) → i < length xs → x ≡ get_or xs i d
    → IsFilled old count room (flat_map f (take i xs)) mid count' room' → new ≡ mid ++ f x → count'' ≡ count' + length (f x) → room' ≤ room''
    → IsFilled old count room (flat_map f (take (i + 1) xs)) new count'' room''
filled_with {X} f xs i d x old mid new count room count' room' count'' room'' lt is before items len capacity =
    filled_more f xs i d old mid new count room count' room' count'' room'' lt before (items ∙ ap (λ (y : X). mid ++ f y) is) (len ∙ ap (λ (y : X). count' + length (f y)) is) capacity

-- there is room for the next
pub filled_room : {X : Type 0} (f : X → List ℕ) (xs : List X) (i : ℕ) (d : X) (old mid : List ℕ) (count room count' room' : ℕ) → i < length xs
    → count + length (flat_map f xs) ≤ room → IsFilled old count room (flat_map f (take i xs)) mid count' room' → count' + length (f (get_or xs i d)) ≤ room'
filled_room f xs i d old mid count room count' room' lt enough before =
    omega (arith, before.len, before.capacity, length-flat_map-take f xs i d lt)

-- all of them were appended
pub filled_all : {X : Type 0} (f : X → List ℕ) (xs : List X) (i : ℕ) (old new : List ℕ) (count room count' room' : ℕ) → i ≤ length xs → length xs ≤ i
    → IsFilled old count room (flat_map f (take i xs)) new count' room' → IsFilled old count room (flat_map f xs) new count' room'
filled_all {X} f xs i old new count room count' room' le ge h =
    let end : i ≡ length xs = omega arith in
    let whole : take i xs ≡ xs = ap (λ (k : ℕ). take k xs) end ∙ take-length xs in
    record {
      items = h.items ∙ ap (λ (ys : List X). old ++ flat_map f ys) whole;
      len = h.len ∙ ap (λ (ys : List X). count + length (flat_map f ys)) whole;
      capacity = h.capacity;
    }
