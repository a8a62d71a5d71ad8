-- Members by their keys, each with a value or none, and what is found of these.
use Rattle.std.proofs.Common.{◌≡◌, ◌∙◌, ◌++◌, ◌&&◌, ℕ, Bool, true, false, not, List, [], ◌∷◌, Option, None, Some, bytes_eq, length, refl, ap, ap₂, suc, pred}
use Rattle.std.proofs.lemmas.Bool.{and_from, and_parts, eq-eqb, not-true}
use Rattle.json.specs.Json.{Json}
use Rattle.bgp_json_values.specs.Objects.{object_of}
use Rattle.bgp_json_laws.proofs.Lookups.{members_of, paired, paired_back, valued}

-- the members of those keys that have a value
abbrev pub made : List (List ℕ) → List (Option Json) → List (List ℕ × Json)
made [] values = []
made (key ∷ keys) [] = []
made (key ∷ keys) (None ∷ values) = made keys values
made (key ∷ keys) (Some value ∷ values) = (key, value) ∷ made keys values

-- the values of these keys
abbrev pub found : List (List ℕ) → List (List ℕ × Json) → List (Option Json)
found [] ms = []
found (key ∷ keys) ms = valued key ms ∷ found keys ms

-- ---- keys that differ

abbrev pub is_new : List ℕ → List (List ℕ) → Bool
is_new key [] = true
is_new key (k ∷ keys) = not (bytes_eq key k) && (not (bytes_eq k key) && is_new key keys)

abbrev pub are_distinct : List (List ℕ) → Bool
are_distinct [] = true
are_distinct (key ∷ keys) = is_new key keys && are_distinct keys

own : (key : List ℕ) → bytes_eq key key ≡ true
own [] = refl
own (c ∷ key) = and_from _ _ (eq-eqb c c refl) (own key)

not_made : (key : List ℕ) (keys : List (List ℕ)) (values : List (Option Json)) → is_new key keys ≡ true → valued key (made keys values) ≡ None
not_made key [] values is = refl
not_made key (k ∷ keys) [] is = refl
not_made key (k ∷ keys) (None ∷ values) is = not_made key keys values (and_parts _ _ (and_parts _ _ is).1).1
not_made key (k ∷ keys) (Some value ∷ values) is =
    let other : bytes_eq key k ≡ false = not-true (bytes_eq key k) (and_parts _ _ is).0 in
    rw other (not_made key keys values (and_parts _ _ (and_parts _ _ is).1).1)

passed : (key : List ℕ) (value : Json) (keys : List (List ℕ)) (ms : List (List ℕ × Json)) → is_new key keys ≡ true → found keys ((key, value) ∷ ms) ≡ found keys ms
passed key value [] ms is = refl
passed key value (k ∷ keys) ms is =
    let parts = and_parts (not (bytes_eq key k)) _ is in
    let rest = and_parts (not (bytes_eq k key)) (is_new key keys) parts.1 in
    let other : bytes_eq k key ≡ false = not-true (bytes_eq k key) rest.0 in
    rw other (ap (λ (os : List (Option Json)). valued k ms ∷ os) (passed key value keys ms rest.1))

pub found_made : (keys : List (List ℕ)) (values : List (Option Json)) → are_distinct keys ≡ true → length keys ≡ length values → found keys (made keys values) ≡ values
found_made [] [] distinct long = refl
found_made [] (o ∷ values) distinct long = cc
found_made (key ∷ keys) [] distinct long = cc
found_made (key ∷ keys) (None ∷ values) distinct long =
    let parts = and_parts (is_new key keys) (are_distinct keys) distinct in
    ap₂ ◌∷◌ (not_made key keys values parts.0) (found_made keys values parts.1 (ap pred long))
found_made (key ∷ keys) (Some value ∷ values) distinct long =
    let parts = and_parts (is_new key keys) (are_distinct keys) distinct in
    let itself = own key in
    rw itself (ap (λ (os : List (Option Json)). Some value ∷ os) (passed key value keys (made keys values) parts.0 ∙ found_made keys values parts.1 (ap pred long)))

-- ---- members of a shape

pub record IsMade (keys : List (List ℕ)) (values : List (Option Json)) (ms : List (List ℕ × Json)) : Type 0 where
  pub is : ms ≡ made keys values
  pub long : length keys ≡ length values

made_both : (keys : List (List ℕ)) (values : List (Option Json)) (more : List (List ℕ)) (others : List (Option Json)) → length keys ≡ length values
    → made keys values ++ made more others ≡ made (keys ++ more) (values ++ others)
made_both [] [] more others long = refl
made_both [] (o ∷ values) more others long = cc
made_both (key ∷ keys) [] more others long = cc
made_both (key ∷ keys) (None ∷ values) more others long = made_both keys values more others (ap pred long)
made_both (key ∷ keys) (Some value ∷ values) more others long =
    ap (λ (ms : List (List ℕ × Json)). (key, value) ∷ ms) (made_both keys values more others (ap pred long))

long_both : (keys : List (List ℕ)) (values : List (Option Json)) (more : List (List ℕ)) (others : List (Option Json)) → length keys ≡ length values
    → length more ≡ length others → length (keys ++ more) ≡ length (values ++ others)
long_both [] [] more others long also = also
long_both [] (o ∷ values) more others long also = cc
long_both (key ∷ keys) [] more others long also = cc
long_both (key ∷ keys) (o ∷ values) more others long also = ap suc (long_both keys values more others (ap pred long) also)

pub joined : {keys more : List (List ℕ)} {values others : List (Option Json)} {ms ns : List (List ℕ × Json)} → IsMade keys values ms → IsMade more others ns
    → IsMade (keys ++ more) (values ++ others) (ms ++ ns)
joined {keys} {more} {values} {others} first second = record {
  is = ap₂ ◌++◌ first.is second.is ∙ made_both keys values more others first.long;
  long = long_both keys values more others first.long second.long;
}

pub having : {keys : List (List ℕ)} {values : List (Option Json)} {ms : List (List ℕ × Json)} (key : List ℕ) (value : Json) → IsMade keys values ms
    → IsMade (key ∷ keys) (Some value ∷ values) ((key, value) ∷ ms)
having key value rest = record { is = ap (λ (l : List (List ℕ × Json)). (key, value) ∷ l) rest.is; long = ap suc rest.long }

pub nothing : IsMade [] [] []
nothing = record { is = refl; long = refl }

-- ---- and of an object of these

pub found_in : {keys : List (List ℕ)} {values : List (Option Json)} {ms : List (List ℕ × Json)} → IsMade keys values ms → are_distinct keys ≡ true
    → found keys (paired (members_of (object_of ms))) ≡ values
found_in {keys} {values} {ms} made_of distinct =
    ap (found keys) (paired_back ms ∙ made_of.is) ∙ found_made keys values distinct made_of.long
