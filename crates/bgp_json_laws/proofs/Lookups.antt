-- What equal objects, arrays and members have in common.
use Rattle.std.proofs.Common.{◌≡◌, ◌∙◌, ℕ, Bool, false, List, [], ◌∷◌, Option, None, Some, refl, sym, ap, bytes_eq, if◌then◌else◌, map, unwrap_or}
use Rattle.std.proofs.lemmas.Option.{none-some}
use Rattle.json.specs.Json.{Json, Items, Members, null, boolean, number, string, array, object, no_items, item, no_members, member}
use Rattle.bgp_json_values.specs.Objects.{array_of, in_array, in_object, object_of}

-- the text of a number or a text, or none
abbrev pub text_of : Json → List ℕ
text_of null = []
text_of (boolean b) = []
text_of (number s) = s
text_of (string s) = s
text_of (array js) = []
text_of (object ms) = []

abbrev pub truth_of : Json → Bool
truth_of null = false
truth_of (boolean b) = b
truth_of (number s) = false
truth_of (string s) = false
truth_of (array js) = false
truth_of (object ms) = false

abbrev pub items_of : Json → Items
items_of null = no_items
items_of (boolean b) = no_items
items_of (number s) = no_items
items_of (string s) = no_items
items_of (array js) = js
items_of (object ms) = no_items

abbrev pub members_of : Json → Members
members_of null = no_members
members_of (boolean b) = no_members
members_of (number s) = no_members
members_of (string s) = no_members
members_of (array js) = no_members
members_of (object ms) = ms

-- ---- arrays and objects as lists

abbrev pub listed : Items → List Json
listed no_items = []
listed (item j js) = j ∷ listed js

abbrev pub paired : Members → List (List ℕ × Json)
paired no_members = []
paired (member k j ms) = (k, j) ∷ paired ms

pub listed_back : (js : List Json) → listed (in_array js) ≡ js
listed_back [] = refl
listed_back (j ∷ js) = ap (λ (l : List Json). j ∷ l) (listed_back js)

pub paired_back : (ms : List (List ℕ × Json)) → paired (in_object ms) ≡ ms
paired_back [] = refl
paired_back (m ∷ ms) = ap (λ (l : List (List ℕ × Json)). m ∷ l) (paired_back ms)

-- equal objects have equal members
pub same_members : (ms ns : List (List ℕ × Json)) → object_of ms ≡ object_of ns → ms ≡ ns
same_members ms ns e = sym (paired_back ms) ∙ ap (λ (j : Json). paired (members_of j)) e ∙ paired_back ns

-- equal arrays have equal items
pub same_values : {A B : Type 0} (f : A → Json) (g : B → Json) (xs : List A) (ys : List B) → array_of f xs ≡ array_of g ys → map f xs ≡ map g ys
same_values f g xs ys e = sym (listed_back (map f xs)) ∙ ap (λ (j : Json). listed (items_of j)) e ∙ listed_back (map g ys)

-- ---- members by their keys

-- the value of the first member with this key
abbrev pub valued : List ℕ → List (List ℕ × Json) → Option Json
valued key [] = None
valued key (m ∷ ms) = if bytes_eq key m.0 then Some m.1 else valued key ms

-- that value; null if there is none
abbrev pub of_key : List ℕ → List (List ℕ × Json) → Json
of_key key ms = unwrap_or (valued key ms) null

-- the same of an object
abbrev pub value_at : List ℕ → Json → Json
value_at key j = of_key key (paired (members_of j))

pub at_object : (key : List ℕ) (ms : List (List ℕ × Json)) → value_at key (object_of ms) ≡ of_key key ms
at_object key ms = ap (of_key key) (paired_back ms)

-- two lists of members don't differ by the key that one of them has
pub not_valued : (key : List ℕ) (ms ns : List (List ℕ × Json)) (b : Json) → ms ≡ ns → valued key ms ≡ None → valued key ns ≡ Some b → ⊥
not_valued key ms ns b e first second = none-some b (sym first ∙ ap (valued key) e ∙ second)
