-- Values whose numbers are in decimal, below 2 ^ 64.
use Rattle.std.proofs.Common.{◌≡◌, ◌++◌, ◌<◌, ◌^◌, ℕ, Bool, true, false, List, [], ◌∷◌, All, Option, Some, None, bytes_eq, if◌then◌else◌, map, refl}
use Rattle.std.specs.Fmt.{decimal}
use Rattle.std.specs.Prelude.{⊤}
use Rattle.std.proofs.lemmas.List.Elements.{All-head, All-tail}
use Rattle.json.specs.Json.{Json, Items, Members, null, boolean, number, string, array, object, no_items, item, no_members, member}
use Rattle.bgp_json_values.specs.Objects.{array_of, in_array, in_object, number_of, object_of}
use Rattle.bgp_json_values.specs.Octets.{octets_members, value_or_octets}

abbrev pub IsDecimal : List ℕ → Type 0
IsDecimal text = (n : ℕ) × (n < 2 ^ 64) × (text ≡ decimal n)

abbrev mutual
  pub HasDecimals : Json → Type 0
  HasDecimals null = ⊤
  HasDecimals (boolean b) = ⊤
  HasDecimals (number s) = IsDecimal s
  HasDecimals (string s) = ⊤
  HasDecimals (array js) = ItemsHaveDecimals js
  HasDecimals (object ms) = MembersHaveDecimals ms

  pub ItemsHaveDecimals : Items → Type 0
  ItemsHaveDecimals no_items = ⊤
  ItemsHaveDecimals (item j js) = HasDecimals j × ItemsHaveDecimals js

  pub MembersHaveDecimals : Members → Type 0
  MembersHaveDecimals no_members = ⊤
  MembersHaveDecimals (member k j ms) = HasDecimals j × MembersHaveDecimals ms

-- the same of members in a list
abbrev pub HaveDecimals : List (List ℕ × Json) → Type 0
HaveDecimals [] = ⊤
HaveDecimals (m ∷ ms) = HasDecimals m.1 × HaveDecimals ms

pub of_number : (n : ℕ) → n < 2 ^ 64 → HasDecimals (number_of n)
of_number n small = (n, small, refl)

in_members : (ms : List (List ℕ × Json)) → HaveDecimals ms → MembersHaveDecimals (in_object ms)
in_members [] each = tt
in_members (m ∷ ms) each = (each.0, in_members ms each.1)

pub of_object : (ms : List (List ℕ × Json)) → HaveDecimals ms → HasDecimals (object_of ms)
of_object ms each = in_members ms each

in_items : {A : Type 0} (f : A → Json) (P : A → Type 0) → ((x : A) → P x → HasDecimals (f x)) → (xs : List A) → All P xs → ItemsHaveDecimals (in_array (map f xs))
in_items f P each [] all = tt
in_items f P each (x ∷ xs) all = (each x (All-head P x xs all), in_items f P each xs (All-tail P x xs all))

pub of_array : {A : Type 0} (f : A → Json) (P : A → Type 0) → ((x : A) → P x → HasDecimals (f x)) → (xs : List A) → All P xs → HasDecimals (array_of f xs)
of_array f P each xs all = in_items f P each xs all

-- items whose JSON has no numbers at all
in_texts : {A : Type 0} (f : A → Json) → ((x : A) → HasDecimals (f x)) → (xs : List A) → ItemsHaveDecimals (in_array (map f xs))
in_texts f each [] = tt
in_texts f each (x ∷ xs) = (each x, in_texts f each xs)

pub of_texts : {A : Type 0} (f : A → Json) → ((x : A) → HasDecimals (f x)) → (xs : List A) → HasDecimals (array_of f xs)
of_texts f each xs = in_texts f each xs

pub of_both : (ms ns : List (List ℕ × Json)) → HaveDecimals ms → HaveDecimals ns → HaveDecimals (ms ++ ns)
of_both [] ns first second = second
of_both (m ∷ ms) ns first second = (first.0, of_both ms ns first.1 second)

pub of_unless : (is_so : Bool) (octets : List ℕ) → HaveDecimals (if is_so then [] else octets_members octets)
of_unless true octets = tt
of_unless false octets = (tt, tt)

pub of_value : {V : Type 0} (json : V → Json) (spelled : V → List ℕ) (v : Option V) (octets : List ℕ) → ((a : V) → v ≡ Some a → HasDecimals (json a))
    → HaveDecimals (value_or_octets json spelled v octets)
of_value json spelled None octets each = (tt, tt)
of_value json spelled (Some a) octets each = (each a refl, of_unless (bytes_eq (spelled a) octets) octets)
