-- JSON values by what they hold: an object by its members, which are keys and values in order, an
-- array by its items.
use Rattle.std.specs.Prelude.{◌++◌, ℕ, List, [], ◌∷◌, map}
use Rattle.std.specs.Fmt.{decimal}
use Rattle.json.specs.Json.{Json, Items, Members, number, array, object, no_items, item}
use Rattle.json.specs.Json.{no_members, member}
use Rattle.json.specs.Token.{Token, key}
use Rattle.json.specs.Tree.{json_tokens}

-- a number in decimal
abbrev pub number_of : ℕ → Json
number_of n = number (decimal n)

abbrev pub in_array : List Json → Items
in_array [] = no_items
in_array (value ∷ values) = item value (in_array values)

-- the array of what each of these is
abbrev pub array_of : {A : Type 0} → (A → Json) → List A → Json
array_of f values = array (in_array (map f values))

abbrev pub in_object : List (List ℕ × Json) → Members
in_object [] = no_members
in_object (m ∷ members) = member m.0 m.1 (in_object members)

-- the object with these members
abbrev pub object_of : List (List ℕ × Json) → Json
object_of members = object (in_object members)

-- the tokens of values, one after another, without the brackets of an array
abbrev pub values_tokens : List Json → List Token
values_tokens [] = []
values_tokens (value ∷ values) = json_tokens value ++ values_tokens values

-- the tokens of members, without the braces
abbrev pub members_tokens : List (List ℕ × Json) → List Token
members_tokens [] = []
members_tokens (m ∷ members) = key m.0 ∷ (json_tokens m.1 ++ members_tokens members)
