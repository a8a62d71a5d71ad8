-- The first attribute of each type, which alone counts: what repeats a type is discarded unread
-- (RFC 7606, 3 g).
use Rattle.std.specs.Prelude.{ℕ, ◌==◌, ◌||◌, Bool, true, false, if◌then◌else◌, List, [], ◌∷◌}
use Rattle.std.specs.Prelude.{Option, None, Some, is_some, find, get_or, option_map}
use Rattle.std.specs.Option.{option_or}
use Rattle.bgp_attr.specs.declared.classes.AttrVerdict.{AttrVerdict}
use Rattle.bgp_attr.specs.declared.classes.AttrVerdict.TheVariants.{Good, Discard, Withdraw, Reset}
use Rattle.bgp_attr.specs.declared.classes.Side.{Side}
use Rattle.bgp_attr.specs.declared.field.Attr.{Attr}
use Rattle.bgp_attr.specs.declared.types.AttrType.{AttrType}
use Rattle.bgp_attr.specs.Class.{class_of}
use Rattle.bgp_attr.specs.Field.{Attribute, attribute_of}
use Rattle.bgp_attr.specs.Types.{type_number}

-- the first attribute of a type
abbrev pub first_of : ℕ → List Attribute → Option Attribute
first_of kind attributes = find (λ a. a.kind == kind) attributes

-- some type stands more than once
abbrev pub has_repeats : List Attribute → Bool
has_repeats [] = false
has_repeats (a ∷ rest) = is_some (first_of a.kind rest) || has_repeats rest

-- the attributes of other types
abbrev pub without : ℕ → List Attribute → List Attribute
without kind [] = []
without kind (a ∷ rest) = if a.kind == kind then without kind rest else a ∷ without kind rest

-- the first attribute of each type
abbrev pub firsts : List Attribute → List Attribute
firsts [] = []
firsts (a ∷ rest) = a ∷ without a.kind (firsts rest)

abbrev pub is_good : Option AttrVerdict → Bool
is_good None = false
is_good (Some Good) = true
is_good (Some Discard) = false
is_good (Some Withdraw) = false
is_good (Some Reset) = false

-- the value of an attribute that is there and of class Good
abbrev pub good_value : Side → Option Attribute → Option (List ℕ)
good_value side None = None
good_value side (Some a) = if is_good (class_of side a) then Some a.value else None

-- the first attribute, and the value that counts, of each type
abbrev pub first_by_type : List Attribute → AttrType → Option Attribute
first_by_type attributes t = first_of (type_number t) attributes

abbrev pub value_by_type : Side → (AttrType → Option Attribute) → AttrType → Option (List ℕ)
value_by_type side first t = good_value side (first t)

abbrev pub value_among : Side → List Attribute → AttrType → Option (List ℕ)
value_among side attributes = value_by_type side (first_by_type attributes)

-- that of a type in a list that has each at the type's number
abbrev pub first_at : List (Option Attr) → AttrType → Option Attribute
first_at places t = option_map attribute_of (get_or places (type_number t) None)

-- with one attribute more behind those of which these are the first
abbrev pub with_next : (AttrType → Option Attribute) → Attribute → AttrType → Option Attribute
with_next first a t =
    if a.kind == type_number t then option_or (first t) (Some a) else first t
