-- What objects begin with.
use Rattle.std.specs.Prelude.{◌++◌, ℕ, Bool, List, [], ◌∷◌, codes}
use Rattle.std.specs.Fmt.{decimal}
use Rattle.json.specs.Json.{Json}
use Rattle.json.specs.Token.{Token, begin_object, key, number}
use Rattle.bgp_attr.specs.Segments.{number_width}
use Rattle.bgp_names.specs.Attributes.{attribute_names}
use Rattle.bgp_json_values.specs.Objects.{members_tokens, number_of, object_of}
use Rattle.bgp_json_values.specs.Texts.{name_json}
use Rattle.bgp_json_values.specs.AttributeJson.{segment_name_json, width_member}

-- a path attribute: the tokens up to its flags
abbrev pub head_tokens : ℕ → List Token
head_tokens kind =
    begin_object ∷ (members_tokens ((codes "type", number_of kind)
    ∷ (codes "name", name_json (codes "attribute ") attribute_names kind) ∷ [])
    ++ key (codes "flags") ∷ [])

-- up to a value that has a width
abbrev pub width_tokens : Bool → List Token
width_tokens as4 =
    members_tokens ((codes "width", number_of (number_width as4)) ∷ []) ++ key (codes "value") ∷ []

-- and from there up to its value, where AS numbers have four octets or two
abbrev pub back_tokens : Bool → ℕ → List Token
back_tokens as4 kind = members_tokens (width_member as4 kind) ++ key (codes "value") ∷ []

-- all of them up to the value, with these flags
abbrev pub front_tokens : Bool → ℕ → ℕ → List Token
front_tokens as4 kind flags = head_tokens kind ++ number (decimal flags) ∷ back_tokens as4 kind

-- a path attribute of this type and with these flags, of which this is said
abbrev pub attribute_with : ℕ → ℕ → List (List ℕ × Json) → Json
attribute_with kind flags said =
    object_of ((codes "type", number_of kind)
    ∷ (codes "name", name_json (codes "attribute ") attribute_names kind)
    ∷ (codes "flags", number_of flags) ∷ said)

-- a segment of a path: the tokens up to its AS numbers
abbrev pub segment_head_tokens : ℕ → List Token
segment_head_tokens kind =
    begin_object ∷ (members_tokens ((codes "kind", segment_name_json kind) ∷ [])
    ++ key (codes "as") ∷ [])
