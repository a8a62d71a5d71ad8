-- The error that a NOTIFICATION tells, in JSON (RFC 4271, 4.5).
use Rattle.std.specs.Prelude.{◌++◌, ℕ, List, [], ◌∷◌, Option, None, Some, codes}
use Rattle.json.specs.Json.{Json, string}
use Rattle.bgp_names.specs.Errors.{error_name}
use Rattle.bgp_values.specs.ErrorData.{ErrorFields, DataValue, communication, maximum}
use Rattle.bgp_values.specs.ErrorData.{cause_of, data_value}
use Rattle.bgp_json_values.specs.Objects.{number_of, object_of}
use Rattle.bgp_json_values.specs.Texts.{octets_json}
use Rattle.bgp_json_values.specs.ItemJson.{family_members}

-- both names of an error
abbrev pub error_name_json : ℕ → ℕ → Json
error_name_json code subcode = string (error_name code subcode)

-- what data say
abbrev pub data_members : Option DataValue → List (List ℕ × Json)
data_members None = []
data_members (Some (communication text)) = (codes "communication", string text) ∷ []
data_members (Some (maximum afi safi prefixes)) = (
  codes "maximum",
  object_of (family_members afi safi ++ (codes "prefixes", number_of prefixes) ∷ []),
) ∷ []

-- an error: its codes, their names, its data, and what they say but for the cause of a Hard Reset
abbrev pub plain_error_members : ErrorFields → List (List ℕ × Json)
plain_error_members e =
    (codes "code", number_of e.code) ∷ (codes "subcode", number_of e.subcode)
    ∷ (codes "name", error_name_json e.code e.subcode) ∷ (codes "data", octets_json e.detail)
    ∷ data_members (data_value e)

-- the cause of a Hard Reset (RFC 8538, 3)
abbrev pub cause_members : Option ErrorFields → List (List ℕ × Json)
cause_members None = []
cause_members (Some cause) = (codes "cause", object_of (plain_error_members cause)) ∷ []

abbrev pub error_members : ErrorFields → List (List ℕ × Json)
error_members e = plain_error_members e ++ cause_members (cause_of e)
