-- Where a record stands that a line of a reason names, and whether its time has a date there.
use Rattle.std.specs.Prelude.{◌++◌, ◌/◌, ◌==◌, ℕ, Bool, List, [], ◌∷◌, Option, None, Some, not}
use Rattle.std.specs.Prelude.{codes, if◌then◌else◌, option_map}
use Rattle.json.specs.Json.{Json, boolean}
use Rattle.bgp_clock.specs.When.{clock_text, when_text}
use Rattle.bgp_why.specs.declared.place.Place.{Place}
use Rattle.bgp_why.specs.Place.{place_text}
use Rattle.bgp_json_values.specs.Objects.{number_of}
use Rattle.bgp_json_values.specs.Times.{time_members}
use Rattle.bgp_json_verdicts.specs.declared.at.At.{At}

-- in lines that give no date to a time of this second's day
abbrev pub at_of : ℕ → Place → At
at_of first place = record {
  place = place;
  is_dated = not (first / 86400 == place.second / 86400);
}

abbrev pub at_if : ℕ → Option Place → Option At
at_if first place = option_map (at_of first) place

-- ---- the text

abbrev pub time_text : At → List ℕ
time_text at =
    if at.is_dated then when_text at.place.second at.place.micro
    else clock_text at.place.second at.place.micro

abbrev pub at_text : At → List ℕ
at_text at = place_text at.place ++ (codes ", " ++ time_text at)

-- ---- in JSON

-- a number under this key, if there is one
abbrev pub number_members : List ℕ → Option ℕ → List (List ℕ × Json)
number_members name None = []
number_members name (Some number) = (name, number_of number) ∷ []

-- its number, the packet that shows it, and its time
abbrev pub place_members : Place → List (List ℕ × Json)
place_members place =
    (codes "record", number_of place.number)
    ∷ (number_members (codes "packet") place.packet
    ++ time_members place.second place.micro)

-- whether its time has a date, if it has
abbrev pub dated_members : Bool → List (List ℕ × Json)
dated_members is_dated = if is_dated then (codes "dated", boolean is_dated) ∷ [] else []

abbrev pub at_members : At → List (List ℕ × Json)
at_members at = place_members at.place ++ dated_members at.is_dated

abbrev pub since_members : Option At → List (List ℕ × Json)
since_members None = []
since_members (Some at) = at_members at
