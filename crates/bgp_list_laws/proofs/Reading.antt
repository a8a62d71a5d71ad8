-- What is read of the object of a line: its text.
use Rattle.std.proofs.Common.{◌≡◌, ◌++◌, ℕ, true, List, [], ◌∷◌, Option, None, Some, codes, refl, ap}
use Rattle.json.specs.Json.{Json, string}
use Rattle.bgp_json.specs.Object.{typed}
use Rattle.bgp_json_laws.proofs.Lookups.{members_of, paired, text_of, value_at}
use Rattle.bgp_verdict_laws.proofs.Reading.{at, list_in}
use Rattle.bgp_verdict_laws.proofs.Shapes.{IsMade, are_distinct, found, found_in, having}
use Rattle.bgp_verdict_laws.proofs.Times.{number_in, said, when_in}
use Rattle.bgp_list_laws.proofs.Causes.{cause_in}
use Rattle.bgp_list_laws.proofs.Endpoints.{as_in, endpoint_in}
use Rattle.bgp_list_laws.proofs.Ended.{ended_in}

-- ---- the keys, in their order

abbrev pub opening_keys : List (List ℕ)
opening_keys =
    codes "connection" ∷ codes "from" ∷ codes "from_port" ∷ codes "to" ∷ codes "to_port" ∷ codes "second" ∷ codes "micro" ∷ codes "packet" ∷ []

abbrev pub outlined_keys : List (List ℕ)
outlined_keys = codes "as" ∷ codes "to_as" ∷ codes "octets" ∷ codes "open" ∷ codes "ended" ∷ []

abbrev pub keys_behind : List (List ℕ)
keys_behind = codes "addresses" ∷ (opening_keys ++ codes "refused" ∷ outlined_keys)

abbrev pub line_keys : List (List ℕ)
line_keys = codes "type" ∷ keys_behind

-- ---- a refusal

-- its packet
abbrev place_in : Json → List ℕ
place_in refusal = codes "refused at packet " ++ text_of (value_at (codes "packet") refusal)

-- its number, its name, and what is wrong
abbrev reason_in : Json → List ℕ
reason_in refusal =
    codes ": " ++ (text_of (value_at (codes "number") refusal) ++ (codes " " ++ (text_of (value_at (codes "name") refusal)
    ++ (codes ", " ++ (cause_in (text_of (value_at (codes "number") refusal)) ++ codes "\n")))))

abbrev pub refused_in : Json → List ℕ
refused_in refusal = place_in refusal ++ reason_in refusal

-- ---- a connection

abbrev pub number_text_in : List (Option Json) → List ℕ
number_text_in os = codes "connection " ++ (said (at os 2) ++ codes ": ")

abbrev pub first_in : List (Option Json) → List ℕ
first_in os = codes " at " ++ (when_in (at os 7) (at os 8) ++ (codes " UTC, packet " ++ said (at os 9)))

abbrev pub opening_in : List (Option Json) → List ℕ
opening_in os =
    number_text_in os ++ (endpoint_in (at os 3) (at os 4) ++ (codes " to " ++ (endpoint_in (at os 5) (at os 6) ++ first_in os)))

abbrev pub side_in : Option Json → Option Json → Option Json → List ℕ
side_in address port number = endpoint_in address port ++ (codes " (" ++ (as_in number ++ codes ")"))

abbrev pub outlined_in : List (Option Json) → List ℕ
outlined_in os =
    number_text_in os ++ (side_in (at os 3) (at os 4) (at os 11)
    ++ (codes " to " ++ (side_in (at os 5) (at os 6) (at os 12) ++ first_in os)))

abbrev pub octets_in : List Json → List ℕ
octets_in [] = []
octets_in (first ∷ []) = []
octets_in (first ∷ second ∷ others) =
    codes ", octets sent " ++ (text_of first ++ (codes " and " ++ (text_of second ++ codes "\n")))

-- the line of its end, by the second of its first packet
abbrev pub end_in : ℕ → Option Json → List ℕ
end_in first None = codes "  open at the end of the file\n"
end_in first (Some ended) = ended_in first ended

abbrev pub connection_in : List (Option Json) → List ℕ
connection_in os =
    outlined_in os ++ (octets_in (list_in (at os 13)) ++ end_in (number_in (at os 7)) (at os 15))

-- ---- two addresses

abbrev pub between_in : List Json → Json → List ℕ
between_in [] refusal = []
between_in (from ∷ []) refusal = []
between_in (from ∷ to ∷ others) refusal =
    place_in refusal ++ (codes ", between " ++ (text_of from ++ (codes " and " ++ (text_of to ++ reason_in refusal))))

-- ---- all

-- by whether there are addresses, and whether there is a refusal
abbrev pub line_by : List (Option Json) → Option Json → Option Json → List ℕ
line_by os None None = connection_in os
line_by os None (Some refusal) = opening_in os ++ (codes "\n" ++ refused_in refusal)
line_by os (Some addresses) None = []
line_by os (Some addresses) (Some refusal) = between_in (list_in (Some addresses)) refusal

abbrev pub plain_by : List (Option Json) → List ℕ
plain_by os = line_by os (at os 1) (at os 10)

unfoldable pub plain : Json → List ℕ
plain j = plain_by (found line_keys (paired (members_of j)))

distinct : are_distinct line_keys ≡ true
distinct = refl

-- an object with these members is read by their values
pub reads : (kind : List ℕ) (values : List (Option Json)) (ms : List (List ℕ × Json)) → IsMade keys_behind values ms
    → plain (typed kind ms) ≡ plain_by (Some (string kind) ∷ values)
unfolding plain
reads kind values ms made_of = ap plain_by (found_in (having (codes "type") (string kind) made_of) distinct)
