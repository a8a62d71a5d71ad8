-- How a connection ended, by what is found of it in JSON.
use Rattle.std.proofs.Common.{◌≡◌, ◌∙◌, ◌++◌, ◌==◌, ◌/◌, ◌<◌, ◌^◌, ℕ, Bool, true, false, List, [], ◌∷◌, Option, None, Some, bytes_eq, codes, refl, ap, ap₂, arith, if◌then◌else◌, suc}
use Rattle.std.specs.Result.{result_unwrap_or}
use Rattle.json.specs.Json.{Json, string}
use Rattle.streams.specs.declared.connection.Closing.TheVariants.{Fin, Reset}
use Rattle.hex.specs.Hex.{decode_of}
use Rattle.hex.proofs.HexLemmas.{decode_of-encode_lower}
use Rattle.bgp_wire.specs.Octets.{AreOctets}
use Rattle.bgp_clock.specs.When.{clock_text, short_text, when_text}
use Rattle.bgp_names.specs.States.{state_name}
use Rattle.bgp_values.specs.ErrorData.{DataValue, ErrorFields, communication, maximum, cause_of, data_value}
use Rattle.bgp_why.specs.declared.endpoint.Endpoint.{Endpoint}
use Rattle.bgp_json_values.specs.ErrorJson.{cause_members, data_members, error_members, error_name_json, plain_error_members}
use Rattle.bgp_json_values.specs.ItemJson.{family_members}
use Rattle.bgp_json_values.specs.Objects.{number_of, object_of}
use Rattle.bgp_json_values.specs.Texts.{address_json, octets_json}
use Rattle.bgp_ended.specs.EndedLine.{ended_line, who_and_how_text}
use Rattle.bgp_ended.specs.HowText.{closing_text, error_text, how_text}
use Rattle.bgp_ended.specs.Values.{EndedValue, HowValue, Notified, Closed, Fallen}
use Rattle.bgp_list.specs.EndedJson.{closing_word, ended_members, how_members}
use Rattle.bgp_json_laws.proofs.Lookups.{members_of, paired}
use Rattle.bgp_json_laws.proofs.Texts.{bytes_of}
use Rattle.bgp_verdict_laws.proofs.Reading.{at}
use Rattle.bgp_verdict_laws.proofs.Shapes.{IsMade, found, found_in, having, joined}
use Rattle.bgp_verdict_laws.proofs.Times.{clock_back, clock_in, micro_json, number_back, number_in, number_json, said, time_made, when_back, when_in}
use Rattle.bgp_list_laws.specs.Ranges.{IsEnd, IsError, IsHow}
use Rattle.bgp_list_laws.proofs.Endpoints.{endpoint_back, endpoint_in, endpoint_made}

-- ---- when

-- the time of day alone, if the day is that of the first packet
abbrev short_in : ℕ → Option Json → Option Json → List ℕ
short_in first second micro =
    if first / 86400 == number_in second / 86400 then clock_in second micro else when_in second micro

either_back : (is_same : Bool) (second : ℕ) (micro : Option ℕ) → second < 2 ^ 64
    → (if is_same then clock_in (Some (number_of second)) (micro_json micro) else when_in (Some (number_of second)) (micro_json micro))
    ≡ (if is_same then clock_text second micro else when_text second micro)
either_back true second micro small = clock_back second micro small
either_back false second micro small = when_back second micro small

short_back : (first second : ℕ) (micro : Option ℕ) → second < 2 ^ 64 → short_in first (Some (number_of second)) (micro_json micro) ≡ short_text first second micro
short_back first second micro small =
    ap (λ (n : ℕ). if first / 86400 == n / 86400 then clock_in (Some (number_of second)) (micro_json micro) else when_in (Some (number_of second)) (micro_json micro))
    (number_back second small)
    ∙ either_back (first / 86400 == second / 86400) second micro small

-- ---- a NOTIFICATION

abbrev octets_in : Option Json → List ℕ
octets_in value = result_unwrap_or (decode_of (said value)) []

octets_back : (octets : List ℕ) → AreOctets octets → octets_in (Some (octets_json octets)) ≡ octets
octets_back octets are = ap (λ r. result_unwrap_or r []) (decode_of-encode_lower octets (bytes_of octets are))

abbrev error_in : Option Json → Option Json → Option Json → ErrorFields
error_in code subcode detail = record { code = number_in code; subcode = number_in subcode; detail = octets_in detail }

fields : (code also subcode other : ℕ) (detail octets : List ℕ) → code ≡ also → subcode ≡ other → detail ≡ octets
    → ◌≡◌ {A = ErrorFields} (record { code = code; subcode = subcode; detail = detail }) (record { code = also; subcode = other; detail = octets })
fields code also subcode other detail octets p q r = λ i. record { code = p i; subcode = q i; detail = r i }

error_back : (error : ErrorFields) → IsError error → error_in (Some (number_of error.code)) (Some (number_of error.subcode)) (Some (octets_json error.detail)) ≡ error
error_back error is =
    let code = is.code in
    let subcode = is.subcode in
    fields _ error.code _ error.subcode _ error.detail (number_back error.code (omega (arith, code))) (number_back error.subcode (omega (arith, subcode)))
    (octets_back error.detail is.detail)

-- its members

abbrev communication_if : Option DataValue → Option Json
communication_if None = None
communication_if (Some (communication text)) = Some (string text)
communication_if (Some (maximum afi safi prefixes)) = None

abbrev maximum_if : Option DataValue → Option Json
maximum_if None = None
maximum_if (Some (communication text)) = None
maximum_if (Some (maximum afi safi prefixes)) = Some (object_of (family_members afi safi ++ (codes "prefixes", number_of prefixes) ∷ []))

data_made : (value : Option DataValue)
    → IsMade (codes "communication" ∷ codes "maximum" ∷ []) (communication_if value ∷ maximum_if value ∷ []) (data_members value)
data_made None = record { is = refl; long = refl }
data_made (Some (communication text)) = record { is = refl; long = refl }
data_made (Some (maximum afi safi prefixes)) = record { is = refl; long = refl }

abbrev cause_if : Option ErrorFields → Option Json
cause_if None = None
cause_if (Some cause) = Some (object_of (plain_error_members cause))

cause_made : (cause : Option ErrorFields) → IsMade (codes "cause" ∷ []) (cause_if cause ∷ []) (cause_members cause)
cause_made None = record { is = refl; long = refl }
cause_made (Some cause) = record { is = refl; long = refl }

abbrev error_keys : List (List ℕ)
error_keys =
    codes "code" ∷ codes "subcode" ∷ codes "name" ∷ codes "data" ∷ codes "communication" ∷ codes "maximum" ∷ codes "cause" ∷ []

abbrev error_values : ErrorFields → List (Option Json)
error_values e =
    Some (number_of e.code) ∷ Some (number_of e.subcode) ∷ Some (error_name_json e.code e.subcode) ∷ Some (octets_json e.detail)
    ∷ communication_if (data_value e) ∷ maximum_if (data_value e) ∷ cause_if (cause_of e) ∷ []

error_made : (e : ErrorFields) → IsMade error_keys (error_values e) (error_members e)
error_made e =
    joined
    (having (codes "code") (number_of e.code) (having (codes "subcode") (number_of e.subcode) (having (codes "name") (error_name_json e.code e.subcode)
    (having (codes "data") (octets_json e.detail) (data_made (data_value e))))))
    (cause_made (cause_of e))

-- ---- how

pub lacking : {keys : List (List ℕ)} {values : List (Option Json)} {ms : List (List ℕ × Json)} (key : List ℕ) → IsMade keys values ms → IsMade (key ∷ keys) (None ∷ values) ms
lacking key rest = record { is = rest.is; long = ap suc rest.long }

abbrev pub how_keys : List (List ℕ)
how_keys = codes "how" ∷ codes "old" ∷ codes "new" ∷ error_keys

abbrev no_error : List (Option Json)
no_error = None ∷ None ∷ None ∷ None ∷ None ∷ None ∷ None ∷ []

abbrev pub how_values : HowValue → List (Option Json)
how_values (Notified error) = Some (string (codes "NOTIFICATION")) ∷ None ∷ None ∷ error_values error
how_values (Closed closing) = Some (string (closing_word closing)) ∷ None ∷ None ∷ no_error
how_values (Fallen state) = Some (string (codes "change")) ∷ Some (string (state_name state)) ∷ Some (string (state_name 1)) ∷ no_error

pub how_made : (how : HowValue) → IsMade how_keys (how_values how) (how_members how)
how_made (Notified error) = having (codes "how") (string (codes "NOTIFICATION")) (lacking (codes "old") (lacking (codes "new") (error_made error)))
how_made (Closed closing) = record { is = refl; long = refl }
how_made (Fallen state) = record { is = refl; long = refl }

-- ---- the end

abbrev ended_keys : List (List ℕ)
ended_keys = codes "packet" ∷ codes "second" ∷ codes "micro" ∷ codes "by" ∷ codes "by_port" ∷ how_keys

abbrev ended_values : Endpoint → EndedValue → List (Option Json)
ended_values by ended =
    Some (number_of ended.moment.packet) ∷ Some (number_of ended.moment.second) ∷ micro_json ended.moment.micro
    ∷ Some (address_json by.address) ∷ number_json by.port ∷ how_values ended.how

ended_made : (by : Endpoint) (ended : EndedValue) → IsMade ended_keys (ended_values by ended) (ended_members by ended)
ended_made by ended =
    having (codes "packet") (number_of ended.moment.packet) (joined (time_made ended.moment.second ended.moment.micro)
    (joined (endpoint_made (codes "by") (codes "by_port") by) (how_made ended.how)))

abbrev who_in : List (Option Json) → List ℕ
who_in os = codes ", by " ++ endpoint_in (at os 3) (at os 4)

abbrev pub who_and_how_in : List (Option Json) → List ℕ
who_and_how_in os =
    if bytes_eq (said (at os 5)) (codes "NOTIFICATION")
    then who_in os ++ (codes ": " ++ ((codes "NOTIFICATION " ++ error_text (error_in (at os 8) (at os 9) (at os 11))) ++ codes "\n"))
    else if bytes_eq (said (at os 5)) (codes "change")
    then codes ": " ++ ((said (at os 6) ++ codes " to Idle, no NOTIFICATION") ++ codes "\n")
    else who_in os ++ (codes ": " ++ ((said (at os 5) ++ codes ", no NOTIFICATION") ++ codes "\n"))

abbrev ended_by : ℕ → List (Option Json) → List ℕ
ended_by first os =
    codes "  ended at packet " ++ (said (at os 0) ++ (codes ", " ++ (short_in first (at os 1) (at os 2) ++ who_and_how_in os)))

abbrev pub ended_in : ℕ → Json → List ℕ
ended_in first value = ended_by first (found ended_keys (paired (members_of value)))

pub how_back : (by : Endpoint) (ended : EndedValue) (how : HowValue) → IsHow how
    → who_and_how_in (Some (number_of ended.moment.packet) ∷ Some (number_of ended.moment.second) ∷ micro_json ended.moment.micro
    ∷ Some (address_json by.address) ∷ number_json by.port ∷ how_values how)
    ≡ who_and_how_text how by
unfolding who_and_how_text how_text
how_back by ended (Notified error) is =
    ap₂ (λ (w : List ℕ) (e : ErrorFields). (codes ", by " ++ w) ++ (codes ": " ++ ((codes "NOTIFICATION " ++ error_text e) ++ codes "\n")))
    (endpoint_back by) (error_back error is)
how_back by ended (Closed Fin) is =
    ap (λ (w : List ℕ). (codes ", by " ++ w) ++ (codes ": " ++ (closing_text Fin ++ codes "\n"))) (endpoint_back by)
how_back by ended (Closed Reset) is =
    ap (λ (w : List ℕ). (codes ", by " ++ w) ++ (codes ": " ++ (closing_text Reset ++ codes "\n"))) (endpoint_back by)
how_back by ended (Fallen state) is = refl

pub ended_back : (first : ℕ) (by : Endpoint) (ended : EndedValue) → IsEnd ended → ended_in first (object_of (ended_members by ended)) ≡ ended_line first by ended
unfolding ended_line
ended_back first by ended is =
    ap (ended_by first) (found_in (ended_made by ended) refl)
    ∙ ap₂ (λ (t w : List ℕ). codes "  ended at packet " ++ (said (Some (number_of ended.moment.packet)) ++ (codes ", " ++ (t ++ w))))
    (short_back first ended.moment.second ended.moment.micro is.second) (how_back by ended ended.how is.how)
