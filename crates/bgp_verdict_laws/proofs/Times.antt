-- Places and times, by what is found of them in JSON.
use Rattle.std.proofs.Common.{◌≡◌, ◌∙◌, ◌++◌, ◌<◌, ◌^◌, ℕ, Bool, true, false, List, [], ◌∷◌, Option, None, Some, codes, nat_lt, refl, ap, ap₂, arith, if◌then◌else◌, inl, inr}
use Rattle.std.specs.Str.Parse.{digits_value}
use Rattle.std.proofs.lemmas.Bool.{cases_Bool, ltb-true}
use Rattle.std.proofs.lemmas.Fmt.{decimal_is_IsNumeral}
use Rattle.json.specs.Json.{Json, boolean}
use Rattle.bgp_clock.specs.When.{clock_text, date_text, fraction_text, time_text as hours_text, when_text}
use Rattle.bgp_why.specs.Place.{packet_text, place_by}
use Rattle.bgp_why.specs.declared.place.Place.{Place}
use Rattle.bgp_json_values.specs.Objects.{number_of}
use Rattle.bgp_json_values.specs.Times.{micro_members, time_members}
use Rattle.bgp_json_verdicts.specs.At.{at_members, at_text, dated_members, number_members, place_members}
use Rattle.bgp_json_verdicts.specs.declared.at.At.{At}
use Rattle.bgp_json_laws.proofs.Lookups.{text_of, truth_of}
use Rattle.bgp_verdict_laws.specs.Laws.{IsAt}
use Rattle.bgp_verdict_laws.proofs.Shapes.{IsMade, joined, having}

-- ---- what is found

abbrev pub said : Option Json → List ℕ
said None = []
said (Some value) = text_of value

abbrev pub is_so : Option Json → Bool
is_so None = false
is_so (Some value) = truth_of value

-- the number that a text is
abbrev pub number_in : Option Json → ℕ
number_in value = digits_value 10 (said value)

pub number_back : (n : ℕ) → n < 2 ^ 64 → number_in (Some (number_of n)) ≡ n
number_back n small = (decimal_is_IsNumeral n small).1

abbrev pub number_json : Option ℕ → Option Json
number_json None = None
number_json (Some number) = Some (number_of number)

pub number_made : (name : List ℕ) (number : Option ℕ) → IsMade (name ∷ []) (number_json number ∷ []) (number_members name number)
number_made name None = record { is = refl; long = refl }
number_made name (Some number) = record { is = refl; long = refl }

-- ---- times

abbrev fraction_json : ℕ → Option Json
fraction_json micro = if nat_lt micro 1000000 then Some (number_of micro) else None

abbrev pub micro_json : Option ℕ → Option Json
micro_json None = None
micro_json (Some micro) = fraction_json micro

micro_made : (micro : Option ℕ) → IsMade (codes "micro" ∷ []) (micro_json micro ∷ []) (micro_members micro)
micro_made None = record { is = refl; long = refl }
micro_made (Some micro) = elim (cases_Bool (nat_lt micro 1000000)) [
  | inl is ↦ rw is record { is = refl; long = refl }
  | inr isnt ↦ rw isnt record { is = refl; long = refl }
]

pub time_made : (second : ℕ) (micro : Option ℕ)
    → IsMade (codes "second" ∷ codes "micro" ∷ []) (Some (number_of second) ∷ micro_json micro ∷ []) (time_members second micro)
time_made second micro = having (codes "second") (number_of second) (micro_made micro)

abbrev pub micro_in : Option Json → Option ℕ
micro_in None = None
micro_in (Some value) = Some (number_in (Some value))

fraction_back : (micro : Option ℕ) → fraction_text (micro_in (micro_json micro)) ≡ fraction_text micro
fraction_back None = refl
fraction_back (Some micro) = elim (cases_Bool (nat_lt micro 1000000)) [
  | inl is ↦
      let small = ltb-true micro 1000000 is in
      rw is (ap (λ (m : ℕ). fraction_text (Some m)) (number_back micro (omega (arith, small))) ∙ rw is refl)
  | inr isnt ↦ rw isnt refl
]

abbrev pub clock_in : Option Json → Option Json → List ℕ
clock_in second micro = clock_text (number_in second) (micro_in micro)

abbrev pub when_in : Option Json → Option Json → List ℕ
when_in second micro = when_text (number_in second) (micro_in micro)

pub clock_back : (second : ℕ) (micro : Option ℕ) → second < 2 ^ 64 → clock_in (Some (number_of second)) (micro_json micro) ≡ clock_text second micro
unfolding clock_text
clock_back second micro small =
    ap₂ (λ (n : ℕ) (t : List ℕ). hours_text n ++ t) (number_back second small) (fraction_back micro)

pub when_back : (second : ℕ) (micro : Option ℕ) → second < 2 ^ 64 → when_in (Some (number_of second)) (micro_json micro) ≡ when_text second micro
unfolding when_text
when_back second micro small =
    ap₂ (λ (n : ℕ) (t : List ℕ). date_text n ++ (codes " " ++ t)) (number_back second small) (clock_back second micro small)

-- ---- places

abbrev pub place_keys : List (List ℕ)
place_keys = codes "record" ∷ codes "packet" ∷ codes "second" ∷ codes "micro" ∷ []

abbrev pub place_values : Place → List (Option Json)
place_values place =
    Some (number_of place.number) ∷ number_json place.packet ∷ Some (number_of place.second) ∷ micro_json place.micro ∷ []

pub place_made : (place : Place) → IsMade place_keys (place_values place) (place_members place)
place_made place =
    having (codes "record") (number_of place.number) (joined (number_made (codes "packet") place.packet) (time_made place.second place.micro))

abbrev pub packet_in : Option Json → List ℕ
packet_in None = []
packet_in (Some packet) = codes ", packet " ++ text_of packet

pub packet_back : (packet : Option ℕ) → packet_in (number_json packet) ≡ packet_text packet
packet_back None = refl
packet_back (Some packet) = refl

abbrev place_in : Option Json → Option Json → List ℕ
place_in number None = codes "record " ++ said number
place_in number (Some packet) = codes "packet " ++ text_of packet

place_back : (number : ℕ) (packet : Option ℕ) → place_in (Some (number_of number)) (number_json packet) ≡ place_by number packet
place_back number None = refl
place_back number (Some packet) = refl

-- ---- places with a time, dated or not

abbrev dated_json : Bool → Option Json
dated_json is_dated = if is_dated then Some (boolean is_dated) else None

dated_made : (is_dated : Bool) → IsMade (codes "dated" ∷ []) (dated_json is_dated ∷ []) (dated_members is_dated)
dated_made true = record { is = refl; long = refl }
dated_made false = record { is = refl; long = refl }

abbrev pub at_keys : List (List ℕ)
at_keys = codes "record" ∷ codes "packet" ∷ codes "second" ∷ codes "micro" ∷ codes "dated" ∷ []

abbrev pub at_values : At → List (Option Json)
at_values at =
    Some (number_of at.place.number) ∷ number_json at.place.packet ∷ Some (number_of at.place.second) ∷ micro_json at.place.micro
    ∷ dated_json at.is_dated ∷ []

pub at_made : (at : At) → IsMade at_keys (at_values at) (at_members at)
at_made at = joined (place_made at.place) (dated_made at.is_dated)

abbrev pub at_in : Option Json → Option Json → Option Json → Option Json → Option Json → List ℕ
at_in number packet second micro dated =
    place_in number packet ++ (codes ", " ++ (if is_so dated then when_in second micro else clock_in second micro))

time_back : (second : ℕ) (micro : Option ℕ) (is_dated : Bool) → second < 2 ^ 64
    → (if is_so (dated_json is_dated) then when_in (Some (number_of second)) (micro_json micro) else clock_in (Some (number_of second)) (micro_json micro))
    ≡ (if is_dated then when_text second micro else clock_text second micro)
time_back second micro true small = when_back second micro small
time_back second micro false small = clock_back second micro small

pub at_back : (at : At) → IsAt at
    → at_in (Some (number_of at.place.number)) (number_json at.place.packet) (Some (number_of at.place.second)) (micro_json at.place.micro) (dated_json at.is_dated)
    ≡ at_text at
at_back at small =
    ap₂ (λ (p t : List ℕ). p ++ (codes ", " ++ t)) (place_back at.place.number at.place.packet) (time_back at.place.second at.place.micro at.is_dated small)
