-- Members of objects by their keys, each with a value or none.
use Rattle.std.proofs.Common.{◌≡◌, ◌++◌, ◌/◌, ◌==◌, ◌<◌, ◌^◌, ℕ, Bool, true, false, List, [], ◌∷◌, Option, None, Some, codes, nat_lt, not, refl, sym, ap, arith, if◌then◌else◌, inl, inr}
use Rattle.std.specs.Fmt.{decimal}
use Rattle.std.proofs.lemmas.Bool.{cases_Bool, ltb-false}
use Rattle.json.specs.Json.{Json, boolean}
use Rattle.bgp_check.specs.declared.peer_as.PeerAs.{PeerAs}
use Rattle.bgp_check.specs.declared.peer_as.PeerAs.TheVariants as peers
use Rattle.bgp_clock.specs.When.{clock_text, short_text, when_text}
use Rattle.bgp_why.specs.Place.{place_by}
use Rattle.bgp_why.specs.declared.place.Place.{Place}
use Rattle.bgp_json_values.specs.Objects.{array_of, number_of}
use Rattle.bgp_json_values.specs.Texts.{address_json}
use Rattle.bgp_json_verdicts.specs.Objects.{text_json}
use Rattle.bgp_json_check.specs.Members.{before_members, deed_members, end_members, flag_members, known_members, part_members, peer_members, record_members}
use Rattle.bgp_json_check.specs.declared.member.JudgedEnd.{JudgedEnd}
use Rattle.bgp_check_text.specs.End.{part_text}
use Rattle.bgp_json_laws.proofs.Lookups.{text_of}
use Rattle.bgp_verdict_laws.proofs.Reading.{list_in}
use Rattle.bgp_verdict_laws.proofs.Shapes.{IsMade, joined}
use Rattle.bgp_verdict_laws.proofs.Times.{clock_back, clock_in, is_so, micro_json, number_json, number_made, time_made, when_back, when_in}
use Rattle.bgp_list_laws.proofs.Endpoints.{endpoint_made}
use Rattle.bgp_list_laws.proofs.Endpoints.{number_made as some_made}

-- ---- what is so

abbrev pub flag_json : Bool → Option Json
flag_json is = if is then Some (boolean is) else None

pub flag_made : (key : List ℕ) (is : Bool) → IsMade (key ∷ []) (flag_json is ∷ []) (flag_members key is)
flag_made key true = record { is = refl; long = refl }
flag_made key false = record { is = refl; long = refl }

pub flag_back : (is : Bool) → is_so (flag_json is) ≡ is
flag_back true = refl
flag_back false = refl

-- ---- places

abbrev pub known_keys : List (List ℕ)
known_keys = codes "record" ∷ codes "packet" ∷ codes "second" ∷ codes "micro" ∷ []

abbrev pub record_json : ℕ → Option Json
record_json number = if nat_lt 0 number then Some (number_of number) else None

record_made : (number : ℕ) → IsMade (codes "record" ∷ []) (record_json number ∷ []) (record_members number)
record_made number = by (nat_lt 0 number) where
  by : (b : Bool) → IsMade (codes "record" ∷ []) ((if b then Some (number_of number) else None) ∷ []) (if b then (codes "record", number_of number) ∷ [] else [])
  by true = record { is = refl; long = refl }
  by false = record { is = refl; long = refl }

abbrev pub known_values : Place → List (Option Json)
known_values place =
    record_json place.number ∷ number_json place.packet ∷ Some (number_of place.second) ∷ micro_json place.micro ∷ []

pub known_made : (place : Place) → IsMade known_keys (known_values place) (known_members place)
known_made place =
    joined (record_made place.number) (joined (number_made (codes "packet") place.packet) (time_made place.second place.micro))

-- without a number and a packet it is record 0
abbrev pub record_in : Option Json → List ℕ
record_in None = decimal 0
record_in (Some value) = text_of value

abbrev pub place_in : Option Json → Option Json → List ℕ
place_in number None = codes "record " ++ record_in number
place_in number (Some packet) = codes "packet " ++ text_of packet

record_back : (number : ℕ) → record_in (record_json number) ≡ decimal number
record_back number = elim (cases_Bool (nat_lt 0 number)) [
  | inl is ↦ rw is refl
  | inr isnt ↦
      let low = ltb-false 0 number isnt in
      let zero : number ≡ 0 = omega (arith, low) in
      rw isnt (ap decimal (sym zero))
]

pub place_back : (number : ℕ) (packet : Option ℕ) → place_in (record_json number) (number_json packet) ≡ place_by number packet
place_back number None = ap (λ (t : List ℕ). codes "record " ++ t) (record_back number)
place_back number (Some packet) = refl

-- ---- times

abbrev pub moment_in : Option Json → Option Json → Option Json → List ℕ
moment_in second micro dated = if is_so dated then when_in second micro else clock_in second micro

moment_by : (is_same : Bool) (second : ℕ) (micro : Option ℕ) → second < 2 ^ 64
    → moment_in (Some (number_of second)) (micro_json micro) (flag_json (not is_same))
    ≡ (if is_same then clock_text second micro else when_text second micro)
moment_by true second micro small = clock_back second micro small
moment_by false second micro small = when_back second micro small

pub moment_back : (first second : ℕ) (micro : Option ℕ) → second < 2 ^ 64
    → moment_in (Some (number_of second)) (micro_json micro) (flag_json (not (first / 86400 == second / 86400))) ≡ short_text first second micro
moment_back first second micro small = moment_by (first / 86400 == second / 86400) second micro small

-- ---- ends

abbrev pub end_keys : List (List ℕ)
end_keys = codes "address" ∷ codes "port" ∷ codes "as" ∷ codes "records" ∷ []

abbrev pub part_json : Option (ℕ × ℕ) → Option Json
part_json None = None
part_json (Some part) = Some (array_of number_of (part.0 ∷ part.1 ∷ []))

part_made : (part : Option (ℕ × ℕ)) → IsMade (codes "records" ∷ []) (part_json part ∷ []) (part_members part)
part_made None = record { is = refl; long = refl }
part_made (Some part) = record { is = refl; long = refl }

abbrev pub end_values : JudgedEnd → List (Option Json)
end_values name =
    Some (address_json name.end.address) ∷ number_json name.end.port ∷ number_json name.as_number ∷ part_json name.part ∷ []

pub end_made : (name : JudgedEnd) → IsMade end_keys (end_values name) (end_members name)
end_made name =
    joined (endpoint_made (codes "address") (codes "port") name.end) (joined (some_made (codes "as") name.as_number) (part_made name.part))

-- which records these are
abbrev pub pair_in : List Json → List ℕ
pair_in [] = []
pair_in (first ∷ []) = []
pair_in (first ∷ last ∷ others) = codes "records " ++ (text_of first ++ (codes " to " ++ text_of last))

pub pair_back : (part : ℕ × ℕ) → pair_in (list_in (part_json (Some part))) ≡ part_text part
unfolding part_text
pair_back part = refl

-- ---- the peer, what was done, and routes before

abbrev pub peer_json : PeerAs → Option Json
peer_json peers.Any = None
peer_json (peers.Is number) = Some (number_of number)
peer_json (peers.OtherThan number) = None

abbrev pub other_peer_json : PeerAs → Option Json
other_peer_json peers.Any = None
other_peer_json (peers.Is number) = None
other_peer_json (peers.OtherThan number) = Some (number_of number)

pub peer_made : (peer : PeerAs) → IsMade (codes "peer_as" ∷ codes "peer_as_not" ∷ []) (peer_json peer ∷ other_peer_json peer ∷ []) (peer_members peer)
peer_made peers.Any = record { is = refl; long = refl }
peer_made (peers.Is number) = record { is = refl; long = refl }
peer_made (peers.OtherThan number) = record { is = refl; long = refl }

abbrev pub deed_json : List ℕ → Option Json
deed_json [] = None
deed_json (x ∷ deed) = Some (text_json (x ∷ deed))

pub deed_made : (deed : List ℕ) → IsMade (codes "deed" ∷ []) (deed_json deed ∷ []) (deed_members deed)
deed_made [] = record { is = refl; long = refl }
deed_made (x ∷ deed) = record { is = refl; long = refl }

abbrev pub before_json : List ℕ → Option Json
before_json [] = None
before_json (count ∷ counts) = Some (array_of number_of (count ∷ counts))

pub before_made : (counts : List ℕ) → IsMade (codes "before" ∷ []) (before_json counts ∷ []) (before_members counts)
before_made [] = record { is = refl; long = refl }
before_made (count ∷ counts) = record { is = refl; long = refl }
