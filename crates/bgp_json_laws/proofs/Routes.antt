-- Values with routes whose JSON is equal spell the same octets.
use Rattle.std.proofs.Common.{◌≡◌, ◌++◌, ◌<◌, ◌^◌, ℕ, Bool, true, false, List, [], ◌∷◌, All, Option, Some, None, bytes_eq, codes, drop, length, nat_lt, refl, sym, ap, ap₂, subst, arith, inl, inr}
use Rattle.std.proofs.lemmas.Bool.{cases_Bool, both_ways}
use Rattle.std.proofs.lemmas.Option.{none-some, same_Some}
use Rattle.std.proofs.lemmas.List.{drop_at, take_at}
use Rattle.std.proofs.lemmas.List.Elements.{All-drop, All-tail, All-take}
use Rattle.json.specs.Json.{Json, null}
use Rattle.bgp_prefix.specs.declared.family.Family.{Family}
use Rattle.bgp_prefix.specs.declared.family.Family.TheVariants as families
use Rattle.bgp_path.specs.declared.path.NextHop.{NextHop}
use Rattle.bgp_wire.specs.Octets.{AreOctets}
use Rattle.bgp_open.specs.Offer.{afi_of}
use Rattle.bgp_open.specs.declared.route_form.RouteForm.{RouteForm}
use Rattle.bgp_update.specs.Destinations.{is_identified}
use Rattle.bgp_update.specs.MpValue.{Contents, IsReachValue, IsUnreachValue, family_in, reach_contents, unreach_contents}
use Rattle.bgp_update.specs.declared.destination.Destination.{Destination}
use Rattle.bgp_update.proofs.MpValues.{reads_mp_values}
use Rattle.bgp_values.specs.RoutesValue.{RoutesValue, unicast, other, in_family, other_in, reach_value, routes_in, unicast_of, unreach_value, with_any_hop}
use Rattle.bgp_json_values.specs.ItemJson.{family_members}
use Rattle.bgp_json_values.specs.RoutesJson.{destinations_json, hop_members, path_ids_json, path_ids_members, routes_json, spelled_destinations, spelled_next_hop, spelled_numbers, spelled_routes}
use Rattle.bgp_json_values.specs.Texts.{octets_json}
use Rattle.bgp_json_laws.proofs.Destinations.{IsRead, each_read, same_identified, same_plain}
use Rattle.bgp_json_laws.proofs.Hops.{IsHop, hop_read, same_hop}
use Rattle.bgp_json_laws.proofs.Items.{fits_big, same_family}
use Rattle.bgp_json_laws.proofs.Lookups.{not_valued, of_key, same_members}
use Rattle.bgp_json_laws.proofs.Texts.{IsOctet, bytes_of, same_number_json, same_octets}

-- ---- destinations with or without path identifiers

abbrev first_value : List (List ℕ × Json) → Json
first_value [] = null
first_value (m ∷ ms) = m.1

abbrev first_key : List (List ℕ × Json) → List ℕ
first_key [] = []
first_key (m ∷ ms) = m.0

some_paths : (ds : List Destination) → path_ids_members true ds ≡ [] → ⊥
some_paths ds e = not_valued (codes "paths") [] (path_ids_members true ds) (path_ids_json ds) (sym e) refl refl

pub same_listed : (name : List ℕ) (identified also : Bool) (ds es : List Destination) → All (IsRead identified) ds → All (IsRead also) es
    → (name, destinations_json ds) ∷ path_ids_members identified ds ≡ (name, destinations_json es) ∷ path_ids_members also es → ds ≡ es
same_listed name true true ds es all too e = same_identified ds es all too (ap first_value e) (ap (λ (ms : List (List ℕ × Json)). first_value (drop 1 ms)) e)
same_listed name true false ds es all too e = absurd (some_paths ds (ap (drop 1) e))
same_listed name false true ds es all too e = absurd (some_paths es (sym (ap (drop 1) e)))
same_listed name false false ds es all too e = same_plain ds es all too (ap first_value e)

-- ---- values as they are read

-- a next hop if routes are announced, and none if they are withdrawn
abbrev pub IsHopOf : Bool → Option NextHop → Type 0
IsHopOf announced None = announced ≡ false
IsHopOf announced (Some hop) = (announced ≡ true) × IsHop hop

abbrev pub IsValue : Bool → RouteForm → RoutesValue → Type 0
IsValue announced form (unicast family contents) = All (IsRead (is_identified form family)) contents.destinations × IsHopOf announced contents.next_hop
IsValue announced form (other afi safi octets) = (afi < 2 ^ 64) × (safi < 2 ^ 64) × AreOctets octets

other_read : (announced : Bool) (form : RouteForm) (value : List ℕ) → AreOctets value → IsValue announced form (other_in value)
other_read announced form value are =
    let safi = bytes_of value are 2 in
    (fits_big 2 0 value are (omega arith), omega (arith, safi), All-drop IsOctet 3 value are)

reach_fields : (form : RouteForm) (family : Family) (value : List ℕ) (contents : Contents) → AreOctets value → IsReachValue (with_any_hop form) family value contents
    → IsValue true form (unicast family contents)
reach_fields form family value contents are is =
    let behind : AreOctets (length is.hop ∷ (is.hop ++ is.reserved ∷ is.nlri)) = subst AreOctets is.spelled (All-drop IsOctet 3 value are) in
    let both = All-tail IsOctet (length is.hop) (is.hop ++ is.reserved ∷ is.nlri) behind in
    let hop : AreOctets is.hop = subst AreOctets (take_at is.hop (is.reserved ∷ is.nlri) (length is.hop) refl) (All-take IsOctet (length is.hop) (is.hop ++ is.reserved ∷ is.nlri) both) in
    let rest : AreOctets (is.reserved ∷ is.nlri) = subst AreOctets (drop_at is.hop (is.reserved ∷ is.nlri) (length is.hop) refl) (All-drop IsOctet (length is.hop) (is.hop ++ is.reserved ∷ is.nlri) both) in
    let nlri = All-tail IsOctet is.reserved is.nlri rest in (
      each_read (is_identified form family) family is.nlri contents.destinations nlri is.destinations,
      subst (IsHopOf true) (sym is.next_hop) (refl, hop_read true family is.hop is.address hop is.is_hop),
    )

unreach_fields : (form : RouteForm) (family : Family) (value : List ℕ) (contents : Contents) → AreOctets value → IsUnreachValue form family value contents
    → IsValue false form (unicast family contents)
unreach_fields form family value contents are is = (
  each_read (is_identified form family) family (drop 3 value) contents.destinations (All-drop IsOctet 3 value are) is.destinations,
  subst (IsHopOf false) (sym is.next_hop) refl,
)

in_unicast : (announced : Bool) (form : RouteForm) (family : Family) (found : Option Contents) (a : RoutesValue)
    → ((contents : Contents) → found ≡ Some contents → IsValue announced form (unicast family contents)) → unicast_of family found ≡ Some a → IsValue announced form a
in_unicast announced form family None a each e = absurd (none-some a e)
in_unicast announced form family (Some contents) a each e =
    subst (IsValue announced form) (same_Some (unicast family contents) a e) (each contents refl)

in_some_family : (announced : Bool) (form : RouteForm) (read : Family → List ℕ → Option Contents) (value : List ℕ) (found : Option Family) (a : RoutesValue) → AreOctets value
    → ((family : Family) (contents : Contents) → read family value ≡ Some contents → IsValue announced form (unicast family contents))
    → in_family read value found ≡ Some a → IsValue announced form a
in_some_family announced form read value None a are each e =
    subst (IsValue announced form) (same_Some (other_in value) a e) (other_read announced form value are)
in_some_family announced form read value (Some family) a are each e = in_unicast announced form family (read family value) a (each family) e

value_read : (announced : Bool) (form : RouteForm) (read : Family → List ℕ → Option Contents) (value : List ℕ) (a : RoutesValue) → AreOctets value
    → ((family : Family) (contents : Contents) → read family value ≡ Some contents → IsValue announced form (unicast family contents))
    → routes_in read value ≡ Some a → IsValue announced form a
value_read announced form read value a are each e = elim (cases_Bool (nat_lt (length value) 3)) [
  | inl short ↦ absurd (none-some a (rw short at e))
  | inr long ↦ in_some_family announced form read value (family_in value) a are each (rw long at e)
]

pub reach_read : (form : RouteForm) (value : List ℕ) (a : RoutesValue) → AreOctets value → reach_value form value ≡ Some a → IsValue true form a
reach_read form value a are e =
    value_read true form (reach_contents (with_any_hop form)) value a are
    (λ family contents found. reach_fields form family value contents are ((reads_mp_values.reach (with_any_hop form) family value contents).1 found)) e

pub unreach_read : (form : RouteForm) (value : List ℕ) (a : RoutesValue) → AreOctets value → unreach_value form value ≡ Some a → IsValue false form a
unreach_read form value a are e =
    value_read false form (unreach_contents form) value a are
    (λ family contents found. unreach_fields form family value contents are ((reads_mp_values.unreach form family value contents).1 found)) e

-- ---- equal values

family_by : (family also : Family) → afi_of family ≡ afi_of also → family ≡ also
family_by families.V4 families.V4 e = refl
family_by families.V4 families.V6 e = absurd (omega (arith, e))
family_by families.V6 families.V4 e = absurd (omega (arith, e))
family_by families.V6 families.V6 e = refl

pub afi_fits : (family : Family) → afi_of family < 2 ^ 64
afi_fits families.V4 = omega arith
afi_fits families.V6 = omega arith

-- behind the family
same_behind : (announced : Bool) (name : List ℕ) (identified also : Bool) (hop hop' : Option NextHop) (ds es : List Destination) → IsHopOf announced hop → IsHopOf announced hop'
    → All (IsRead identified) ds → All (IsRead also) es
    → hop_members hop ++ (name, destinations_json ds) ∷ path_ids_members identified ds ≡ hop_members hop' ++ (name, destinations_json es) ∷ path_ids_members also es
    → spelled_next_hop hop ++ spelled_destinations ds ≡ spelled_next_hop hop' ++ spelled_destinations es
same_behind announced name identified also None None ds es is is' all too e = ap spelled_destinations (same_listed name identified also ds es all too e)
same_behind announced name identified also None (Some another) ds es is is' all too e = absurd (both_ways announced is is'.0)
same_behind announced name identified also (Some hop) None ds es is is' all too e = absurd (both_ways announced is' is.0)
same_behind announced name identified also (Some hop) (Some another) ds es is is' all too e =
    ap₂ ◌++◌ (ap (λ (h : NextHop). spelled_next_hop (Some h)) (same_hop hop another is.1 is'.1 (ap first_value e)))
    (ap spelled_destinations (same_listed name identified also ds es all too (ap (drop 1) e)))

-- a list of destinations is no rest of octets
not_rest : (announced : Bool) (name : List ℕ) (identified : Bool) (hop : Option NextHop) (ds : List Destination) (octets : List ℕ) → bytes_eq (codes "rest") name ≡ false
    → hop_members hop ++ (name, destinations_json ds) ∷ path_ids_members identified ds ≡ (codes "rest", octets_json octets) ∷ [] → ⊥
not_rest announced name identified None ds octets apart e =
    let same : name ≡ codes "rest" = ap first_key e in
    both_ways (bytes_eq (codes "rest") name) apart (rw same refl)
not_rest announced name identified (Some hop) ds octets apart e =
    let same : codes "next_hop" ≡ codes "rest" = ap first_key e in
    both_ways (bytes_eq (codes "rest") (codes "next_hop")) refl (ap (bytes_eq (codes "rest")) same)

same_routes : (announced : Bool) (name : List ℕ) → bytes_eq (codes "rest") name ≡ false → (form also : RouteForm) (a b : RoutesValue) → IsValue announced form a → IsValue announced also b
    → routes_json name form a ≡ routes_json name also b → spelled_routes a ≡ spelled_routes b
same_routes announced name apart form also (unicast family contents) (unicast family' contents') is is' e =
    let ms = same_members (family_members (afi_of family) 1 ++ (hop_members contents.next_hop ++ (name, destinations_json contents.destinations) ∷ path_ids_members (is_identified form family) contents.destinations))
    (family_members (afi_of family') 1 ++ (hop_members contents'.next_hop ++ (name, destinations_json contents'.destinations) ∷ path_ids_members (is_identified also family') contents'.destinations)) e in
    let afi = same_number_json (afi_of family) (afi_of family') (afi_fits family) (afi_fits family') (ap (of_key (codes "afi")) ms) in
    ap₂ ◌++◌ (ap (λ (n : ℕ). spelled_numbers n 1) afi)
    (same_behind announced name (is_identified form family) (is_identified also family') contents.next_hop contents'.next_hop contents.destinations contents'.destinations
    is.1 is'.1 is.0 is'.0 (ap (drop 2) ms))
same_routes announced name apart form also (unicast family contents) (other afi safi octets) is is' e =
    let ms = same_members (family_members (afi_of family) 1 ++ (hop_members contents.next_hop ++ (name, destinations_json contents.destinations) ∷ path_ids_members (is_identified form family) contents.destinations))
    (family_members afi safi ++ (codes "rest", octets_json octets) ∷ []) e in
    absurd (not_rest announced name (is_identified form family) contents.next_hop contents.destinations octets apart (ap (drop 2) ms))
same_routes announced name apart form also (other afi safi octets) (unicast family contents) is is' e =
    let ms = same_members (family_members afi safi ++ (codes "rest", octets_json octets) ∷ [])
    (family_members (afi_of family) 1 ++ (hop_members contents.next_hop ++ (name, destinations_json contents.destinations) ∷ path_ids_members (is_identified also family) contents.destinations)) e in
    absurd (not_rest announced name (is_identified also family) contents.next_hop contents.destinations octets apart (sym (ap (drop 2) ms)))
same_routes announced name apart form also (other afi safi octets) (other afi' safi' octets') is is' e =
    let ms = same_members (family_members afi safi ++ (codes "rest", octets_json octets) ∷ []) (family_members afi' safi' ++ (codes "rest", octets_json octets') ∷ []) e in
    let family = same_family afi safi afi' safi' ((codes "rest", octets_json octets) ∷ []) ((codes "rest", octets_json octets') ∷ []) is.0 is.1 is'.0 is'.1 ms in
    ap₂ ◌++◌ (ap₂ spelled_numbers family.0 family.1) (same_octets octets octets' is.2 is'.2 (ap (of_key (codes "rest")) ms))

pub same_reach : (form also : RouteForm) (octets others : List ℕ) (a b : RoutesValue) → AreOctets octets → AreOctets others → reach_value form octets ≡ Some a → reach_value also others ≡ Some b
    → routes_json (codes "nlri") form a ≡ routes_json (codes "nlri") also b → spelled_routes a ≡ spelled_routes b
same_reach form also octets others a b are too first second e =
    same_routes true (codes "nlri") refl form also a b (reach_read form octets a are first) (reach_read also others b too second) e

pub same_unreach : (form also : RouteForm) (octets others : List ℕ) (a b : RoutesValue) → AreOctets octets → AreOctets others → unreach_value form octets ≡ Some a → unreach_value also others ≡ Some b
    → routes_json (codes "withdrawn") form a ≡ routes_json (codes "withdrawn") also b → spelled_routes a ≡ spelled_routes b
same_unreach form also octets others a b are too first second e =
    same_routes false (codes "withdrawn") refl form also a b (unreach_read form octets a are first) (unreach_read also others b too second) e
