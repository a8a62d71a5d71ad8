-- Lists of destinations whose JSON is equal are equal.
use Rattle.std.proofs.Common.{◌≡◌, ◌∙◌, ◌<◌, ◌^◌, ℕ, Bool, true, false, List, [], ◌∷◌, All, Option, Some, None, drop, map, refl, sym, ap, ap₂, subst, arith}
use Rattle.std.proofs.lemmas.List.Elements.{All-cons, All-drop, All-head, All-nil, All-tail}
use Rattle.bgp_prefix.specs.declared.family.Family.{Family}
use Rattle.bgp_prefix.specs.Prefix.{IsPrefix}
use Rattle.bgp_wire.specs.Octets.{AreOctets}
use Rattle.bgp_update.specs.Destinations.{AreDestinations, BeginsWithDestination, path_at}
use Rattle.bgp_update.specs.declared.destination.Destination.{Destination}
use Rattle.bgp_json_values.specs.Objects.{number_of}
use Rattle.bgp_json_values.specs.RoutesJson.{destination_json, destinations_json, ids_of, path_ids_json}
use Rattle.bgp_json_laws.proofs.Lists.{lists_equal}
use Rattle.bgp_json_laws.proofs.Lookups.{same_values}
use Rattle.bgp_json_laws.proofs.Texts.{IsOctet, number_fits, same_number_json, same_prefix}

-- a path identifier of four octets, if there are some
abbrev pub IsPath : Bool → Option ℕ → Type 0
IsPath identified None = identified ≡ false
IsPath identified (Some id) = (identified ≡ true) × (id < 2 ^ 32)

-- what is read of octets
pub record IsRead (identified : Bool) (destination : Destination) : Type 0 where
  pub prefix : IsPrefix destination.prefix
  pub path : IsPath identified destination.path

path_read : (identified : Bool) (octets : List ℕ) → AreOctets octets → IsPath identified (path_at identified octets)
path_read true octets are = (refl, number_fits 4 octets are)
path_read false octets are = refl

one_read : (identified : Bool) (family : Family) (octets : List ℕ) (destination : Destination) (count : ℕ) → AreOctets octets
    → BeginsWithDestination identified family octets destination count → IsRead identified destination
one_read identified family octets destination count are begins = record {
  prefix = begins.prefix.spelling.is_prefix;
  path = subst (IsPath identified) (sym begins.path) (path_read identified octets are);
}

pub each_read : (identified : Bool) (family : Family) (octets : List ℕ) (destinations : List Destination) → AreOctets octets
    → AreDestinations identified family octets destinations → All (IsRead identified) destinations
each_read identified family octets [] are is = All-nil (IsRead identified)
each_read identified family octets (destination ∷ destinations) are is =
    All-cons (IsRead identified) destination destinations (one_read identified family octets destination is.0 are is.1)
    (each_read identified family (drop is.0 octets) destinations (All-drop IsOctet is.0 octets are) is.2)

-- ---- without path identifiers

no_path : (path : Option ℕ) → IsPath false path → path ≡ None
no_path None is = refl
no_path (Some id) is = cc is.0

one_plain : (d e : Destination) → IsRead false d → IsRead false e → destination_json d ≡ destination_json e → d ≡ e
one_plain d e is also same =
    let prefix = same_prefix d.prefix e.prefix is.prefix also.prefix same in
    let path = no_path d.path is.path ∙ sym (no_path e.path also.path) in
    λ i. record { prefix = prefix i; path = path i }

pub same_plain : (ds es : List Destination) → All (IsRead false) ds → All (IsRead false) es → destinations_json ds ≡ destinations_json es → ds ≡ es
same_plain ds es all also e = lists_equal destination_json destination_json (IsRead false) (IsRead false) one_plain ds es all also e

-- ---- with path identifiers

id_or : ℕ → Option ℕ → ℕ
id_or d None = d
id_or d (Some id) = id

a_path : (path : Option ℕ) → IsPath true path → (id : ℕ) × (path ≡ Some id) × (id < 2 ^ 32)
a_path None is = cc is
a_path (Some id) is = (id, refl, is.1)

abbrev pub Fits : ℕ → Type 0
Fits id = id < 2 ^ 64

pub ids_fit : (ds : List Destination) → All (IsRead true) ds → All Fits (ids_of ds)
ids_fit [] all = All-nil Fits
ids_fit (d ∷ ds) all =
    let path = a_path d.path (All-head (IsRead true) d ds all).path in
    let small = path.2 in
    rw path.1 (All-cons Fits path.0 (ids_of ds) (omega (arith, small)) (ids_fit ds (All-tail (IsRead true) d ds all)))

abbrev head_or : {A : Type 0} → A → List A → A
head_or d [] = d
head_or d (x ∷ xs) = x

one_by_one : (ds es : List Destination) → All (IsRead true) ds → All (IsRead true) es → map destination_json ds ≡ map destination_json es → ids_of ds ≡ ids_of es → ds ≡ es
one_by_one [] [] all also prefixes ids = refl
one_by_one [] (e ∷ es) all also prefixes ids = cc
one_by_one (d ∷ ds) [] all also prefixes ids = cc
one_by_one (d ∷ ds) (e ∷ es) all also prefixes ids =
    let is = All-head (IsRead true) d ds all in
    let is' = All-head (IsRead true) e es also in
    let path = a_path d.path is.path in
    let path' = a_path e.path is'.path in
    let lists : path.0 ∷ ids_of ds ≡ path'.0 ∷ ids_of es = rw (path.1, path'.1) at ids in
    let prefix = same_prefix d.prefix e.prefix is.prefix is'.prefix (ap (head_or (destination_json d)) prefixes) in
    let id : d.path ≡ e.path = path.1 ∙ ap (λ (n : ℕ). Some n) (ap (head_or 0) lists) ∙ sym path'.1 in
    let first : d ≡ e = (λ i. record { prefix = prefix i; path = id i }) in
    ap₂ ◌∷◌ first (one_by_one ds es (All-tail (IsRead true) d ds all) (All-tail (IsRead true) e es also) (ap (drop 1) prefixes) (ap (drop 1) lists))

pub same_identified : (ds es : List Destination) → All (IsRead true) ds → All (IsRead true) es → destinations_json ds ≡ destinations_json es → path_ids_json ds ≡ path_ids_json es → ds ≡ es
same_identified ds es all also prefixes ids =
    one_by_one ds es all also (same_values destination_json destination_json ds es prefixes)
    (lists_equal number_of number_of Fits Fits (λ m n small too e. same_number_json m n small too e) (ids_of ds) (ids_of es) (ids_fit ds all) (ids_fit es also) ids)
