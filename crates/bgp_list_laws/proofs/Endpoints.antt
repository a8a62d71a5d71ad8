-- Ends of connections and their AS numbers, by what is found of them in JSON.
use Rattle.std.proofs.Common.{◌≡◌, ◌≢◌, ◌++◌, ◌==◌, ◌&&◌, ◌≤◌, ◌+◌, ℕ, Bool, true, false, not, List, [], ◌∷◌, All, Option, None, Some, codes, length, map, take, drop, refl, arith, if◌then◌else◌, inl, inr}
use Rattle.std.specs.Fmt.{decimal}
use Rattle.std.specs.List.{join_with_byte}
use Rattle.std.specs.Net.Text.{ipv4_text}
use Rattle.std.proofs.lemmas.Bool.{and_from, ne_eqb, not_from_false}
use Rattle.std.proofs.lemmas.List.Elements.{All-head, All-tail}
use Rattle.std.proofs.NetLemmas.Alphabet.{All-ipv4_text, IsDigitOrDot}
use Rattle.byteorder.specs.Endian.{big_bytes}
use Rattle.json.specs.Json.{Json}
use Rattle.bgp_prefix.specs.Address.{ipv6_groups}
use Rattle.bgp_prefix.specs.Text.{address_text, colon_text, group_text, longest_zeros, shortened_text}
use Rattle.bgp_prefix.specs.declared.address.Address.{Address}
use Rattle.bgp_prefix.specs.declared.address.Address.TheVariants.{V4, V6}
use Rattle.bgp_prefix.proofs.PrintedTexts.{dotted_text-four, octets_below}
use Rattle.bgp_names.proofs.Distinct.{lacks}
use Rattle.bgp_why.specs.Endpoint.{endpoint_by, endpoint_text, with_port}
use Rattle.bgp_why.specs.declared.endpoint.Endpoint.{Endpoint}
use Rattle.bgp_json_values.specs.Texts.{address_json}
use Rattle.bgp_list.specs.Connections.{as_text}
use Rattle.bgp_list.specs.JsonMembers.{endpoint_members, number_members}
use Rattle.bgp_json_laws.proofs.Lookups.{text_of}
use Rattle.bgp_verdict_laws.proofs.Shapes.{IsMade, having}
use Rattle.bgp_verdict_laws.proofs.Times.{number_json, said}

-- ---- a colon is in the text of an address of IPv6, and in none of IPv4

no_more : (a b : Bool) → b ≡ false → (a && b) ≡ false
no_more true b e = e
no_more false b e = refl

behind_some : (text rest : List ℕ) → lacks 58 (text ++ 58 ∷ rest) ≡ false
behind_some [] rest = refl
behind_some (c ∷ text) rest = no_more (not (c == 58)) (lacks 58 (text ++ 58 ∷ rest)) (behind_some text rest)

has_colon : (groups : List ℕ) (run : Option (ℕ × ℕ)) → 2 ≤ length groups → lacks 58 (shortened_text groups run) ≡ false
unfolding shortened_text colon_text
has_colon [] None few = absurd (omega (arith, few))
has_colon (g ∷ []) None few = absurd (omega (arith, few))
has_colon (g ∷ h ∷ groups) None few = behind_some (group_text g) (join_with_byte 58 (map group_text (h ∷ groups)))
has_colon groups (Some run) few = behind_some (colon_text (take run.0 groups)) (58 ∷ colon_text (drop (run.0 + run.1) groups))

six_has : (n : ℕ) → lacks 58 (address_text (V6 n)) ≡ false
unfolding address_text
six_has n =
    let eight : length (ipv6_groups n) ≡ 8 = refl in
    has_colon (ipv6_groups n) (longest_zeros 8 (ipv6_groups n)) (omega (arith, eight))

differs : (c : ℕ) → IsDigitOrDot c → c ≢ 58
differs c (inl digit) e = omega arith
differs c (inr dot) e = omega arith

no_colon : (text : List ℕ) → All IsDigitOrDot text → lacks 58 text ≡ true
no_colon [] all = refl
no_colon (c ∷ text) all =
    and_from (not (c == 58)) (lacks 58 text) (not_from_false (c == 58) (ne_eqb c 58 (differs c (All-head IsDigitOrDot c text all))))
    (no_colon text (All-tail IsDigitOrDot c text all))

four_text : (n : ℕ) → address_text (V4 n) ≡ ipv4_text (big_bytes 4 n)
unfolding address_text
four_text n = dotted_text-four _ _ _ _

four_lacks : (n : ℕ) → lacks 58 (address_text (V4 n)) ≡ true
four_lacks n = rw four_text (no_colon (ipv4_text (big_bytes 4 n)) (All-ipv4_text (big_bytes 4 n) (octets_below 4 n)))

-- ---- ends

abbrev pub port_in : List ℕ → List ℕ → List ℕ
port_in address port =
    if lacks 58 address then address ++ (codes ":" ++ port) else codes "[" ++ (address ++ (codes "]:" ++ port))

abbrev pub endpoint_in : Option Json → Option Json → List ℕ
endpoint_in address None = said address
endpoint_in address (Some port) = port_in (said address) (text_of port)

port_back : (address : Address) (port : ℕ) → port_in (address_text address) (decimal port) ≡ with_port address port
port_back (V4 n) port = rw (four_lacks n) refl
port_back (V6 n) port = rw (six_has n) refl

by_port : (address : Address) (port : Option ℕ) → endpoint_in (Some (address_json address)) (number_json port) ≡ endpoint_by address port
by_port address None = refl
by_port address (Some port) = port_back address port

pub endpoint_back : (end : Endpoint) → endpoint_in (Some (address_json end.address)) (number_json end.port) ≡ endpoint_text end
endpoint_back end = by_port end.address end.port

pub number_made : (key : List ℕ) (number : Option ℕ) → IsMade (key ∷ []) (number_json number ∷ []) (number_members key number)
number_made key None = record { is = refl; long = refl }
number_made key (Some number) = record { is = refl; long = refl }

pub endpoint_made : (key port_key : List ℕ) (end : Endpoint)
    → IsMade (key ∷ port_key ∷ []) (Some (address_json end.address) ∷ number_json end.port ∷ []) (endpoint_members key port_key end)
endpoint_made key port_key end = having key (address_json end.address) (number_made port_key end.port)

-- ---- AS numbers

abbrev pub as_in : Option Json → List ℕ
as_in None = codes "AS unknown"
as_in (Some value) = codes "AS " ++ text_of value

pub as_back : (number : Option ℕ) → as_in (number_json number) ≡ as_text number
as_back None = refl
as_back (Some number) = refl
