-- Numbers, octets, addresses, prefixes and names have no control characters.
use Rattle.std.proofs.Common.{◌≡◌, ◌++◌, ◌==◌, ◌&&◌, ◌<◌, ◌/◌, ◌%◌, ◌+◌, ℕ, zero, suc, Bool, true, false, List, [], ◌∷◌, Option, None, Some, codes, drop, refl, slice_index, subst, sym, take, arith, if◌then◌else◌, inl, inr}
use Rattle.std.specs.Fmt.{decimal, digit_glyph, digits, digits_onto}
use Rattle.std.proofs.lemmas.Bool.{and_from, and_parts, cases_Bool, cases_lt, cond_both}
use Rattle.std.proofs.lemmas.List.Elements.{All-head, All-tail}
use Rattle.hex.specs.Hex.{encode_lower, encode_with, lower_digits}
use Rattle.bgp_prefix.specs.Address.{ipv4_octets, ipv6_groups}
use Rattle.bgp_prefix.specs.Prefix.{PrefixBits, address_of, prefix_length}
use Rattle.bgp_prefix.specs.Text.{address_text, colon_text, dotted_text, group_text, longest_zeros, prefix_text, shortened_text}
use Rattle.bgp_prefix.specs.declared.address.Address.{Address}
use Rattle.bgp_prefix.specs.declared.address.Address.TheVariants.{V4, V6}
use Rattle.bgp_path.specs.declared.path.NextHop.{NextHop}
use Rattle.bgp_path.specs.declared.path.NextHop.TheVariants as hops
use Rattle.bgp_update.specs.declared.destination.Destination.{Destination}
use Rattle.bgp_wire.specs.Octets.{AreOctets}
use Rattle.bgp_names.specs.Naming.{name_in, name_of_two_in, name_or, named}
use Rattle.bgp_names.specs.Attributes.{attribute_word, attribute_words}
use Rattle.bgp_names.specs.Capabilities.{capability_name, capability_names}
use Rattle.bgp_names.specs.Errors.{cease_names, code_names, error_name, fsm_error_names, has_subcode, header_error_names, open_error_names, refresh_error_names, subcode_name, subcode_names, update_error_names}
use Rattle.bgp_names.specs.Families.{afi_name, afi_names, family_name, family_names, family_numbers}
use Rattle.bgp_names.specs.Messages.{after_blank, type_names, type_text}
use Rattle.bgp_names.specs.States.{state_name, state_names}
use Rattle.bgp_text.specs.RouteText.{next_hop_text}
use Rattle.bgp_text.specs.Text.{destination_text, destinations_text, hex_text, path_id_text}
use Rattle.bgp_json_laws.proofs.Texts.{IsOctet}
use Rattle.bgp_visible_laws.specs.Visible.{IsVisible}
use Rattle.bgp_visible_laws.proofs.Visible.{both, is_shown_octet, is_word, nothing, with_octet, word}

-- ---- digits

-- of the first digits each is of ASCII
abbrev digits_below : (ℕ → ℕ) → ℕ → Bool
digits_below digit zero = true
digits_below digit (suc n) = is_shown_octet (digit n) && digits_below digit n

digit_below : (digit : ℕ → ℕ) (n : ℕ) → digits_below digit n ≡ true → (d : ℕ) → d < n → is_shown_octet (digit d) ≡ true
digit_below digit zero e d below = absurd (omega arith)
digit_below digit (suc n) e d below =
    let parts = and_parts (is_shown_octet (digit n)) (digits_below digit n) e in
    elim (cases_lt d n) [
      | inl less ↦ digit_below digit n parts.1 d less
      | inr top ↦ let same : d ≡ n = omega arith in subst (λ (k : ℕ). is_shown_octet (digit k) ≡ true) (sym same) parts.0
    ]

glyph_shown : (d : ℕ) → d < 16 → is_shown_octet (digit_glyph false d) ≡ true
glyph_shown d below = digit_below (digit_glyph false) 16 refl d below

onto_word : (base : ℕ) → ((n : ℕ) → n % base < 16) → (k n : ℕ) (text : List ℕ) → is_word text ≡ true → is_word (digits_onto k base false n text) ≡ true
onto_word base small zero n text is = is
onto_word base small (suc k) n text is =
    let more : is_word (digit_glyph false (n % base) ∷ text) ≡ true = and_from (is_shown_octet (digit_glyph false (n % base))) (is_word text) (glyph_shown (n % base) (small n)) is in
    elim (cases_Bool (n / base == 0)) [
      | inl last ↦ rw last more
      | inr later ↦ rw later (onto_word base small k (n / base) (digit_glyph false (n % base) ∷ text) more)
    ]

pub decimal_visible : (n : ℕ) → IsVisible (decimal n)
unfolding digits
decimal_visible n = word (digits_onto 64 10 false n []) (onto_word 10 (λ m. omega arith) 64 n [] refl)

group_visible : (n : ℕ) → IsVisible (group_text n)
unfolding group_text digits
group_visible n = word (digits_onto 64 16 false n []) (onto_word 16 (λ m. omega arith) 64 n [] refl)

-- ---- octets in hexadecimal

hex_digit_shown : (d : ℕ) → d < 16 → is_shown_octet (slice_index lower_digits d) ≡ true
hex_digit_shown d below = digit_below (slice_index lower_digits) 16 refl d below

encoded_word : (octets : List ℕ) → AreOctets octets → is_word (encode_lower octets) ≡ true
unfolding encode_with
encoded_word [] are = refl
encoded_word (octet ∷ octets) are =
    let small = All-head IsOctet octet octets are in
    and_from (is_shown_octet (slice_index lower_digits (octet / 16))) _ (hex_digit_shown (octet / 16) (omega (arith, small)))
    (and_from (is_shown_octet (slice_index lower_digits (octet % 16))) _ (hex_digit_shown (octet % 16) (omega arith)) (encoded_word octets (All-tail IsOctet octet octets are)))

pub encoded_visible : (octets : List ℕ) → AreOctets octets → IsVisible (encode_lower octets)
encoded_visible octets are = word (encode_lower octets) (encoded_word octets are)

pub hex_visible : (octets : List ℕ) → AreOctets octets → IsVisible (hex_text octets)
unfolding hex_text
hex_visible [] are = word (codes "-") refl
hex_visible (octet ∷ octets) are = encoded_visible (octet ∷ octets) are

-- ---- addresses and prefixes

colons_visible : (groups : List ℕ) → IsVisible (colon_text groups)
unfolding colon_text
colons_visible groups = with_octet 58 refl group_text group_visible groups

shortened_visible : (groups : List ℕ) (run : Option (ℕ × ℕ)) → IsVisible (shortened_text groups run)
unfolding shortened_text
shortened_visible groups None = colons_visible groups
shortened_visible groups (Some run) =
    both (colons_visible (take run.0 groups)) (both (word (codes "::") refl) (colons_visible (drop (run.0 + run.1) groups)))

pub address_visible : (address : Address) → IsVisible (address_text address)
unfolding address_text dotted_text
address_visible (V4 number) = with_octet 46 refl decimal decimal_visible (ipv4_octets number)
address_visible (V6 number) = shortened_visible (ipv6_groups number) (longest_zeros 8 (ipv6_groups number))

pub prefix_visible : (prefix : PrefixBits) → IsVisible (prefix_text prefix)
unfolding prefix_text
prefix_visible prefix = both (address_visible (address_of prefix)) (both (word (codes "/") refl) (decimal_visible (prefix_length prefix)))

path_id_visible : (path : Option ℕ) → IsVisible (path_id_text path)
unfolding path_id_text
path_id_visible None = nothing
path_id_visible (Some id) = both (word (codes "#") refl) (decimal_visible id)

pub destination_visible : (destination : Destination) → IsVisible (destination_text destination)
unfolding destination_text
destination_visible destination = both (prefix_visible destination.prefix) (path_id_visible destination.path)

pub destinations_visible : (destinations : List Destination) → IsVisible (destinations_text destinations)
unfolding destinations_text
destinations_visible [] = word (codes "-") refl
destinations_visible (destination ∷ destinations) = with_octet 32 refl destination_text destination_visible (destination ∷ destinations)

pub hop_visible : (hop : NextHop) → IsVisible (next_hop_text hop)
unfolding next_hop_text
hop_visible (hops.V4 number) = address_visible (V4 number)
hop_visible (hops.V6 number) = address_visible (V6 number)
hop_visible (hops.V6WithLinkLocal number local) =
    both (address_visible (V6 number)) (both (word (codes ",") refl) (address_visible (V6 local)))

-- ---- names

abbrev are_words : List (ℕ × List ℕ) → Bool
are_words [] = true
are_words (row ∷ rows) = is_word row.1 && are_words rows

pub name_visible : (text : List ℕ) (rows : List (ℕ × List ℕ)) → IsVisible text → are_words rows ≡ true → (n : ℕ) → IsVisible (name_or text (name_in rows n))
name_visible text [] visible all n = visible
name_visible text (row ∷ rows) visible all n =
    let parts = and_parts (is_word row.1) (are_words rows) all in
    elim (cases_Bool (n == row.0)) [
      | inl is ↦ rw is (word row.1 parts.0)
      | inr isnt ↦ rw isnt (name_visible text rows visible parts.1 n)
    ]

pub named_visible : (front : List ℕ) (rows : List (ℕ × List ℕ)) → is_word front ≡ true → are_words rows ≡ true → (n : ℕ) → IsVisible (named front rows n)
named_visible front rows is all n = name_visible (front ++ decimal n) rows (both (word front is) (decimal_visible n)) all n

subcodes_are : (code : ℕ) → are_words (subcode_names code) ≡ true
subcodes_are code =
    let Are : List (ℕ × List ℕ) → Type 0 = λ rows. are_words rows ≡ true in
    let six = if code == 6 then cease_names else if code == 7 then refresh_error_names else [] in
    let three = if code == 3 then update_error_names else if code == 5 then fsm_error_names else six in
    cond_both (code == 1) header_error_names (if code == 2 then open_error_names else three) Are (λ _. refl) (λ _.
    cond_both (code == 2) open_error_names three Are (λ _. refl) (λ _.
    cond_both (code == 3) update_error_names (if code == 5 then fsm_error_names else six) Are (λ _. refl) (λ _.
    cond_both (code == 5) fsm_error_names six Are (λ _. refl) (λ _.
    cond_both (code == 6) cease_names (if code == 7 then refresh_error_names else []) Are (λ _. refl) (λ _.
    cond_both (code == 7) refresh_error_names [] Are (λ _. refl) (λ _. refl))))))

pub subcode_visible : (code subcode : ℕ) → IsVisible (subcode_name code subcode)
subcode_visible code subcode = named_visible (codes "subcode ") (subcode_names code) refl (subcodes_are code) subcode

pub if_visible : (is_so : Bool) (text other : List ℕ) → IsVisible text → IsVisible other → IsVisible (if is_so then text else other)
if_visible true text other first second = first
if_visible false text other first second = second

pub error_visible : (code subcode : ℕ) → IsVisible (error_name code subcode)
error_visible code subcode =
    both (named_visible (codes "code ") code_names refl refl code)
    (if_visible (has_subcode code subcode) (codes ", " ++ subcode_name code subcode) [] (both (word (codes ", ") refl) (subcode_visible code subcode)) nothing)

pub state_visible : (state : ℕ) → IsVisible (state_name state)
state_visible state = named_visible (codes "state ") state_names refl refl state

pub afi_visible : (afi : ℕ) → IsVisible (afi_name afi)
afi_visible afi = named_visible (codes "afi ") afi_names refl refl afi

abbrev are_families : List (ℕ × ℕ × List ℕ) → Bool
are_families [] = true
are_families (row ∷ rows) = is_word row.2 && are_families rows

of_two : (text : List ℕ) (rows : List (ℕ × ℕ × List ℕ)) → IsVisible text → are_families rows ≡ true → (m n : ℕ) → IsVisible (name_or text (name_of_two_in rows m n))
of_two text [] visible all m n = visible
of_two text (row ∷ rows) visible all m n =
    let parts = and_parts (is_word row.2) (are_families rows) all in
    elim (cases_Bool ((m == row.0) && (n == row.1))) [
      | inl is ↦ rw is (word row.2 parts.0)
      | inr isnt ↦ rw isnt (of_two text rows visible parts.1 m n)
    ]

pub family_visible : (afi safi : ℕ) → IsVisible (family_name afi safi)
family_visible afi safi =
    of_two (family_numbers afi safi) family_names
    (both (word (codes "afi ") refl) (both (decimal_visible afi) (both (word (codes " safi ") refl) (decimal_visible safi)))) refl afi safi

pub capability_visible : (code : ℕ) → IsVisible (capability_name code)
capability_visible code = named_visible (codes "capability ") capability_names refl refl code

pub attribute_visible : (kind : ℕ) → IsVisible (attribute_word kind)
attribute_visible kind = named_visible (codes "attribute ") attribute_words refl refl kind

type_by : (rows : List (ℕ × List ℕ)) → are_words rows ≡ true → (n : ℕ) → IsVisible (after_blank (name_in rows n))
type_by [] all n = nothing
type_by (row ∷ rows) all n =
    let parts = and_parts (is_word row.1) (are_words rows) all in
    elim (cases_Bool (n == row.0)) [
      | inl is ↦ rw is (both (word (codes " ") refl) (word row.1 parts.0))
      | inr isnt ↦ rw isnt (type_by rows parts.1 n)
    ]

pub type_visible : (n : ℕ) → IsVisible (type_text n)
type_visible n = both (decimal_visible n) (type_by type_names refl n)
