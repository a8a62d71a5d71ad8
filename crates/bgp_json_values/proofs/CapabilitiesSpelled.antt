-- What the value of a capability spells are its octets, but for the three in which something is
-- reserved.
use Rattle.std.specs.Prelude.{⊤}
use Rattle.std.proofs.Common.{◌≡◌, ◌∙◌, ◌==◌, ◌&&◌, ◌++◌, ◌∷◌, ℕ, List, [], Bool, true, Option, None, Some, refl, sym, ap, append-nil, get_or, length, take, drop, nat_eq, nat_le, slice_index, slice_index_or, arith, bytes_eq}
use Rattle.std.specs.Bool.{one_answer}
use Rattle.std.specs.Borrow.{Bor}
use Rattle.std.specs.List.{list_all}
use Rattle.std.proofs.lemmas.Bool.{and_parts, eqb-true, leb-true}
use Rattle.std.proofs.lemmas.Bool.Decides.{Decides-eqb}
use Rattle.std.proofs.lemmas.List.{length-take-le, nil_from_length, take-append-drop}
use Rattle.std.proofs.lemmas.Slice.Eq.{bytes_eq-Decides}
use Rattle.byteorder.specs.Endian.{big_bytes, big_number}
use Rattle.bgp_prefix.proofs.AddressNumbers.{AreOctets}
use Rattle.bgp_values.specs.CapabilityValue.{CapabilityValue, Counted, capability_value, family_value, offered_value, next_hops_value, role_value, restart_value, as_number_value, paths_value, long_lived_value, names_value, has_way, counted_in, with_host, with_domain, is_empty_code, family, offered, next_hops, role, restart, as_number, paths, long_lived, names}
use Rattle.bgp_values.specs.Items.{items_of}
use Rattle.bgp_values.specs.Pieces.{are_pieces, are_some_pieces}
use Rattle.bgp_values.specs.Readable.{is_readable}
use Rattle.bgp_values.specs.declared.items.Item.TheVariants.{PathFamily}
use Rattle.bgp_values.specs.CapabilityValue.{capability_value_of}
use Rattle.bgp_values.specs.declared.capability_value.CapabilityValue as declared
use Rattle.bgp_values.specs.declared.capability_value.CapabilityValue.TheVariants as variants
use Rattle.bgp_json_values.specs.CapabilityJson.{spelled_capability, spelled_text}
use Rattle.bgp_json_values.proofs.Joins.{either, equal, number_front, number_whole, some_joined}

-- What a value says of the octets that have it. Where something is reserved: of a family all but
-- the third octet, and of families nothing, since they are written anew.
abbrev pub Says : List ℕ → Option CapabilityValue → Type 0
Says octets None = ⊤
Says octets (Some (family afi safi)) = (length octets ≡ 4) × (afi ≡ big_number 2 octets) × (safi ≡ slice_index octets 3)
Says octets (Some (restart restarted notification seconds items)) = ⊤
Says octets (Some (long_lived items)) = ⊤
Says octets (Some offered) = [] ≡ octets
Says octets (Some (next_hops items)) = spelled_capability (next_hops items) ≡ octets
Says octets (Some (role number)) = spelled_capability (role number) ≡ octets
Says octets (Some (as_number number)) = spelled_capability (as_number number) ≡ octets
Says octets (Some (paths items)) = spelled_capability (paths items) ≡ octets
Says octets (Some (names host domain)) = spelled_capability (names host domain) ≡ octets

by_family : (octets : List ℕ) → Says octets (family_value octets)
by_family octets = either (Says octets) (length octets == 4) _ None (λ is. (eqb-true _ _ is, refl, refl)) (λ no. tt)

by_offered : (octets : List ℕ) → Says octets (offered_value octets)
by_offered octets = either (Says octets) (length octets == 0) _ None (λ is. sym (nil_from_length octets (eqb-true _ _ is))) (λ no. tt)

by_next_hops : (octets : List ℕ) → Says octets (next_hops_value octets)
by_next_hops octets = either (Says octets) (are_some_pieces 6 octets) _ None (λ is. some_joined 6 octets (omega arith) is) (λ no. tt)

one_octet : (octets : List ℕ) → length octets ≡ 1 → slice_index octets 0 ∷ [] ≡ octets
one_octet [] len = absurd (omega (arith, len))
one_octet (o ∷ []) len = refl
one_octet (o ∷ p ∷ octets) len = absurd (omega (arith, len))

by_role : (octets : List ℕ) → Says octets (role_value octets)
by_role octets =
    either (Says octets) ((length octets == 1) && nat_le (slice_index octets 0) 4) _ None
    (λ is. one_octet octets (eqb-true _ _ (and_parts _ _ is).0)) (λ no. tt)

by_restart : (octets : List ℕ) → Says octets (restart_value octets)
by_restart octets = either (Says octets) (nat_le 2 (length octets) && are_pieces 4 (drop 2 octets)) _ None (λ is. tt) (λ no. tt)

by_as_number : (octets : List ℕ) → AreOctets octets → Says octets (as_number_value octets)
by_as_number octets are = either (Says octets) (length octets == 4) _ None (λ is. number_whole 4 octets (eqb-true _ _ is) are) (λ no. tt)

by_paths : (octets : List ℕ) → Says octets (paths_value octets)
by_paths octets =
    either (Says octets) (are_some_pieces 4 octets && list_all has_way (items_of PathFamily octets)) _ None
    (λ is. some_joined 4 octets (omega arith) (and_parts _ _ is).0) (λ no. tt)

by_long_lived : (octets : List ℕ) → Says octets (long_lived_value octets)
by_long_lived octets = either (Says octets) (are_pieces 7 octets) _ None (λ is. tt) (λ no. tt)

-- ---- names

-- a counted text and what stands behind it are these octets
abbrev AreCounted : List ℕ → Option Counted → Type 0
AreCounted octets None = ⊤
AreCounted octets (Some counted) = spelled_text counted.text ++ counted.rest ≡ octets

counted : (octets : List ℕ) → AreCounted octets (counted_in octets)
counted [] = tt
counted (count ∷ octets) =
    either (AreCounted (count ∷ octets)) (nat_le count (length octets) && is_readable (take count octets)) _ None
    (λ is. λ i. length-take-le count octets (leb-true _ _ (and_parts _ _ is).0) i ∷ take-append-drop count octets i) (λ no. tt)

by_domain : (octets host behind : List ℕ) (domain : Option Counted) → spelled_text host ++ behind ≡ octets → AreCounted behind domain → Says octets (with_domain host domain)
by_domain octets host behind None front back = tt
by_domain octets host behind (Some domain) front back =
    either (Says octets) (length domain.rest == 0) _ None
    (λ is.
    let whole : spelled_text domain.text ≡ behind = sym (append-nil (spelled_text domain.text)) ∙ ap (λ (rest : List ℕ). spelled_text domain.text ++ rest) (sym (nil_from_length domain.rest (eqb-true _ _ is))) ∙ back in
    ap (λ (rest : List ℕ). spelled_text host ++ rest) whole ∙ front)
    (λ no. tt)

by_host : (octets : List ℕ) (host : Option Counted) → AreCounted octets host → Says octets (with_host host)
by_host octets None front = tt
by_host octets (Some host) front = by_domain octets host.text host.rest (counted_in host.rest) front (counted host.rest)

by_names : (octets : List ℕ) → Says octets (names_value octets)
by_names octets = by_host octets (counted_in octets) (counted octets)

-- ---- all

pub said : (code : ℕ) (octets : List ℕ) → AreOctets octets → Says octets (capability_value code octets)
said code octets are =
    let P = Says octets in
    either P (code == 1) _ _ (λ is. by_family octets) (λ no.
    either P (is_empty_code code) _ _ (λ is. by_offered octets) (λ no.
    either P (code == 5) _ _ (λ is. by_next_hops octets) (λ no.
    either P (code == 9) _ _ (λ is. by_role octets) (λ no.
    either P (code == 64) _ _ (λ is. by_restart octets) (λ no.
    either P (code == 65) _ _ (λ is. by_as_number octets are) (λ no.
    either P (code == 69) _ _ (λ is. by_paths octets) (λ no.
    either P (code == 71) _ _ (λ is. by_long_lived octets) (λ no.
    either P (code == 73) _ None (λ is. by_names octets) (λ no. tt)))))))))

-- a family spells its octets if the reserved one is 0
pub family_spelled : (octets : List ℕ) (afi safi : ℕ) → Says octets (Some (family afi safi)) → AreOctets octets
    → nat_eq (slice_index_or octets 2 0) 0 ≡ bytes_eq (spelled_capability (family afi safi)) octets
family_spelled [] afi safi is are = absurd (omega (arith, is.0))
family_spelled (a ∷ []) afi safi is are = absurd (omega (arith, is.0))
family_spelled (a ∷ b ∷ []) afi safi is are = absurd (omega (arith, is.0))
family_spelled (a ∷ b ∷ c ∷ []) afi safi is are = absurd (omega (arith, is.0))
family_spelled (a ∷ b ∷ c ∷ d ∷ e ∷ octets) afi safi is are = absurd (omega (arith, is.0))
family_spelled (a ∷ b ∷ reserved ∷ last ∷ []) afi safi is are =
    let octets = a ∷ b ∷ reserved ∷ last ∷ [] in
    let numbers : spelled_capability (family afi safi) ≡ a ∷ b ∷ 0 ∷ last ∷ [] =
    (λ i. big_bytes 2 (is.1 i) ++ 0 ∷ is.2 i ∷ []) ∙ ap (λ (front : List ℕ). front ++ 0 ∷ last ∷ []) (number_front 2 octets (omega arith) are) in
    let same = bytes_eq-Decides (spelled_capability (family afi safi)) octets in
    one_answer _ _ (Decides-eqb reserved 0) (
      λ e. sym (ap (λ (xs : List ℕ). get_or xs 2 0) (sym numbers ∙ same.0 e)),
      λ z. same.1 (numbers ∙ ap (λ (r : ℕ). a ∷ b ∷ r ∷ last ∷ []) (sym z)),
    )

-- every value but these three spells its octets
pub others_spelled : (octets : List ℕ) (value : declared.CapabilityValue) → Says octets (Some (capability_value_of value))
    → ((afi safi : ℕ) → value ≡ variants.Family afi safi → ⊥)
    → ((restarted notification : Bool) (seconds : ℕ) (families : Bor (List ℕ)) → value ≡ variants.Restart restarted notification seconds families → ⊥)
    → ((families : Bor (List ℕ)) → value ≡ variants.LongLived families → ⊥)
    → true ≡ bytes_eq (spelled_capability (capability_value_of value)) octets
others_spelled octets (variants.Family afi safi) says no_family no_restart no_long = absurd (no_family afi safi refl)
others_spelled octets variants.Offered says no_family no_restart no_long = equal _ octets says
others_spelled octets (variants.NextHops families) says no_family no_restart no_long = equal _ octets says
others_spelled octets (variants.Role number) says no_family no_restart no_long = equal _ octets says
others_spelled octets (variants.Restart restarted notification seconds families) says no_family no_restart no_long =
    absurd (no_restart restarted notification seconds families refl)
others_spelled octets (variants.AsNumber number) says no_family no_restart no_long = equal _ octets says
others_spelled octets (variants.Paths families) says no_family no_restart no_long = equal _ octets says
others_spelled octets (variants.LongLived families) says no_family no_restart no_long = absurd (no_long families refl)
others_spelled octets (variants.Names host domain) says no_family no_restart no_long = equal _ octets says
