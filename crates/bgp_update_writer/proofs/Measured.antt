-- How many octets prefixes and attributes have.
use Rattle.std.proofs.Common.{◌≡◌, ℕ, ◌+◌, ◌<◌, ◌≤◌, List, [], ◌∷◌, ◌++◌, length, take, drop, get_or, sym, ap, ◌∙◌, append_assoc, arith}
use Rattle.std.specs.List.{flat_map}
use Rattle.std.proofs.lemmas.List.{take_more, append-nil, length-append, take-append-drop}
use Rattle.std.proofs.lemmas.Grind.{flat_map-append}
use Rattle.bgp_prefix.specs.Prefix.{PrefixBits, prefix_octets}
use Rattle.bgp_open.specs.declared.link.Link.{Link}
use Rattle.bgp_wire.specs.Header.{limit_with}
use Rattle.bgp_wire.proofs.GreatestLength.{allows_4096, fits_two_octets}
use Rattle.bgp_wire.proofs.WrittenMessage.{length-message_octets}
use Rattle.bgp_attr.specs.Field.{attribute_octets}
use Rattle.bgp_path.specs.declared.path.NextHop.{NextHop}
use Rattle.bgp_update.specs.Clean.{most_octets}
use Rattle.bgp_update.specs.Sections.{section_octets}
use Rattle.bgp_update_writer.specs.Update.{UpdateValue}
use Rattle.bgp_update_writer.specs.Refusals.{IsTooLarge}
use Rattle.bgp_update_writer.specs.Written.{nlri_octets, hop_octets, reach_octets, unreach_octets, withdrawn_octets, announced_octets, written_attributes, written_sections, update_octets}
use Rattle.bgp_update_writer.proofs.WrittenSections.{length-section_octets}

-- one prefix more
pub one_more : (ps : List PrefixBits) (i : ℕ) (d : PrefixBits) → i < length ps → nlri_octets (take (i + 1) ps) ≡ nlri_octets (take i ps) ++ prefix_octets (get_or ps i d)
one_more ps i d lt =
    ap nlri_octets (take_more ps i d lt) ∙ flat_map-append prefix_octets (take i ps) (get_or ps i d ∷ [])
    ∙ ap (λ (t : List ℕ). nlri_octets (take i ps) ++ t) (append-nil (prefix_octets (get_or ps i d)))

within : (ps : List PrefixBits) (k : ℕ) → length (nlri_octets (take k ps)) ≤ length (nlri_octets ps)
within ps k =
    let all : nlri_octets ps ≡ nlri_octets (take k ps) ++ nlri_octets (drop k ps) =
    ap nlri_octets (sym (take-append-drop k ps)) ∙ flat_map-append prefix_octets (take k ps) (drop k ps) in
    omega (arith, ap length all, length-append (nlri_octets (take k ps)) (nlri_octets (drop k ps)))

pub more_room : (ps : List PrefixBits) (i : ℕ) (d : PrefixBits) (left new room : ℕ) → i < length ps
    → left + length (nlri_octets (take i ps)) ≡ room → new + length (prefix_octets (get_or ps i d)) ≡ left → new + length (nlri_octets (take (i + 1) ps)) ≡ room
more_room ps i d left new room lt before one =
    omega (arith, ap length (one_more ps i d lt), length-append (nlri_octets (take i ps)) (prefix_octets (get_or ps i d)))

pub no_room : (ps : List PrefixBits) (i : ℕ) (d : PrefixBits) (left room : ℕ) → i < length ps
    → left + length (nlri_octets (take i ps)) ≡ room → left < length (prefix_octets (get_or ps i d)) → room < length (nlri_octets ps)
no_room ps i d left room lt before one =
    omega (arith, ap length (one_more ps i d lt), length-append (nlri_octets (take i ps)) (prefix_octets (get_or ps i d)), within ps (i + 1))

pub more_put : (ps : List PrefixBits) (i : ℕ) (d : PrefixBits) (old mid new : List ℕ) → i < length ps → mid ≡ old ++ nlri_octets (take i ps)
    → new ≡ mid ++ prefix_octets (get_or ps i d) → new ≡ old ++ nlri_octets (take (i + 1) ps)
more_put ps i d old mid new lt before put =
    put ∙ ap (λ (m : List ℕ). m ++ prefix_octets (get_or ps i d)) before
    ∙ append_assoc old (nlri_octets (take i ps)) (prefix_octets (get_or ps i d))
    ∙ ap (λ (t : List ℕ). old ++ t) (sym (one_more ps i d lt))

-- how many octets the message has
pub length_of_update : (link : Link) (value : UpdateValue) → length (update_octets link value)
    ≡ 23 + length (withdrawn_octets value) + length (flat_map attribute_octets (written_attributes link value)) + length (announced_octets value)
length_of_update link value =
    omega (arith, length-message_octets 2 (section_octets (written_sections link value)), length-section_octets (written_sections link value))

-- that number fits the Length field, and is never below 4096
pub fits_length : (link : Link) → most_octets link ≤ 65535
fits_length link = fits_two_octets (limit_with link.extended) 2

pub has_room : (link : Link) → 4096 ≤ most_octets link
has_room link = allows_4096 (limit_with link.extended) 2

pub too_large : (link : Link) (value : UpdateValue) → most_octets link < 23 + length (withdrawn_octets value) + length (flat_map attribute_octets (written_attributes link value)) + length (announced_octets value) → IsTooLarge link value
too_large link value h = omega (arith, length_of_update link value)

pub unreach_len : (ps : List PrefixBits) → length (unreach_octets ps) ≡ 3 + length (nlri_octets ps)
unreach_len ps = omega arith

pub reach_len : (hop : NextHop) (ps : List PrefixBits) → length (reach_octets hop ps) ≡ 5 + length (hop_octets hop) + length (nlri_octets ps)
reach_len hop ps = omega (arith, length-append (hop_octets hop) (0 ∷ nlri_octets ps))

-- a prefix within the prefixes
pub one_within : (ps : List PrefixBits) (i : ℕ) (d : PrefixBits) → i < length ps
    → length (nlri_octets (take i ps)) + length (prefix_octets (get_or ps i d)) ≤ length (nlri_octets ps)
one_within ps i d lt =
    omega (arith, ap length (one_more ps i d lt), length-append (nlri_octets (take i ps)) (prefix_octets (get_or ps i d)), within ps (i + 1))

-- the same as lengths
pub longer : (ps : List PrefixBits) (i : ℕ) (d : PrefixBits) → i < length ps
    → length (nlri_octets (take (i + 1) ps)) ≡ length (nlri_octets (take i ps)) + length (prefix_octets (get_or ps i d))
longer ps i d lt = omega (arith, ap length (one_more ps i d lt), length-append (nlri_octets (take i ps)) (prefix_octets (get_or ps i d)))
