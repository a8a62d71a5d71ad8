-- For every configuration there is an OPEN that the local system may send, and no such OPEN has a header fault.
use Rattle.std.proofs.Common.{◌≡◌, ◌∙◌, Bool, true, false, ℕ, ◌<◌, ◌≤◌, ◌^◌, List, [], ◌∷◌, ◌++◌, Some, None, IsTrue, length, drop, refl, sym, ap, subst, arith, length-append, length-drop, length-take, inl, inr}
use Rattle.std.specs.Prelude.{if◌then◌else◌}
use Rattle.std.specs.List.{list_any}
use Rattle.std.proofs.lemmas.Bool.{cases_lt, lt-ltb, le-ltb}
use Rattle.std.proofs.lemmas.List.Elements.{All-take, All-drop}
use Rattle.byteorder.specs.Numbers.{big_number-reads_back}
use Rattle.std.proofs.lemmas.Grind.{flat_map-append}
use Rattle.bgp_prefix.specs.declared.family.Family.{Family}
use Rattle.bgp_prefix.specs.declared.family.Family.TheVariants.{V4, V6}
use Rattle.bgp_wire.specs.declared.header.Limit.{Limit}
use Rattle.bgp_wire.specs.AsNumber.{two_octet_as}
use Rattle.bgp_wire.specs.Framing.{IsFrame}
use Rattle.bgp_wire.specs.Message.{message_octets}
use Rattle.bgp_wire.specs.Octets.{AreOctets}
use Rattle.bgp_wire.proofs.EachOctet.{IsOctet, Octets, none, one_more, both, octets-big_bytes, octets-header_octets}
use Rattle.bgp_wire.proofs.GreatestLength.{allows_4096}
use Rattle.bgp_wire.proofs.WholeMessages.{message_is_frame}
use Rattle.bgp_open.specs.declared.config.Config.{Config}
use Rattle.bgp_open.specs.Triplet.{Triplet, triplet_octets, triplets_octets}
use Rattle.bgp_open.specs.declared.route_offer.RouteOffer.{RouteOffer}
use Rattle.bgp_open.specs.Offer.{afi_of, families_of, as_number_of, is_multiprotocol, names_family, offers_extended}
use Rattle.bgp_open.specs.Open.{OpenFields, IsOpen, fixed_fields_of, open_of, parameters_length_of}
use Rattle.bgp_open.specs.OpenFault.{IsWellFormed}
use Rattle.bgp_open.specs.OwnOpen.{IsOwnOpen, multiprotocol_for, as4_for, extended_messages, own_capabilities, own_fields}
use Rattle.bgp_open.specs.OwnOpen.{capabilities_for, path_entry_for, paths_with, next_hops_for}
use Rattle.bgp_open.specs.RouteOffer.{offer_of, route_offer_in}
use Rattle.bgp_open.specs.Written.{FitsOpen, IsTooMany, parameters_with, fixed_octets, open_octets}
use Rattle.bgp_open.proofs.WrittenOpen.{room, written_open, reads_as}

-- the capabilities of a configuration, choice by choice, before those on routes
abbrev chosen : Bool → Bool → Bool → Bool → ℕ → List Triplet → List Triplet
chosen v4 v6 as4 extended number tail =
    ((if v4 then multiprotocol_for V4 ∷ [] else [])
    ++ ((if v6 then multiprotocol_for V6 ∷ [] else [])
    ++ ((if as4 then as4_for number ∷ [] else []) ++ (if extended then extended_messages ∷ [] else [])))) ++ tail

-- capabilities that say nothing of all this
record IsSilent (tail : List Triplet) : Type 0 where
  multiprotocol : list_any is_multiprotocol tail ≡ false
  v4 : list_any (names_family V4) tail ≡ false
  v6 : list_any (names_family V6) tail ≡ false
  number : as_number_of tail ≡ None
  extended : offers_extended tail ≡ false
  short : length (triplets_octets tail) ≤ 18

-- they name the families that were chosen
names_chosen : (v4 v6 as4 extended : Bool) (number : ℕ) (tail : List Triplet) → IsSilent tail → ((¬ IsTrue v4) × (¬ IsTrue v6) → ⊥)
    → families_of (chosen v4 v6 as4 extended number tail) ≡ record { v4 = v4; v6 = v6 }
names_chosen true true true true number tail silent some = refl
names_chosen true true true false number tail silent some = refl
names_chosen true true false true number tail silent some = refl
names_chosen true true false false number tail silent some = refl
names_chosen true false true true number tail silent some = rw silent.v6 refl
names_chosen true false true false number tail silent some = rw silent.v6 refl
names_chosen true false false true number tail silent some = rw silent.v6 refl
names_chosen true false false false number tail silent some = rw silent.v6 refl
names_chosen false true true true number tail silent some = rw silent.v4 refl
names_chosen false true true false number tail silent some = rw silent.v4 refl
names_chosen false true false true number tail silent some = rw silent.v4 refl
names_chosen false true false false number tail silent some = rw silent.v4 refl
names_chosen false false as4 extended number tail silent some = absurd (some (λ h. absurd (cc), λ h. absurd (cc)))

-- they give the AS number where that was chosen
gives_chosen : (v4 v6 as4 extended : Bool) (number : ℕ) (tail : List Triplet) → IsSilent tail → number < 2 ^ 32
    → as_number_of (chosen v4 v6 as4 extended number tail) ≡ (if as4 then Some number else None)
gives_chosen true true true extended number tail silent fits = ap (λ (n : ℕ). Some n) (big_number-reads_back 4 number [] fits)
gives_chosen true true false true number tail silent fits = silent.number
gives_chosen true true false false number tail silent fits = silent.number
gives_chosen true false true extended number tail silent fits = ap (λ (n : ℕ). Some n) (big_number-reads_back 4 number [] fits)
gives_chosen true false false true number tail silent fits = silent.number
gives_chosen true false false false number tail silent fits = silent.number
gives_chosen false true true extended number tail silent fits = ap (λ (n : ℕ). Some n) (big_number-reads_back 4 number [] fits)
gives_chosen false true false true number tail silent fits = silent.number
gives_chosen false true false false number tail silent fits = silent.number
gives_chosen false false true extended number tail silent fits = ap (λ (n : ℕ). Some n) (big_number-reads_back 4 number [] fits)
gives_chosen false false false true number tail silent fits = silent.number
gives_chosen false false false false number tail silent fits = silent.number

-- they offer extended messages where that was chosen
offers_chosen : (v4 v6 as4 extended : Bool) (number : ℕ) (tail : List Triplet) → IsSilent tail → offers_extended (chosen v4 v6 as4 extended number tail) ≡ extended
offers_chosen true true true true number tail silent = refl
offers_chosen true true true false number tail silent = silent.extended
offers_chosen true true false true number tail silent = refl
offers_chosen true true false false number tail silent = silent.extended
offers_chosen true false true true number tail silent = refl
offers_chosen true false true false number tail silent = silent.extended
offers_chosen true false false true number tail silent = refl
offers_chosen true false false false number tail silent = silent.extended
offers_chosen false true true true number tail silent = refl
offers_chosen false true true false number tail silent = silent.extended
offers_chosen false true false true number tail silent = refl
offers_chosen false true false false number tail silent = silent.extended
offers_chosen false false true true number tail silent = refl
offers_chosen false false true false number tail silent = silent.extended
offers_chosen false false false true number tail silent = refl
offers_chosen false false false false number tail silent = silent.extended

-- and about routes nothing that the others don't
adds_nothing : (v4 v6 as4 extended : Bool) (number : ℕ) (tail : List Triplet) → offer_of (chosen v4 v6 as4 extended number tail) ≡ offer_of tail
adds_nothing true true true true number tail = refl
adds_nothing true true true false number tail = refl
adds_nothing true true false true number tail = refl
adds_nothing true true false false number tail = refl
adds_nothing true false true true number tail = refl
adds_nothing true false true false number tail = refl
adds_nothing true false false true number tail = refl
adds_nothing true false false false number tail = refl
adds_nothing false true true true number tail = refl
adds_nothing false true true false number tail = refl
adds_nothing false true false true number tail = refl
adds_nothing false true false false number tail = refl
adds_nothing false false true true number tail = refl
adds_nothing false false true false number tail = refl
adds_nothing false false false true number tail = refl
adds_nothing false false false false number tail = refl

-- there is room for them
few_chosen : (v4 v6 as4 extended : Bool) (number : ℕ) (tail : List Triplet) → length (triplets_octets tail) ≤ 18 → ¬ IsTooMany (chosen v4 v6 as4 extended number tail)
few_chosen true true true true number tail short many = absurd (omega (arith, length-append (triplets_octets (chosen true true true true number tail)) []))
few_chosen true true true false number tail short many = absurd (omega (arith, length-append (triplets_octets (chosen true true true false number tail)) []))
few_chosen true true false true number tail short many = absurd (omega (arith, length-append (triplets_octets (chosen true true false true number tail)) []))
few_chosen true true false false number tail short many = absurd (omega (arith, length-append (triplets_octets (chosen true true false false number tail)) []))
few_chosen true false true true number tail short many = absurd (omega (arith, length-append (triplets_octets (chosen true false true true number tail)) []))
few_chosen true false true false number tail short many = absurd (omega (arith, length-append (triplets_octets (chosen true false true false number tail)) []))
few_chosen true false false true number tail short many = absurd (omega (arith, length-append (triplets_octets (chosen true false false true number tail)) []))
few_chosen true false false false number tail short many = absurd (omega (arith, length-append (triplets_octets (chosen true false false false number tail)) []))
few_chosen false true true true number tail short many = absurd (omega (arith, length-append (triplets_octets (chosen false true true true number tail)) []))
few_chosen false true true false number tail short many = absurd (omega (arith, length-append (triplets_octets (chosen false true true false number tail)) []))
few_chosen false true false true number tail short many = absurd (omega (arith, length-append (triplets_octets (chosen false true false true number tail)) []))
few_chosen false true false false number tail short many = absurd (omega (arith, length-append (triplets_octets (chosen false true false false number tail)) []))
few_chosen false false true true number tail short many = absurd (omega (arith, length-append (triplets_octets (chosen false false true true number tail)) []))
few_chosen false false true false number tail short many = absurd (omega (arith, length-append (triplets_octets (chosen false false true false number tail)) []))
few_chosen false false false true number tail short many = absurd (omega (arith, length-append (triplets_octets (chosen false false false true number tail)) []))
few_chosen false false false false number [] short many = absurd (omega arith)
few_chosen false false false false number (capability ∷ tail) short many = absurd (omega (arith, length-append (triplets_octets (capability ∷ tail)) []))

-- the capabilities on routes, choice by choice: of each family whether several paths are received, and whether sent
abbrev on_routes : Bool → Bool → Bool → Bool → Bool → List Triplet
on_routes r4 s4 r6 s6 hops =
    capabilities_for (record { sends = record { v4 = s4; v6 = s6 }; receives = record { v4 = r4; v6 = r6 }; next_hops = hops })

-- they offer what was chosen
offers_on_routes : (r4 s4 r6 s6 hops : Bool)
    → offer_of (on_routes r4 s4 r6 s6 hops) ≡ record { sends = record { v4 = s4; v6 = s6 }; receives = record { v4 = r4; v6 = r6 }; next_hops = hops }
offers_on_routes true true true true true = refl
offers_on_routes true true true true false = refl
offers_on_routes true true true false true = refl
offers_on_routes true true true false false = refl
offers_on_routes true true false true true = refl
offers_on_routes true true false true false = refl
offers_on_routes true true false false true = refl
offers_on_routes true true false false false = refl
offers_on_routes true false true true true = refl
offers_on_routes true false true true false = refl
offers_on_routes true false true false true = refl
offers_on_routes true false true false false = refl
offers_on_routes true false false true true = refl
offers_on_routes true false false true false = refl
offers_on_routes true false false false true = refl
offers_on_routes true false false false false = refl
offers_on_routes false true true true true = refl
offers_on_routes false true true true false = refl
offers_on_routes false true true false true = refl
offers_on_routes false true true false false = refl
offers_on_routes false true false true true = refl
offers_on_routes false true false true false = refl
offers_on_routes false true false false true = refl
offers_on_routes false true false false false = refl
offers_on_routes false false true true true = refl
offers_on_routes false false true true false = refl
offers_on_routes false false true false true = refl
offers_on_routes false false true false false = refl
offers_on_routes false false false true true = refl
offers_on_routes false false false true false = refl
offers_on_routes false false false false true = refl
offers_on_routes false false false false false = refl

-- and say nothing else
silent_on_routes : (r4 s4 r6 s6 hops : Bool) → IsSilent (on_routes r4 s4 r6 s6 hops)
silent_on_routes true true true true true = record { multiprotocol = refl; v4 = refl; v6 = refl; number = refl; extended = refl; short = omega arith }
silent_on_routes true true true true false = record { multiprotocol = refl; v4 = refl; v6 = refl; number = refl; extended = refl; short = omega arith }
silent_on_routes true true true false true = record { multiprotocol = refl; v4 = refl; v6 = refl; number = refl; extended = refl; short = omega arith }
silent_on_routes true true true false false = record { multiprotocol = refl; v4 = refl; v6 = refl; number = refl; extended = refl; short = omega arith }
silent_on_routes true true false true true = record { multiprotocol = refl; v4 = refl; v6 = refl; number = refl; extended = refl; short = omega arith }
silent_on_routes true true false true false = record { multiprotocol = refl; v4 = refl; v6 = refl; number = refl; extended = refl; short = omega arith }
silent_on_routes true true false false true = record { multiprotocol = refl; v4 = refl; v6 = refl; number = refl; extended = refl; short = omega arith }
silent_on_routes true true false false false = record { multiprotocol = refl; v4 = refl; v6 = refl; number = refl; extended = refl; short = omega arith }
silent_on_routes true false true true true = record { multiprotocol = refl; v4 = refl; v6 = refl; number = refl; extended = refl; short = omega arith }
silent_on_routes true false true true false = record { multiprotocol = refl; v4 = refl; v6 = refl; number = refl; extended = refl; short = omega arith }
silent_on_routes true false true false true = record { multiprotocol = refl; v4 = refl; v6 = refl; number = refl; extended = refl; short = omega arith }
silent_on_routes true false true false false = record { multiprotocol = refl; v4 = refl; v6 = refl; number = refl; extended = refl; short = omega arith }
silent_on_routes true false false true true = record { multiprotocol = refl; v4 = refl; v6 = refl; number = refl; extended = refl; short = omega arith }
silent_on_routes true false false true false = record { multiprotocol = refl; v4 = refl; v6 = refl; number = refl; extended = refl; short = omega arith }
silent_on_routes true false false false true = record { multiprotocol = refl; v4 = refl; v6 = refl; number = refl; extended = refl; short = omega arith }
silent_on_routes true false false false false = record { multiprotocol = refl; v4 = refl; v6 = refl; number = refl; extended = refl; short = omega arith }
silent_on_routes false true true true true = record { multiprotocol = refl; v4 = refl; v6 = refl; number = refl; extended = refl; short = omega arith }
silent_on_routes false true true true false = record { multiprotocol = refl; v4 = refl; v6 = refl; number = refl; extended = refl; short = omega arith }
silent_on_routes false true true false true = record { multiprotocol = refl; v4 = refl; v6 = refl; number = refl; extended = refl; short = omega arith }
silent_on_routes false true true false false = record { multiprotocol = refl; v4 = refl; v6 = refl; number = refl; extended = refl; short = omega arith }
silent_on_routes false true false true true = record { multiprotocol = refl; v4 = refl; v6 = refl; number = refl; extended = refl; short = omega arith }
silent_on_routes false true false true false = record { multiprotocol = refl; v4 = refl; v6 = refl; number = refl; extended = refl; short = omega arith }
silent_on_routes false true false false true = record { multiprotocol = refl; v4 = refl; v6 = refl; number = refl; extended = refl; short = omega arith }
silent_on_routes false true false false false = record { multiprotocol = refl; v4 = refl; v6 = refl; number = refl; extended = refl; short = omega arith }
silent_on_routes false false true true true = record { multiprotocol = refl; v4 = refl; v6 = refl; number = refl; extended = refl; short = omega arith }
silent_on_routes false false true true false = record { multiprotocol = refl; v4 = refl; v6 = refl; number = refl; extended = refl; short = omega arith }
silent_on_routes false false true false true = record { multiprotocol = refl; v4 = refl; v6 = refl; number = refl; extended = refl; short = omega arith }
silent_on_routes false false true false false = record { multiprotocol = refl; v4 = refl; v6 = refl; number = refl; extended = refl; short = omega arith }
silent_on_routes false false false true true = record { multiprotocol = refl; v4 = refl; v6 = refl; number = refl; extended = refl; short = omega arith }
silent_on_routes false false false true false = record { multiprotocol = refl; v4 = refl; v6 = refl; number = refl; extended = refl; short = omega arith }
silent_on_routes false false false false true = record { multiprotocol = refl; v4 = refl; v6 = refl; number = refl; extended = refl; short = omega arith }
silent_on_routes false false false false false = record { multiprotocol = refl; v4 = refl; v6 = refl; number = refl; extended = refl; short = omega arith }

silent : (offers : RouteOffer) → IsSilent (capabilities_for offers)
silent offers = silent_on_routes offers.receives.v4 offers.sends.v4 offers.receives.v6 offers.sends.v6 offers.next_hops

my_as-fits : (number : ℕ) → two_octet_as number < 2 ^ 16
my_as-fits number = elim (cases_lt 65535 number) [
  | inl above ↦ rw (lt-ltb 65535 number above) (omega arith)
  | inr below ↦ rw (le-ltb 65535 number below) (omega arith)
]

-- a configuration's capabilities have room
pub few_own : (config : Config) → ¬ IsTooMany (own_capabilities config)
few_own config =
    few_chosen config.parts.families.v4 config.parts.families.v6 config.parts.as4 config.parts.session.extended config.parts.local_as (capabilities_for config.parts.offers)
    (silent config.parts.offers).short

pub fits_open : (config : Config) → FitsOpen (own_fields config)
fits_open config = record {
  my_as = my_as-fits config.parts.local_as;
  hold = config.fits.hold;
  id = config.fits.local_id;
  capabilities = few_own config;
}

-- what was written of a configuration's fields offers about routes what is configured
pub own_offers : (config : Config) → route_offer_in (open_of (open_octets (own_fields config))) ≡ config.parts.offers
own_offers config =
    let offers = config.parts.offers in
    ap route_offer_in (reads_as (own_fields config) (fits_open config))
    ∙ adds_nothing config.parts.families.v4 config.parts.families.v6 config.parts.as4 config.parts.session.extended config.parts.local_as (capabilities_for config.parts.offers)
    ∙ offers_on_routes offers.receives.v4 offers.sends.v4 offers.receives.v6 offers.sends.v6 offers.next_hops

-- it is an own OPEN
pub own_open : (config : Config) → IsOwnOpen config (open_octets (own_fields config))
own_open config =
    let said = reads_as (own_fields config) (fits_open config) in record {
      form = written_open (own_fields config) (fits_open config);
      my_as = ap (λ (m : OpenFields). m.my_as) said;
      hold = ap (λ (m : OpenFields). m.hold) said;
      id = ap (λ (m : OpenFields). m.id) said;
      families =
          ap (λ (m : OpenFields). families_of m.capabilities) said
          ∙ names_chosen config.parts.families.v4 config.parts.families.v6 config.parts.as4 config.parts.session.extended config.parts.local_as (capabilities_for config.parts.offers) (silent config.parts.offers) config.valid.families;
      as_number =
          ap (λ (m : OpenFields). as_number_of m.capabilities) said
          ∙ gives_chosen config.parts.families.v4 config.parts.families.v6 config.parts.as4 config.parts.session.extended config.parts.local_as (capabilities_for config.parts.offers) (silent config.parts.offers) config.fits.local_as;
      extended =
          ap (λ (m : OpenFields). offers_extended m.capabilities) said
          ∙ offers_chosen config.parts.families.v4 config.parts.families.v6 config.parts.as4 config.parts.session.extended config.parts.local_as (capabilities_for config.parts.offers) (silent config.parts.offers);
      offers = inr (own_offers config);
    }

-- what is written is octets
octets-fixed : (my_as hold id count : ℕ) → count < 256 → Octets (fixed_octets my_as hold id count)
unfolding fixed_octets
octets-fixed my_as hold id count small =
    one_more (omega arith)
    (both (octets-big_bytes 2 my_as)
    (both (octets-big_bytes 2 hold) (both (octets-big_bytes 4 id) (one_more small none))))

-- a triplet whose parts are octets is octets
octets-triplet_octets : (triplet : Triplet) → triplet.code < 256 → length triplet.value < 256 → Octets triplet.value → Octets (triplet_octets triplet)
octets-triplet_octets triplet code count value = one_more code (one_more count value)

octets-multiprotocol : (family : Family) → Octets (triplet_octets (multiprotocol_for family))
octets-multiprotocol V4 =
    octets-triplet_octets (multiprotocol_for V4) (omega arith) (omega arith)
    (both (octets-big_bytes 2 1) (one_more (omega arith) (one_more (omega arith) none)))
octets-multiprotocol V6 =
    octets-triplet_octets (multiprotocol_for V6) (omega arith) (omega arith)
    (both (octets-big_bytes 2 2) (one_more (omega arith) (one_more (omega arith) none)))

octets-as4 : (number : ℕ) → Octets (triplet_octets (as4_for number))
octets-as4 number = octets-triplet_octets (as4_for number) (omega arith) (omega arith) (octets-big_bytes 4 number)

octets_if : (b : Bool) (triplet : Triplet) → Octets (triplet_octets triplet) → Octets (triplets_octets (if b then triplet ∷ [] else []))
octets_if true triplet is = both is none
octets_if false triplet is = none

-- capabilities behind others
octets-joined : (first behind : List Triplet) → Octets (triplets_octets first) → Octets (triplets_octets behind) → Octets (triplets_octets (first ++ behind))
octets-joined first behind one other = subst Octets (sym (flat_map-append triplet_octets first behind)) (both one other)

octets-chosen : (v4 v6 as4 extended : Bool) (number : ℕ) (tail : List Triplet) → Octets (triplets_octets tail) → Octets (triplets_octets (chosen v4 v6 as4 extended number tail))
octets-chosen v4 v6 as4 extended number tail are =
    octets-joined _ tail
    (octets-joined (if v4 then multiprotocol_for V4 ∷ [] else []) _ (octets_if v4 (multiprotocol_for V4) (octets-multiprotocol V4))
    (octets-joined (if v6 then multiprotocol_for V6 ∷ [] else []) _ (octets_if v6 (multiprotocol_for V6) (octets-multiprotocol V6))
    (octets-joined (if as4 then as4_for number ∷ [] else []) _ (octets_if as4 (as4_for number) (octets-as4 number))
    (octets_if extended extended_messages (octets-triplet_octets extended_messages (omega arith) (omega arith) none))))) are

-- the entries of several paths
octets-path_entry : (family : Family) (receives sends : Bool) → Octets (path_entry_for family receives sends)
octets-path_entry family true true = both (octets-big_bytes 2 (afi_of family)) (one_more (omega arith) (one_more (omega arith) none))
octets-path_entry family true false = both (octets-big_bytes 2 (afi_of family)) (one_more (omega arith) (one_more (omega arith) none))
octets-path_entry family false true = both (octets-big_bytes 2 (afi_of family)) (one_more (omega arith) (one_more (omega arith) none))
octets-path_entry family false false = none

length-path_entry : (family : Family) (receives sends : Bool) → length (path_entry_for family receives sends) ≤ 4
length-path_entry family true true = omega arith
length-path_entry family true false = omega arith
length-path_entry family false true = omega arith
length-path_entry family false false = omega arith

octets-paths_with : (octets : List ℕ) → length octets < 256 → Octets octets → Octets (triplets_octets (paths_with octets))
octets-paths_with [] short are = none
octets-paths_with (octet ∷ octets) short are =
    both (octets-triplet_octets (record { code = 69; value = octet ∷ octets }) (omega arith) short are) none

octets-next_hops : Octets (triplet_octets next_hops_for)
octets-next_hops =
    octets-triplet_octets next_hops_for (omega arith) (omega arith)
    (both (octets-big_bytes 2 1) (both (octets-big_bytes 2 1) (both (octets-big_bytes 2 2) none)))

octets-on_routes : (offers : RouteOffer) → Octets (triplets_octets (capabilities_for offers))
octets-on_routes offers =
    let first = path_entry_for V4 offers.receives.v4 offers.sends.v4 in
    let second = path_entry_for V6 offers.receives.v6 offers.sends.v6 in
    octets-joined (paths_with (first ++ second)) (if offers.next_hops then next_hops_for ∷ [] else [])
    (octets-paths_with (first ++ second)
    (omega (arith, length-append first second, length-path_entry V4 offers.receives.v4 offers.sends.v4, length-path_entry V6 offers.receives.v6 offers.sends.v6))
    (both (octets-path_entry V4 offers.receives.v4 offers.sends.v4) (octets-path_entry V6 offers.receives.v6 offers.sends.v6)))
    (octets_if offers.next_hops next_hops_for octets-next_hops)

octets-parameters : (capabilities : List Triplet) → ¬ IsTooMany capabilities → Octets (triplets_octets capabilities)
    → Octets (triplets_octets (parameters_with capabilities))
octets-parameters [] few is = none
octets-parameters (capability ∷ capabilities) few is =
    let parameter : Triplet = record { code = 2; value = triplets_octets (capability ∷ capabilities) } in
    let short : length (triplets_octets (capability ∷ capabilities)) < 256 =
    elim (cases_lt (length (triplets_octets (capability ∷ capabilities))) 256) [
      | inl below ↦ below
      | inr long ↦ absurd (few (omega (arith, length-append (triplet_octets parameter) [])))
    ] in
    both (octets-triplet_octets parameter (omega arith) short is) none

octets-open : (fields : OpenFields) → FitsOpen fields → Octets (triplets_octets fields.capabilities) → Octets (open_octets fields)
unfolding message_octets
octets-open fields fits is =
    let few = room fields fits in
    both (octets-header_octets 1 _ (omega arith))
    (both (octets-fixed fields.my_as fields.hold fields.id _ (omega arith))
    (octets-parameters fields.capabilities fits.capabilities is))

pub octets-own_open : (config : Config) → AreOctets (open_octets (own_fields config))
octets-own_open config =
    (octets-open (own_fields config) (fits_open config)
    (octets-chosen config.parts.families.v4 config.parts.families.v6 config.parts.as4 config.parts.session.extended config.parts.local_as (capabilities_for config.parts.offers) (octets-on_routes config.parts.offers))).are

-- a well-formed OPEN is a frame: its header has no fault
short_parameters : (octets : List ℕ) → AreOctets octets → IsOpen octets → parameters_length_of (fixed_fields_of octets) < 256
unfolding parameters_length_of
short_parameters octets are open_ =
    All-take IsOctet 10 (drop 19 octets) (All-drop IsOctet 19 octets are) 9 0
    (rw (length-take 10 (drop 19 octets)) (let long = open_.fields in omega arith))

pub is_frame : (octets : List ℕ) → AreOctets octets → IsWellFormed octets → (limit : Limit) → IsFrame limit octets
is_frame octets are well limit =
    let message = well.readable.whole.message in
    let fields : 10 ≤ length (drop 19 octets) = well.readable.whole.fields in
    let short = short_parameters octets are well.readable.whole in
    let count : parameters_length_of (fixed_fields_of octets) ≡ length (drop 10 (drop 19 octets)) = well.readable.count in
    let behind = length-drop 10 (drop 19 octets) in
    let body = length-drop 19 octets in
    let room = allows_4096 limit 1 in
    message_is_frame limit 1 octets message (λ bad. bad.0 refl) (λ bad. elim bad [
      | inl few ↦ absurd (omega arith)
      | inr more ↦ elim more [ inl many ↦ absurd (omega arith) | inr keepalive ↦ absurd (omega arith) ]
    ])
