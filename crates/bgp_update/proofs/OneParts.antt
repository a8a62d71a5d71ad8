-- An UPDATE has its parts in one way, or it has none.
use Rattle.std.proofs.Common.{◌≡◌, ◌∙◌, ◌⊎◌, ℕ, suc, ◌+◌, ◌*◌, ◌/◌, ◌%◌, List, [], ◌∷◌, ◌++◌, length, take, drop, slice_index, Option, None, Some, is_some, IsTrue, refl, sym, ap, subst, inl, inr, arith}
use Rattle.std.proofs.lemmas.Bool.{cases_lt}
use Rattle.std.proofs.lemmas.List.{length-take, length-append, take-append-drop}
use Rattle.byteorder.specs.Endian.{big_bytes}
use Rattle.bgp_open.specs.Family.TheVariants.{V4}
use Rattle.bgp_update.specs.declared.destination.Destination.{Destination}
use Rattle.bgp_open.specs.declared.route_form.RouteForm.{RouteForm}
use Rattle.bgp_attr.specs.declared.field.Tail.{Tail}
use Rattle.bgp_attr.specs.Split.{Split, split_of}
use Rattle.bgp_attr.specs.Message.{IsMessage, body_of}
use Rattle.bgp_update.specs.Counted.{IsCounted, LacksCounted}
use Rattle.bgp_update.specs.Parts.{UpdateParts, SpellsParts, LacksParts}
use Rattle.bgp_update.specs.Destinations.{AreDestinations, is_identified}
use Rattle.bgp_update.specs.Sections.{Sections, IsUpdate, IsMalformed}
use Rattle.bgp_update.proofs.OneSplit.{one_split, first, no_second}
use Rattle.bgp_update.proofs.DestinationLists.{reads_destinations, each_list}

-- ---- an UPDATE whose fields aren't lists has no parts

module _ (form : RouteForm) (octets : List ℕ) (s : Sections) (is : IsUpdate octets s) where
  same : (parts : UpdateParts) (spells : SpellsParts form octets parts) → spells.sections ≡ s
  same parts spells = one_split octets spells.sections s spells.update is

  pub no_withdrawn : ((destinations : List Destination) → ¬ AreDestinations (is_identified form V4) V4 s.withdrawn destinations) → LacksParts form octets
  no_withdrawn none parts spells =
      none parts.withdrawn (subst (λ (t : Sections). AreDestinations (is_identified form V4) V4 t.withdrawn parts.withdrawn) (same parts spells) spells.withdrawn)

  pub no_nlri : ((destinations : List Destination) → ¬ AreDestinations (is_identified form V4) V4 s.nlri destinations) → LacksParts form octets
  no_nlri none parts spells =
      none parts.nlri (subst (λ (t : Sections). AreDestinations (is_identified form V4) V4 t.nlri parts.nlri) (same parts spells) spells.nlri)

  -- the tail of the attributes
  tail_of : (parts : UpdateParts) (spells : SpellsParts form octets parts) → (split_of s.attributes).tail ≡ None
  tail_of parts spells =
      subst (λ (t : Sections). (split_of t.attributes).tail ≡ None) (same parts spells) (ap (λ (x : Split). x.tail) spells.attributes)

  pub no_attributes : IsTrue (is_some (split_of s.attributes).tail) → LacksParts form octets
  no_attributes some parts spells = absurd (let none = tail_of parts spells in let false_ = rw none at some in cc)

  pub some_parts : (withdrawn nlri : List Destination) → AreDestinations (is_identified form V4) V4 s.withdrawn withdrawn → AreDestinations (is_identified form V4) V4 s.nlri nlri → (split_of s.attributes).tail ≡ None
      → SpellsParts form octets (record { withdrawn = withdrawn; attributes = (split_of s.attributes).attributes; nlri = nlri })
  some_parts withdrawn nlri w n none = record {
    sections = s;
    update = is;
    withdrawn = w;
    attributes = λ i. record { attributes = (split_of s.attributes).attributes; tail = none i };
    nlri = n;
  }

-- ---- one way

same_destinations : (form : RouteForm) (octets other : List ℕ) (ps qs : List Destination) → octets ≡ other → AreDestinations (is_identified form V4) V4 octets ps → AreDestinations (is_identified form V4) V4 other qs → ps ≡ qs
same_destinations form octets other ps qs e one two =
    let first_ = (reads_destinations (is_identified form V4) V4 octets ps).0 one in
    let second = (reads_destinations (is_identified form V4) V4 octets qs).0 (subst (λ (o : List ℕ). AreDestinations (is_identified form V4) V4 o qs) (sym e) two) in
    let both = sym first_ ∙ second in cc

pub one_parts : (form : RouteForm) (octets : List ℕ) (parts others : UpdateParts) → SpellsParts form octets parts → SpellsParts form octets others → parts ≡ others
one_parts form octets parts others h k =
    let e = one_split octets h.sections k.sections h.update k.update in
    let withdrawn = same_destinations form h.sections.withdrawn k.sections.withdrawn parts.withdrawn others.withdrawn (ap (λ (s : Sections). s.withdrawn) e) h.withdrawn k.withdrawn in
    let nlri = same_destinations form h.sections.nlri k.sections.nlri parts.nlri others.nlri (ap (λ (s : Sections). s.nlri) e) h.nlri k.nlri in
    let attributes : parts.attributes ≡ others.attributes =
    ap (λ (x : Split). x.attributes) (sym h.attributes ∙ ap (λ (s : Sections). split_of s.attributes) e ∙ k.attributes) in
    λ i. record { withdrawn = withdrawn i; attributes = attributes i; nlri = nlri i }

-- ---- or none

each_counted : (octets : List ℕ) → ((field rest : List ℕ) × IsCounted octets field rest) ⊎ LacksCounted octets
each_counted [] = inr (λ field rest is. absurd (let e : 0 ≡ suc (suc (length (field ++ rest))) = ap length is.spelled in omega arith))
each_counted (a ∷ []) = inr (λ field rest is. absurd (let e : 1 ≡ suc (suc (length (field ++ rest))) = ap length is.spelled in omega arith))
each_counted (a ∷ b ∷ octets) = elim (cases_lt a 256) [
  | inr large ↦ inr (λ field rest is. absurd (let e : a ≡ length field / 256 % 256 = ap (λ (xs : List ℕ). slice_index xs 0) is.spelled in omega arith))
  | inl high ↦ elim (cases_lt b 256) [
    | inr large ↦ inr (λ field rest is. absurd (let e : b ≡ length field % 256 = ap (λ (xs : List ℕ). slice_index xs 1) is.spelled in omega arith))
    | inl low ↦ elim (cases_lt (length octets) (256 * a + b)) [
      | inl short ↦ inr (λ field rest is. absurd (
          let e : a ≡ length field / 256 % 256 = ap (λ (xs : List ℕ). slice_index xs 0) is.spelled in
          let f : b ≡ length field % 256 = ap (λ (xs : List ℕ). slice_index xs 1) is.spelled in
          let fits = is.fits in
          let whole : suc (suc (length octets)) ≡ suc (suc (length (field ++ rest))) = ap length is.spelled in
          omega (arith, length-append field rest)))
      | inr enough ↦
          let n = 256 * a + b in
          let len : length (take n octets) ≡ n = omega (arith, length-take n octets) in
          let one : n / 256 % 256 ≡ a = omega arith in
          let two : n % 256 ≡ b = omega arith in
          let again : big_bytes 2 (length (take n octets)) ++ (take n octets ++ drop n octets) ≡ a ∷ b ∷ octets =
          rw (len, one, two) (ap (λ (t : List ℕ). a ∷ b ∷ t) (take-append-drop n octets)) in
          inl (take n octets, drop n octets, record { spelled = sym again; fits = rw len (omega arith) })
    ]
  ]
]

pub each_update : (octets : List ℕ) → IsMessage 2 octets → ((s : Sections) × IsUpdate octets s) ⊎ IsMalformed octets
each_update octets message = elim (each_counted (body_of octets)) [
  | inr lacks ↦ inr (λ s is. lacks s.withdrawn _ (first octets s is))
  | inl one ↦ elim (each_counted one.1) [
    | inr lacks ↦ inr (no_second octets (body_of octets) one.0 one.1 refl one.2 lacks)
    | inl two ↦ inl (
      record { withdrawn = one.0; attributes = two.0; nlri = two.1 },
      record {
        message = message;
        body = one.2.spelled ∙ ap (λ (xs : List ℕ). big_bytes 2 (length one.0) ++ (one.0 ++ xs)) two.2.spelled;
        withdrawn_length = one.2.fits;
        attributes_length = two.2.fits;
      },
    )
  ]
]

-- a tail is there, or none is
by_tail : (tail : Option Tail) → (tail ≡ None) ⊎ IsTrue (is_some tail)
by_tail None = inl refl
by_tail (Some tail) = inr refl

by_fields : (form : RouteForm) (octets : List ℕ) (s : Sections) → IsUpdate octets s → ((parts : UpdateParts) × SpellsParts form octets parts) ⊎ LacksParts form octets
by_fields form octets s is = elim (each_list (is_identified form V4) V4 s.withdrawn) [
  | inr none ↦ inr (no_withdrawn form octets s is none)
  | inl withdrawn ↦ elim (each_list (is_identified form V4) V4 s.nlri) [
    | inr none ↦ inr (no_nlri form octets s is none)
    | inl nlri ↦ elim (by_tail (split_of s.attributes).tail) [
      | inr some ↦ inr (no_attributes form octets s is some)
      | inl none ↦ inl (_, some_parts form octets s is withdrawn.0 nlri.0 withdrawn.1 nlri.1 none)
    ]
  ]
]

pub each_parts : (form : RouteForm) (octets : List ℕ) → IsMessage 2 octets → ((parts : UpdateParts) × SpellsParts form octets parts) ⊎ LacksParts form octets
each_parts form octets message = elim (each_update octets message) [
  | inr malformed ↦ inr (λ parts spells. malformed spells.sections spells.update)
  | inl is ↦ by_fields form octets is.0 is.1
]
