-- What is written for an update is clean, and its one outcome is to apply it.
use Rattle.std.proofs.Common.{◌≡◌, ◌↔◌, ℕ, ◌+◌, ◌≤◌, ◌⊎◌, ◌==◌, ◌&&◌, ◌||◌, not, nat_lt, bit_and, if◌then◌else◌, suc, Bool, true, false, List, [], ◌∷◌, ◌++◌, length, take, drop, All, Option, None, Some, is_some, IsTrue, refl, sym, ap, ap₂, subst, ◌∙◌, arith, inl, inr}
use Rattle.std.specs.List.{flat_map, list_any}
use Rattle.std.proofs.lemmas.Bool.{cases_Bool, cases_lt, le-ltb, eqb-true}
use Rattle.std.proofs.lemmas.List.{append-nil, length-append}
use Rattle.std.proofs.lemmas.List.Elements.{All-nil, All-cons, All-head, All-tail}
use Rattle.std.proofs.Math.Seq.{take-append_seam, drop-append-add}
use Rattle.byteorder.specs.Endian.{big_bytes}
use Rattle.byteorder.specs.Numbers.{big_number-reads_back}
use Rattle.bgp_prefix.specs.declared.family.Family.{Family}
use Rattle.bgp_prefix.specs.declared.family.Family.TheVariants as families
use Rattle.bgp_prefix.specs.Prefix.{PrefixBits, IsPrefix}
use Rattle.bgp_open.specs.declared.link.Link.{Link}
use Rattle.bgp_open.specs.declared.route_form.RouteForm.{RouteForm}
use Rattle.bgp_open.specs.Families.{contains}
use Rattle.bgp_wire.proofs.WrittenMessage.{length-message_octets}
use Rattle.bgp_attr.specs.declared.classes.AttrVerdict.{AttrVerdict}
use Rattle.bgp_attr.specs.declared.classes.AttrVerdict.TheVariants.{Good, Discard, Withdraw, Reset}
use Rattle.bgp_attr.specs.declared.classes.Side.{Side}
use Rattle.bgp_path.specs.declared.path.NextHop.{NextHop}
use Rattle.bgp_path.specs.declared.path.NextHop.TheVariants as hops
use Rattle.bgp_attr.specs.declared.types.AttrType.{AttrType}
use Rattle.bgp_attr.specs.declared.types.AttrType.TheVariants as types
use Rattle.bgp_attr.specs.Class.{class_of}
use Rattle.bgp_attr.specs.Field.{Attribute, IsAttribute, IsAttributeField, length_octets, attribute_octets}
use Rattle.bgp_path.specs.Path.{PathValue}
use Rattle.bgp_attr.specs.First.{first_of, has_repeats, value_among}
use Rattle.bgp_attr.specs.PathFrom.{next_hop_from, path_from}
use Rattle.bgp_attr.specs.ReadBack.{IsForPeer}
use Rattle.bgp_path.specs.Fit.{IsFit, IsFitHop}
use Rattle.bgp_attr.specs.Split.{Split, attributes_of}
use Rattle.bgp_attr.specs.Writing.{flags_for, attribute_with, attribute_in, path_attributes, value_in}
use Rattle.bgp_attr.proofs.FirstOfType.{first_is, all_first, value_counts, read_back, is_writable}
use Rattle.bgp_attr.proofs.OneField.{is_split}
use Rattle.bgp_attr.proofs.WrittenField.{is_a_field, is_attribute, each}
use Rattle.bgp_update.specs.Found.{Found, found_by_form, found_of, side_of, has_class, is_class, is_repeated}
use Rattle.bgp_update.specs.Mp.{Sound, mp_state, has_other_bits}
use Rattle.bgp_update.specs.MpValue.{reach_contents, unreach_contents, next_hop_in}
use Rattle.bgp_update.specs.Changes.{RouteChanges, withdrawals, announcements, routes_with}
use Rattle.bgp_update.specs.Clean.{IsClean, IsCleanBy, most_octets}
use Rattle.bgp_update.specs.Destinations.{destinations_of, is_identified}
use Rattle.bgp_update.specs.Plain.{all_plain}
use Rattle.bgp_update.specs.declared.destination.Destination.{Destination}
use Rattle.bgp_open.specs.Families.{no_families}
use Rattle.bgp_update.specs.Laws.{IsReadAlike}
use Rattle.bgp_update.specs.Outcome.{Outcome, Applied, IsOutcome}
use Rattle.bgp_update.specs.Sections.{Sections, section_octets, IsUpdate}
use Rattle.bgp_update_writer.specs.Update.{UpdateValue, Announces, Withdraws}
use Rattle.bgp_update_writer.specs.Written.{nlri_octets, hop_octets, reach_octets, unreach_octets, written_attributes, written_sections, update_octets}
use Rattle.bgp_update_writer.specs.Refusals.{IsHopOf, IsSendable, IsFamilyUsed}
use Rattle.bgp_update_writer.specs.Applied.{changes_of_update, IsJustApplied, IsFitUpdate, WritesWhatIsApplied}
use Rattle.bgp_update_writer.proofs.WrittenSections.{written_update, length-section_octets}
use Rattle.bgp_update.proofs.OneOutcome.{applied_alone}
use Rattle.bgp_update.proofs.ReadAlike.{depends_on_form}
use Rattle.bgp_wire.specs.Header.{limit_with}
use Rattle.bgp_wire.specs.declared.header.MessageType.{MessageType}
use Rattle.bgp_wire.specs.Framing.{IsFrame}
use Rattle.bgp_wire.proofs.WholeMessages.{message_is_frame, known_type}
use Rattle.bgp_update_writer.proofs.Measured.{fits_length, length_of_update}
use Rattle.bgp_update_writer.proofs.WrittenPrefixes.{written_prefixes, none_written}
use Rattle.bgp_update_writer.proofs.PlainUpdate.{HasMissing, IsRight, IsPlain, IsTidy, clean}

-- ---- what is found in fields that were written

pub found_by : (link : Link) (form : RouteForm) (s : Sections) (w n : List Destination) (attributes : List Attribute)
    → destinations_of (is_identified form families.V4) families.V4 s.withdrawn ≡ Some w → destinations_of (is_identified form families.V4) families.V4 s.nlri ≡ Some n
    → IsAttributeField s.attributes attributes None → found_by_form link form s ≡ found_of link form (Some w) (Some n) attributes None
found_by link form s w n attributes we ne field =
    let split = is_split s.attributes attributes None field in
    let read = ap (λ (t : Split). t.attributes) split in
    let tail = ap (λ (t : Split). t.tail) split in
    rw (we, ne, read, tail) refl

-- ---- classes

-- of class Good, or an MP attribute, which has none
abbrev IsHarmless : Side → Attribute → Type 0
IsHarmless side a = (class_of side a ≡ None) ⊎ (class_of side a ≡ Some Good)

not_class : (v : AttrVerdict) (o : Option AttrVerdict) → is_class v (Some Good) ≡ false → is_class v None ≡ false → (o ≡ None) ⊎ (o ≡ Some Good) → is_class v o ≡ false
not_class v o good none (inl e) = rw e none
not_class v o good none (inr e) = rw e good

none_by : (side : Side) (v : AttrVerdict) → is_class v (Some Good) ≡ false → is_class v None ≡ false → (attributes : List Attribute) → All (IsHarmless side) attributes → has_class side v attributes ≡ false
none_by side v good none [] each = refl
none_by side v good none (a ∷ rest) each =
    rw (not_class v (class_of side a) good none (All-head (IsHarmless side) a rest each), none_by side v good none rest (All-tail (IsHarmless side) a rest each)) refl

none_plain : (side : Side) (attributes : List Attribute) → All (IsHarmless side) attributes
    → list_any (λ a. is_class Withdraw (class_of side a) && not (a.kind == 6) && not (a.kind == 7)) attributes ≡ false
none_plain side [] each = refl
none_plain side (a ∷ rest) each =
    rw (not_class Withdraw (class_of side a) refl refl (All-head (IsHarmless side) a rest each), none_plain side rest (All-tail (IsHarmless side) a rest each)) refl

harmless : (side : Side) (attributes : List Attribute) → All (λ a. class_of side a ≡ Some Good) attributes → All (IsHarmless side) attributes
harmless side [] each = All-nil (IsHarmless side)
harmless side (a ∷ rest) each =
    All-cons (IsHarmless side) a rest (inr (All-head (λ b. class_of side b ≡ Some Good) a rest each)) (harmless side rest (All-tail (λ b. class_of side b ≡ Some Good) a rest each))

some_none : (a : Attribute) → Some a ≡ None → ⊥
some_none a e = absurd cc

once : (kind : ℕ) (attributes : List Attribute) → first_of kind attributes ≡ None → is_repeated kind attributes ≡ false
once kind [] e = refl
once kind (a ∷ rest) e = elim (cases_Bool (a.kind == kind)) [
  | inl same ↦ absurd (some_none a (rw same at e))
  | inr other ↦ rw other (once kind rest (rw other at e))
]

-- ---- a withdrawal in the base field

plain_withdrawal_4 : (link : Link) (form : RouteForm) (ps : List Destination) → IsPlain (found_of link form (Some ps) (Some []) [] None)
plain_withdrawal_4 link form ps = record {
  withdrawn = (ps, refl);
  nlri = ([], refl);
  reach = (inl refl, refl, refl);
  unreach = (inl refl, refl, refl);
  reset = refl;
  withdraw = refl;
  plain = refl;
  tail = refl;
  missing = λ m. elim m [
    | inl some ↦ elim some.1 [ inl nlri ↦ nlri refl | inr state ↦ state refl ]
    | inr some ↦ some.1 refl
  ];
}

-- ---- one MP_UNREACH_NLRI

unreach_sound : (link : Link) (form : RouteForm) (ps : List PrefixBits) → IsTrue link.families.v6
    → destinations_of (is_identified form families.V6) families.V6 (nlri_octets ps) ≡ Some (all_plain ps)
    → mp_state link.families (unreach_contents form) (Some (attribute_with types.MpUnreachNlri (unreach_octets ps))) ≡ Sound families.V6 (record { next_hop = None; destinations = all_plain ps })
unreach_sound link form ps used read = rw (le-ltb (length (unreach_octets ps)) 3 (omega arith), used, read) refl

bits_reach : (n : ℕ) → not (bit_and (flags_for types.MpReachNlri n) 192 == 128) ≡ false
bits_reach n = elim (cases_Bool (nat_lt 255 n)) [ inl e ↦ rw e refl | inr e ↦ rw e refl ]

bits_unreach : (n : ℕ) → not (bit_and (flags_for types.MpUnreachNlri n) 192 == 128) ≡ false
bits_unreach n = elim (cases_Bool (nat_lt 255 n)) [ inl e ↦ rw e refl | inr e ↦ rw e refl ]

-- ---- one MP_REACH_NLRI

hop_back : (ipv6_next_hops : Bool) (hop : NextHop) → IsHopOf families.V6 hop → IsFitHop hop → next_hop_in ipv6_next_hops families.V6 (hop_octets hop) ≡ Some hop
hop_back b (hops.V4 a) of fits = absurd of
hop_back either (hops.V6 a) of fits = ap (λ (n : ℕ). Some (hops.V6 n)) (big_number-reads_back 16 a [] fits)
hop_back either (hops.V6WithLinkLocal a b) of fits =
    ap₂ (λ (n m : ℕ). Some (hops.V6WithLinkLocal n m)) (big_number-reads_back 16 a (big_bytes 16 b) fits.0) (big_number-reads_back 16 b [] fits.1)

five : (n : ℕ) → 5 + n ≡ suc (suc (suc (suc (n + 1))))
five n = omega arith

reach_sound : (link : Link) (form : RouteForm) (hop : NextHop) (ps : List PrefixBits) → IsTrue link.families.v6 → IsHopOf families.V6 hop → IsFitHop hop
    → destinations_of (is_identified form families.V6) families.V6 (nlri_octets ps) ≡ Some (all_plain ps)
    → mp_state link.families (reach_contents form) (Some (attribute_with types.MpReachNlri (reach_octets hop ps))) ≡ Sound families.V6 (record { next_hop = Some hop; destinations = all_plain ps })
reach_sound link form hop ps used of fits read =
    let h = hop_octets hop in
    let value = reach_octets hop ps in
    let rest = 0 ∷ nlri_octets ps in
    let long = length-append h rest in
    let own : take (length h) (h ++ rest) ≡ h = take-append_seam h rest in
    let after : drop (5 + length h) value ≡ nlri_octets ps =
    ap (λ (k : ℕ). drop k value) (five (length h)) ∙ drop-append-add h rest 1 in
    rw (le-ltb (length value) 3 (omega arith), used, le-ltb (length value) (5 + length h) (omega arith), own, hop_back form.ipv6_next_hops hop of fits, after, read) refl

-- ---- without repeats and with Good attributes alone nothing is wrong

or_none : (x y : Bool) → (x || y) ≡ false → (x ≡ false) × (y ≡ false)
or_none true y e = absurd cc
or_none false y e = (refl, e)

once_of : (kind : ℕ) (attributes : List Attribute) → has_repeats attributes ≡ false → is_repeated kind attributes ≡ false
once_of kind [] e = refl
once_of kind (a ∷ rest) e = elim (cases_Bool (a.kind == kind)) [
  | inl same ↦
      let is : a.kind ≡ kind = eqb-true _ _ same in
      rw same (rw is at (or_none (is_some (first_of a.kind rest)) (has_repeats rest) e).0)
  | inr other ↦ rw other (once_of kind rest (or_none (is_some (first_of a.kind rest)) (has_repeats rest) e).1)
]

abbrev IsFor : Link → List Attribute → Type 0
IsFor link attributes = All (IsHarmless (side_of link)) attributes

plain_of : (link : Link) (form : RouteForm) (w n : List Destination) (attributes : List Attribute) (reach unreach : Option Attribute) → first_of 14 attributes ≡ reach → first_of 15 attributes ≡ unreach
    → has_repeats attributes ≡ false → IsFor link attributes
    → IsRight (record { state = mp_state link.families (reach_contents form) reach; other_bits = has_other_bits types.MpReachNlri reach; is_repeated = false })
    → IsRight (record { state = mp_state link.families (unreach_contents form) unreach; other_bits = has_other_bits types.MpUnreachNlri unreach; is_repeated = false })
    → ¬ HasMissing (found_of link form (Some w) (Some n) attributes None) → IsPlain (found_of link form (Some w) (Some n) attributes None)
plain_of link form w n attributes reach unreach re ue e good r u missing =
    let first = all_first attributes e in
    record {
      withdrawn = (w, refl);
      nlri = (n, refl);
      reach = rw (re, once_of 14 attributes e) r;
      unreach = rw (ue, once_of 15 attributes e) u;
      reset = rw first (none_by (side_of link) Reset refl refl attributes good);
      withdraw = rw first (none_by (side_of link) Withdraw refl refl attributes good);
      plain = rw first (none_plain (side_of link) attributes good);
      tail = refl;
      missing = missing;
    }

based : (link : Link) (w n : List Destination) → IsTrue (contains link.families families.V4) ⊎ ((w ≡ []) × (n ≡ []))
    → IsTrue (contains link.families families.V4) ⊎ ((Some w ≡ Some []) × (Some n ≡ Some []))
based link w n (inl used) = inl used
based link w n (inr none) = inr (ap Some none.0, ap Some none.1)

tidy_of : (link : Link) (form : RouteForm) (w n : List Destination) (attributes : List Attribute) → has_repeats attributes ≡ false → IsFor link attributes
    → IsTrue (contains link.families families.V4) ⊎ ((w ≡ []) × (n ≡ [])) → IsTidy link (found_of link form (Some w) (Some n) attributes None)
tidy_of link form w n attributes e good base = record {
  discard = rw (all_first attributes e) (none_by (side_of link) Discard refl refl attributes good);
  repeats = e;
  base = based link w n base;
}

-- ---- one body, one outcome

-- the link over which routes are received as they are sent over this one
abbrev back : Link → Link
back link = record link { received = link.sent }

-- what just that becomes of where it is received, as it is sent
wherever : (link : Link) (octets : List ℕ) (changes : RouteChanges)
    → ((outcome : Outcome) → IsOutcome (back link) octets outcome ↔ (outcome ≡ Applied changes no_families))
    → IsJustApplied link octets changes
wherever link octets changes own receiver alike outcome =
    let there : IsReadAlike (back link) link.sent receiver receiver.received = record { as4 = alike.as4; internal = alike.internal; families = alike.families; form = alike.form } in
    let here : IsReadAlike receiver receiver.received (back link) link.sent = record { as4 = sym alike.as4; internal = sym alike.internal; families = sym alike.families; form = sym alike.form } in (
      λ is. (own outcome).0 (depends_on_form.outcome receiver (back link) octets outcome here is),
      λ same. depends_on_form.outcome (back link) receiver octets outcome there ((own outcome).1 same),
    )

total : (link : Link) (octets : List ℕ) → length octets ≤ most_octets link → (s : Sections) (x : Found) (attributes : List Attribute) (changes : RouteChanges) → IsUpdate octets s
    → found_by_form link link.sent s ≡ x → attributes_of s.attributes ≡ attributes → IsPlain x → IsTidy link x
    → changes ≡ record { remove = withdrawals link x; put = announcements link x attributes }
    → IsClean link octets × IsJustApplied link octets changes
total link octets few s x attributes changes is e a plain tidy same =
    let by : IsCleanBy link (found_by_form link link.sent s) = subst (IsCleanBy link) (sym e) (clean link x plain tidy) in
    let all : changes
    ≡ record { remove = withdrawals link (found_by_form link link.sent s); put = announcements link (found_by_form link link.sent s) (attributes_of s.attributes) } =
    same ∙ sym (λ i. record { remove = withdrawals link (e i); put = announcements link (e i) (a i) }) in (
      (few, s, is, by),
      wherever link octets changes
          (subst (λ (c : RouteChanges). (outcome : Outcome) → IsOutcome (back link) octets outcome ↔ (outcome ≡ Applied c no_families)) (sym all) (applied_alone (back link) octets s is by.alone)),
    )

-- ---- each kind of update

one_long : (t : AttrType) (value : List ℕ) (rest : List Attribute) → length value ≤ length (flat_map attribute_octets (attribute_with t value ∷ rest))
one_long t value rest =
    omega (
      arith,
      length-append (attribute_octets (attribute_with t value)) (flat_map attribute_octets rest),
      length-append (big_bytes (length_octets (flags_for t (length value))) (length value)) value,
    )

-- an UPDATE of one MP_UNREACH_NLRI misses nothing
nothing_missing_6 : (link : Link) (form : RouteForm) (ps : List PrefixBits) → ¬ HasMissing (found_of link form (Some []) (Some []) (attribute_with types.MpUnreachNlri (unreach_octets ps) ∷ []) None)
nothing_missing_6 link form ps m = elim m [
  | inl some ↦ elim some.1 [ inl nlri ↦ nlri refl | inr state ↦ state refl ]
  | inr some ↦ some.1 refl
]

all_octets : (link : Link) (value : UpdateValue) → length (update_octets link value) ≤ most_octets link
    → 19 + length (section_octets (written_sections link value)) ≤ 65535
all_octets link value h = omega (arith, h, fits_length link, length-message_octets 2 (section_octets (written_sections link value)))

field_octets : (link : Link) (value : UpdateValue) → length (update_octets link value) ≤ most_octets link
    → length (flat_map attribute_octets (written_attributes link value)) ≤ 65535
field_octets link value h = omega (arith, all_octets link value h, length-section_octets (written_sections link value))

abbrev none_if : Bool → List Destination
none_if b = if b then [] else []

nothing : (b : Bool) → none_if b ≡ []
nothing true = refl
nothing false = refl

-- prefixes that are written are read back where those of their family aren't identified
read_plainly : (form : RouteForm) (family : Family) (ps : List PrefixBits) → is_identified form family ≡ false → All IsPrefix ps → All (λ p. p.family ≡ family) ps
    → destinations_of (is_identified form family) family (nlri_octets ps) ≡ Some (all_plain ps)
read_plainly form family ps free fits of = rw free (written_prefixes family ps fits of)

withdraw_4 : (link : Link) (ps : List PrefixBits) → All IsPrefix ps → IsTrue link.families.v4 → is_identified link.sent families.V4 ≡ false → All (λ p. p.family ≡ families.V4) ps
    → length (update_octets link (Withdraws families.V4 ps)) ≤ most_octets link
    → IsClean link (update_octets link (Withdraws families.V4 ps)) × IsJustApplied link (update_octets link (Withdraws families.V4 ps)) (record { remove = all_plain ps; put = [] })
withdraw_4 link ps fits used free of small =
    let value = Withdraws families.V4 ps in
    let s = written_sections link value in
    let form = link.sent in
    let x = found_of link form (Some (all_plain ps)) (Some []) [] None in
    let field : IsAttributeField [] [] None = record { rest = []; whole = refl; each = All-nil IsAttribute; last = refl } in
    let e : found_by_form link form s ≡ x = found_by link form s (all_plain ps) [] [] (read_plainly form families.V4 ps free fits of) (none_written (is_identified form families.V4) families.V4) field in
    total link (update_octets link value) small s x [] (record { remove = all_plain ps; put = [] }) (written_update s (all_octets link value small)) e
    (ap (λ (t : Split). t.attributes) (is_split [] [] None field)) (plain_withdrawal_4 link form (all_plain ps))
    (record { discard = refl; repeats = refl; base = inl used })
    (rw (used, append-nil (all_plain ps)) refl)

withdraw_6 : (link : Link) (ps : List PrefixBits) → All IsPrefix ps → IsTrue link.families.v6 → is_identified link.sent families.V6 ≡ false → All (λ p. p.family ≡ families.V6) ps
    → length (update_octets link (Withdraws families.V6 ps)) ≤ most_octets link
    → IsClean link (update_octets link (Withdraws families.V6 ps)) × IsJustApplied link (update_octets link (Withdraws families.V6 ps)) (record { remove = all_plain ps; put = [] })
withdraw_6 link ps fits used free of small =
    let value = Withdraws families.V6 ps in
    let s = written_sections link value in
    let mp = attribute_with types.MpUnreachNlri (unreach_octets ps) in
    let attributes = mp ∷ [] in
    let form = link.sent in
    let x = found_of link form (Some []) (Some []) attributes None in
    let field : IsAttributeField s.attributes attributes None = record {
      rest = [];
      whole = sym (append-nil (flat_map attribute_octets attributes));
      each = All-cons IsAttribute mp [] (is_attribute types.MpUnreachNlri (unreach_octets ps) (omega (arith, field_octets link value small, one_long types.MpUnreachNlri (unreach_octets ps) []))) (All-nil IsAttribute);
      last = refl;
    } in
    let none = none_written (is_identified form families.V4) families.V4 in
    let e : found_by_form link form s ≡ x = found_by link form s [] [] attributes none none field in
    let good : IsFor link attributes = All-cons (IsHarmless (side_of link)) mp [] (inl refl) (All-nil (IsHarmless (side_of link))) in
    let state = unreach_sound link form ps used (read_plainly form families.V6 ps free fits of) in
    let plain : IsPlain x = plain_of link form [] [] attributes None (Some mp) refl refl refl good (inl refl, refl, refl)
    (inr (families.V6, record { next_hop = None; destinations = all_plain ps }, state), bits_unreach (length (unreach_octets ps)), refl) (nothing_missing_6 link form ps) in
    total link (update_octets link value) small s x attributes (record { remove = all_plain ps; put = [] }) (written_update s (all_octets link value small)) e
    (ap (λ (t : Split). t.attributes) (is_split s.attributes attributes None field)) plain
    (tidy_of link form [] [] attributes refl good (inr (refl, refl)))
    (rw (nothing link.families.v4, state) refl)

-- what is written for a path

abbrev P : Link → PathValue → List Attribute
P link path = path_attributes (side_of link) path

path_read : (link : Link) (path : PathValue) → IsFit path → IsForPeer (side_of link) path
    → path_from (side_of link) (value_among (side_of link) (P link path)) path.next_hop ≡ path
path_read link path fits peer = (read_back (side_of link) path fits peer).3

hop_written : (side : Side) (path : PathValue) (hop : NextHop) → path.next_hop ≡ hop → IsHopOf families.V4 hop → IsFitHop hop → next_hop_from (value_in side path types.NextHop) ≡ hop
hop_written side path (hops.V4 a) e of fits = rw e (ap hops.V4 (big_number-reads_back 4 a [] fits))
hop_written side path (hops.V6 a) e of fits = absurd of
hop_written side path (hops.V6WithLinkLocal a b) e of fits = absurd of

hop_read : (link : Link) (path : PathValue) → IsFit path → IsForPeer (side_of link) path → IsHopOf families.V4 path.next_hop
    → next_hop_from (value_among (side_of link) (P link path) types.NextHop) ≡ path.next_hop
hop_read link path fits peer of =
    ap next_hop_from (value_counts (side_of link) path fits peer types.NextHop) ∙ hop_written (side_of link) path path.next_hop refl of fits.next_hop

has_origin : (link : Link) (path : PathValue) → is_some (first_of 1 (P link path)) ≡ true
has_origin link path = ap is_some (first_is (value_in (side_of link) path) types.Origin)

has_as_path : (link : Link) (path : PathValue) → is_some (first_of 2 (P link path)) ≡ true
has_as_path link path = ap is_some (first_is (value_in (side_of link) path) types.AsPath)

hop_there : (side : Side) (path : PathValue) (hop : NextHop) → path.next_hop ≡ hop → IsHopOf families.V4 hop → is_some (attribute_in side path types.NextHop) ≡ true
hop_there side path (hops.V4 a) e of = rw e refl
hop_there side path (hops.V6 a) e of = absurd of
hop_there side path (hops.V6WithLinkLocal a b) e of = absurd of

has_hop : (link : Link) (path : PathValue) → IsHopOf families.V4 path.next_hop → is_some (first_of 3 (P link path)) ≡ true
has_hop link path of = ap is_some (first_is (value_in (side_of link) path) types.NextHop) ∙ hop_there (side_of link) path path.next_hop refl of

nothing_missing : (link : Link) (form : RouteForm) (ps : List Destination) (path : PathValue) → IsHopOf families.V4 path.next_hop → ¬ HasMissing (found_of link form (Some []) (Some ps) (P link path) None)
nothing_missing link form ps path of m = elim m [
  | inl some ↦ elim some.0 [ inl origin ↦ origin (has_origin link path) | inr as_path ↦ as_path (has_as_path link path) ]
  | inr some ↦ some.0 (has_hop link path of)
]

announce_4 : (link : Link) (ps : List PrefixBits) (path : PathValue) → All IsPrefix ps → IsFit path → IsTrue link.families.v4 → is_identified link.sent families.V4 ≡ false → All (λ p. p.family ≡ families.V4) ps
    → IsHopOf families.V4 path.next_hop → IsForPeer (side_of link) path → length (update_octets link (Announces families.V4 ps path)) ≤ most_octets link
    → IsClean link (update_octets link (Announces families.V4 ps path))
    × IsJustApplied link (update_octets link (Announces families.V4 ps path)) (record { remove = []; put = routes_with path (all_plain ps) })
announce_4 link ps path prefixes fits used free of hop peer small =
    let value = Announces families.V4 ps path in
    let s = written_sections link value in
    let attributes = P link path in
    let form = link.sent in
    let x = found_of link form (Some []) (Some (all_plain ps)) attributes None in
    let read = read_back (side_of link) path fits peer in
    let field : IsAttributeField s.attributes attributes None = is_a_field (side_of link) path (is_writable (side_of link) path (omega (arith, field_octets link value small))) in
    let e : found_by_form link form s ≡ x = found_by link form s [] (all_plain ps) attributes (none_written (is_identified form families.V4) families.V4) (read_plainly form families.V4 ps free prefixes of) field in
    let reach = first_is (value_in (side_of link) path) types.MpReachNlri in
    let unreach = first_is (value_in (side_of link) path) types.MpUnreachNlri in
    let plain : IsPlain x = plain_of link form [] (all_plain ps) attributes None None reach unreach read.1 (harmless (side_of link) attributes read.0) (inl refl, refl, refl) (inl refl, refl, refl) (nothing_missing link form (all_plain ps) path hop) in
    total link (update_octets link value) small s x attributes (record { remove = []; put = routes_with path (all_plain ps) }) (written_update s (all_octets link value small)) e
    (ap (λ (t : Split). t.attributes) (is_split s.attributes attributes None field)) plain
    (tidy_of link form [] (all_plain ps) attributes read.1 (harmless (side_of link) attributes read.0) (inl used))
    (rw (used, reach, unreach, hop_read link path fits peer hop, path_read link path fits peer, append-nil (routes_with path (all_plain ps))) refl)

nothing_missing_v6 : (link : Link) (form : RouteForm) (mp : Attribute) (path : PathValue) → mp.kind ≡ 14 → ¬ HasMissing (found_of link form (Some []) (Some []) (mp ∷ P link path) None)
nothing_missing_v6 link form mp path is m = elim m [
  | inl some ↦ elim some.0 [
    | inl origin ↦ origin (rw is (has_origin link path))
    | inr as_path ↦ as_path (rw is (has_as_path link path))
  ]
  | inr some ↦ some.1 refl
]

announce_6 : (link : Link) (ps : List PrefixBits) (path : PathValue) → All IsPrefix ps → IsFit path → IsTrue link.families.v6 → is_identified link.sent families.V6 ≡ false → All (λ p. p.family ≡ families.V6) ps
    → IsHopOf families.V6 path.next_hop → IsForPeer (side_of link) path → length (update_octets link (Announces families.V6 ps path)) ≤ most_octets link
    → IsClean link (update_octets link (Announces families.V6 ps path))
    × IsJustApplied link (update_octets link (Announces families.V6 ps path)) (record { remove = []; put = routes_with path (all_plain ps) })
announce_6 link ps path prefixes fits used free of hop peer small =
    let value = Announces families.V6 ps path in
    let s = written_sections link value in
    let mp_value = reach_octets path.next_hop ps in
    let mp = attribute_with types.MpReachNlri mp_value in
    let others = P link path in
    let attributes = mp ∷ others in
    let form = link.sent in
    let x = found_of link form (Some []) (Some []) attributes None in
    let read = read_back (side_of link) path fits peer in
    let writable = is_writable (side_of link) path (omega (arith, field_octets link value small, length-append (attribute_octets mp) (flat_map attribute_octets others))) in
    let field : IsAttributeField s.attributes attributes None = record {
      rest = [];
      whole = sym (append-nil (flat_map attribute_octets attributes));
      each = All-cons IsAttribute mp others (is_attribute types.MpReachNlri mp_value (omega (arith, field_octets link value small, one_long types.MpReachNlri mp_value others))) (is_a_field (side_of link) path writable).each;
      last = refl;
    } in
    let none = none_written (is_identified form families.V4) families.V4 in
    let e : found_by_form link form s ≡ x = found_by link form s [] [] attributes none none field in
    let good : IsFor link attributes = All-cons (IsHarmless (side_of link)) mp others (inl refl) (harmless (side_of link) others read.0) in
    let reach = first_is (value_in (side_of link) path) types.MpReachNlri in
    let unreach = first_is (value_in (side_of link) path) types.MpUnreachNlri in
    let repeats : has_repeats attributes ≡ false = rw (reach, read.1) refl in
    let state = reach_sound link form path.next_hop ps used hop fits.next_hop (read_plainly form families.V6 ps free prefixes of) in
    let plain : IsPlain x = plain_of link form [] [] attributes (Some mp) None refl unreach repeats good
    (inr (families.V6, record { next_hop = Some path.next_hop; destinations = all_plain ps }, state), bits_reach (length mp_value), refl) (inl refl, refl, refl)
    (nothing_missing_v6 link form mp path refl) in
    total link (update_octets link value) small s x attributes (record { remove = []; put = routes_with path (all_plain ps) }) (written_update s (all_octets link value small)) e
    (ap (λ (t : Split). t.attributes) (is_split s.attributes attributes None field)) plain
    (tidy_of link form [] [] attributes repeats good (inr (refl, refl)))
    (rw (nothing link.families.v4, unreach, state, path_read link path fits peer) refl)

-- ---- each update

framed : (link : Link) (value : UpdateValue) → length (update_octets link value) ≤ most_octets link
    → IsFrame (limit_with link.extended) (update_octets link value)
framed link value small =
    let s = written_sections link value in
    let message = (written_update s (all_octets link value small)).message in
    message_is_frame (limit_with link.extended) 2 (update_octets link value) message (known_type MessageType.Update) (λ bad. elim bad [
      | inl few ↦ absurd (omega (arith, few, length_of_update link value))
      | inr more ↦ elim more [ inl many ↦ absurd (omega (arith, many, small)) | inr other ↦ absurd (omega (arith, other.0)) ]
    ])

is_false : (b : Bool) → ¬ IsTrue b → b ≡ false
is_false true h = absurd (h refl)
is_false false h = refl

free_of : (link : Link) (family : Family) → ¬ IsTrue (contains link.sent.identified family) → is_identified link.sent family ≡ false
free_of link family not = is_false (contains link.sent.identified family) not

each_applied : (link : Link) (value : UpdateValue) → IsFitUpdate value → IsFamilyUsed link value → IsSendable link value → length (update_octets link value) ≤ most_octets link
    → IsClean link (update_octets link value) × IsJustApplied link (update_octets link value) (changes_of_update value)
each_applied link (Announces families.V4 ps path) fits used sendable small = announce_4 link ps path fits.0 fits.1 used (free_of link families.V4 sendable.0) sendable.1.0 sendable.1.1 sendable.1.2 small
each_applied link (Announces families.V6 ps path) fits used sendable small = announce_6 link ps path fits.0 fits.1 used (free_of link families.V6 sendable.0) sendable.1.0 sendable.1.1 sendable.1.2 small
each_applied link (Withdraws families.V4 ps) fits used sendable small = withdraw_4 link ps fits used (free_of link families.V4 sendable.0) sendable.1 small
each_applied link (Withdraws families.V6 ps) fits used sendable small = withdraw_6 link ps fits used (free_of link families.V6 sendable.0) sendable.1 small

pub written_applied : WritesWhatIsApplied
written_applied link value fits used sendable small =
    let few : length (update_octets link value) ≤ most_octets link = elim (cases_lt (most_octets link) (length (update_octets link value))) [ inl large ↦ absurd (small large) | inr few ↦ few ] in
    let both = each_applied link value fits used sendable few in
    (both.0, both.1, framed link value few)
