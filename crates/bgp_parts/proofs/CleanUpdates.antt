-- An UPDATE has no part exactly where it is clean, and not longer than the link allows.
use Rattle.std.proofs.Common.{nat_lt, ◌≡◌, ◌≢◌, ◌≤◌, ◌<◌, ◌↔◌, ◌⊎◌, ◌==◌, ◌||◌, ◌&&◌, ◌++◌, ℕ, Bool, true, false, not, IsTrue, List, [], ◌∷◌, length, find, Option, None, Some, is_some, eqb, if◌then◌else◌, refl, sym, ap, subst, ◌∙◌, inl, inr}
use Rattle.std.specs.Prelude.{IfSome, is_none}
use Rattle.std.specs.List.{list_any}
use Rattle.std.proofs.lemmas.Bool.{cases_Bool, cases_lt, eqb-true}
use Rattle.byteorder.specs.Endian.{big_bytes}
use Rattle.bgp_prefix.specs.declared.family.Family.{Family}
use Rattle.bgp_prefix.specs.declared.family.Family.TheVariants.{V4}
use Rattle.bgp_wire.specs.Framing.{IsFrame}
use Rattle.bgp_wire.specs.Header.{header_of, greatest_length, limit_with, length_of}
use Rattle.bgp_open.specs.declared.link.Link.{Link}
use Rattle.bgp_open.specs.declared.route_form.RouteForm.{RouteForm}
use Rattle.bgp_open.specs.Families.{contains}
use Rattle.bgp_attr.specs.declared.classes.AttrVerdict.{AttrVerdict}
use Rattle.bgp_attr.specs.declared.classes.AttrVerdict.TheVariants.{Good, Discard, Withdraw, Reset}
use Rattle.bgp_attr.specs.declared.classes.Side.{Side}
use Rattle.bgp_attr.specs.declared.field.Tail.{Tail}
use Rattle.bgp_attr.specs.declared.field.Tail.TheVariants as tails
use Rattle.bgp_attr.specs.declared.types.AttrType.{AttrType}
use Rattle.bgp_attr.specs.declared.types.AttrType.TheVariants as types
use Rattle.bgp_attr.specs.Class.{class_by, class_of}
use Rattle.bgp_attr.specs.Field.{Attribute}
use Rattle.bgp_attr.specs.First.{first_by_type, first_of, firsts, has_repeats}
use Rattle.bgp_attr.specs.Split.{attributes_of, rest_of, tail_at}
use Rattle.bgp_attr.specs.Types.{all_types, type_of, type_number, has_bits_of, is_multiprotocol}
use Rattle.bgp_attr.proofs.GoodRows.{type_back}
use Rattle.bgp_update.specs.Clean.{IsClean, IsCleanBy, most_octets}
use Rattle.bgp_update.specs.Found.{found_by_form, mp_found, side_of, is_class}
use Rattle.bgp_update.specs.Mp.{Mp, Absent, Cut, Other, Unused, Broken, Sound, mp_state, in_family, with_contents, has_other_bits}
use Rattle.bgp_update.specs.MpValue.{Contents, family_in, reach_contents, unreach_contents}
use Rattle.bgp_update.specs.Sections.{Sections, IsUpdate}
use Rattle.bgp_update.specs.WithdrawFaults.{IsEmptyNlri}
use Rattle.bgp_update.proofs.OneSplit.{one_split}
use Rattle.bgp_update.specs.Destinations.{is_identified}
use Rattle.bgp_update.proofs.DestinationLists.{no_destinations}
use Rattle.bgp_update.proofs.Seen.{single}
use Rattle.bgp_parts.specs.AttributeFaults.{faults_with, first_faults, fault_if, mp_contents, mp_faults, state_fault, state_in}
use Rattle.bgp_parts.specs.UpdateParts.{Part, WithdrawnMalformed, NlriMalformed, Missing, BaseNotInUse, part_if, attribute_parts, tail_parts, is_filled, base_list, has_destinations, missing_parts, base_parts, section_parts, AreUpdateParts, CleanLacksNothing}
use Rattle.bgp_parts.specs.declared.attribute.AttributeFault.{AttributeFault}
use Rattle.bgp_parts.specs.declared.attribute.AttributeFault.TheVariants.{Flags}
use Rattle.bgp_parts.proofs.FineUpdates.{IsFineMp, IsFine, clean_if_fine, fine_if_clean}
use Rattle.bgp_parts.proofs.QuietAttributes.{AreFine, AreFirst, front_nil, back_nil, fine_if_quiet, quiet_if_fine, firsts_are_all, each_is_first, first_is_fine, none_of}

both : true ≡ false → ⊥
both e = absurd cc

not_not : (b : Bool) → not b ≡ false → b ≡ true
not_not true e = refl
not_not false e = absurd cc

not_part : (b : Bool) (part : Part) → part_if b part ≡ [] → b ≡ false
not_part true part e = absurd cc
not_part false part e = refl

no_part : (b : Bool) (part : Part) → b ≡ false → part_if b part ≡ []
no_part b part e = rw e refl

-- ---- one attribute, by its class

record IsFineClass (c : Option AttrVerdict) : Type 0 where
  reset : is_class Reset c ≡ false
  withdraw : is_class Withdraw c ≡ false
  discard : is_class Discard c ≡ false

fine_class : (link : Link) (form : RouteForm) (t : Option AttrType) (a : Attribute) (c : Option AttrVerdict) → faults_with link form t a c ≡ [] → IsFineClass c
fine_class link form t a None e = record { reset = refl; withdraw = refl; discard = refl }
fine_class link form t a (Some Good) e = record { reset = refl; withdraw = refl; discard = refl }
fine_class link form t a (Some Discard) e = absurd cc
fine_class link form t a (Some Withdraw) e = absurd cc
fine_class link form t a (Some Reset) e = absurd cc

no_faults : (link : Link) (form : RouteForm) (t : Option AttrType) (a : Attribute) (c : Option AttrVerdict) → IsFineClass c
    → (c ≡ None → mp_faults link.families form t a ≡ []) → faults_with link form t a c ≡ []
no_faults link form t a None fine mp = mp refl
no_faults link form t a (Some Good) fine mp = refl
no_faults link form t a (Some Discard) fine mp = absurd (both fine.discard)
no_faults link form t a (Some Withdraw) fine mp = absurd (both fine.withdraw)
no_faults link form t a (Some Reset) fine mp = absurd (both fine.reset)

-- ---- one MP attribute

record IsQuiet (state : Mp) : Type 0 where
  cut : state ≢ Cut
  unused : (family : Family) → state ≢ Unused family
  broken : (family : Family) → state ≢ Broken family

quiet_state : (state : Mp) → fault_if (state_fault state) ≡ [] → IsQuiet state
quiet_state Absent e = record { cut = λ is. absurd cc; unused = λ family is. absurd cc; broken = λ family is. absurd cc }
quiet_state Cut e = absurd cc
quiet_state Other e = record { cut = λ is. absurd cc; unused = λ family is. absurd cc; broken = λ family is. absurd cc }
quiet_state (Unused other) e = absurd cc
quiet_state (Broken other) e = absurd cc
quiet_state (Sound other contents) e = record { cut = λ is. absurd cc; unused = λ family is. absurd cc; broken = λ family is. absurd cc }

no_state_fault : (state : Mp) → state ≢ Cut → ((family : Family) → state ≢ Unused family) → ((family : Family) → state ≢ Broken family)
    → fault_if (state_fault state) ≡ []
no_state_fault Absent cut unused broken = refl
no_state_fault Cut cut unused broken = absurd (cut refl)
no_state_fault Other cut unused broken = refl
no_state_fault (Unused family) cut unused broken = absurd (unused family refl)
no_state_fault (Broken family) cut unused broken = absurd (broken family refl)
no_state_fault (Sound family contents) cut unused broken = refl

record HasNoFault (has_bits : Bool) (state : Mp) : Type 0 where
  bits : has_bits ≡ true
  quiet : IsQuiet state

abbrev flag : Bool → List AttributeFault
flag has_bits = if has_bits then [] else Flags ∷ []

no_fault : (has_bits : Bool) (state : Mp)
    → (flag has_bits ++ fault_if (state_fault state)) ≡ [] → HasNoFault has_bits state
no_fault true state e = record { bits = refl; quiet = quiet_state state e }
no_fault false state e = absurd cc

-- the first MP attribute of a type
fine_mp : (link : Link) (form : RouteForm) (t : AttrType) (once : Bool) (first : Option Attribute) → is_multiprotocol t ≡ true
    → IfSome first (λ a. (first_faults link form a ≡ []) × (a.kind ≡ type_number t))
    → IsFineMp (record { state = mp_state link.families (mp_contents form t) first; other_bits = has_other_bits t first; is_repeated = once })
fine_mp link form t once None mp is = record { bits = refl; cut = λ e. absurd cc; unused = λ family e. absurd cc; broken = λ family e. absurd cc }
fine_mp link form t once (Some a) mp (fine, kind) =
    let known : type_of a.kind ≡ Some t = ap type_of kind ∙ type_back t in
    let class : class_by (side_of link) a (Some t) ≡ None = rw mp refl in
    let faults : mp_faults link.families form (Some t) a ≡ [] =
    sym (ap (λ (k : Option AttrType). faults_with link form k a (class_by (side_of link) a k)) known
    ∙ ap (faults_with link form (Some t) a) class) ∙ fine in
    let none = no_fault (has_bits_of a.flags t) (state_in link.families form t a) faults in
    record { bits = rw none.bits refl; cut = none.quiet.cut; unused = none.quiet.unused; broken = none.quiet.broken }

-- and the other way
mp_is_fine : (link : Link) (form : RouteForm) (t : AttrType) (a : Attribute) (all : List Attribute) → first_of (type_number t) all ≡ Some a
    → IsFineMp (mp_found link (mp_contents form t) t all) → mp_faults link.families form (Some t) a ≡ []
mp_is_fine link form t a all first fine =
    let state : mp_state link.families (mp_contents form t) (first_of (type_number t) all) ≡ state_in link.families form t a =
    ap (mp_state link.families (mp_contents form t)) first in
    let bits : not (has_bits_of a.flags t) ≡ false = sym (ap (has_other_bits t) first) ∙ fine.bits in
    let has : has_bits_of a.flags t ≡ true = not_not (has_bits_of a.flags t) bits in
    rw has (no_state_fault (state_in link.families form t a) (λ is. fine.cut (state ∙ is)) (λ family is. fine.unused family (state ∙ is))
    (λ family is. fine.broken family (state ∙ is)))

found_holds : (P : AttrType → Bool) (ts : List AttrType) (t : AttrType) → find P ts ≡ Some t → P t ≡ true
found_holds P [] t e = absurd cc
found_holds P (other ∷ ts) t e = elim (cases_Bool (P other)) [
  | inl holds ↦
      let here : Some other ≡ Some t = rw holds at e in
      let same : other ≡ t = cc in
      ap P (sym same) ∙ holds
  | inr not ↦ found_holds P ts t (rw not at e)
]

pub of_type : (number : ℕ) (t : AttrType) → type_of number ≡ Some t → number ≡ type_number t
of_type number t e = eqb-true number (type_number t) (found_holds (λ s. number == type_number s) all_types t e)

-- MP attributes alone have no class
mp_alone : (side : Side) (a : Attribute) (t : AttrType) → class_by side a (Some t) ≡ None → is_multiprotocol t ≡ true
mp_alone side a t none = elim (cases_Bool (is_multiprotocol t)) [
  | inl mp ↦ mp
  | inr other ↦ absurd (let some = rw other at none in cc)
]

some_type : (t s : AttrType) → Some t ≡ Some s → t ≡ s
some_type t s e = cc

by_number : (t s : AttrType) → type_number t ≡ type_number s → t ≡ s
by_number t s e = some_type t s (sym (type_back t) ∙ ap type_of e ∙ type_back s)

pub or_cases : (a b : Bool) → (a || b) ≡ true → (a ≡ true) ⊎ (b ≡ true)
or_cases true b e = inl refl
or_cases false b e = inr e

pub mp_number : (t : AttrType) → is_multiprotocol t ≡ true → (t ≡ types.MpReachNlri) ⊎ (t ≡ types.MpUnreachNlri)
mp_number t mp = elim (or_cases (type_number t == 14) _ mp) [
  | inl reach ↦ inl (by_number t types.MpReachNlri (eqb-true (type_number t) 14 reach))
  | inr more ↦ elim (or_cases (type_number t == 15) _ more) [
    | inl unreach ↦ inr (by_number t types.MpUnreachNlri (eqb-true (type_number t) 15 unreach))
    | inr none ↦ absurd (both (sym none))
  ]
]

-- ---- all attributes

record AreFineMp (link : Link) (form : RouteForm) (all : List Attribute) : Type 0 where
  reach : IsFineMp (mp_found link (reach_contents form) types.MpReachNlri all)
  unreach : IsFineMp (mp_found link (unreach_contents form) types.MpUnreachNlri all)

fine_of : (link : Link) (form : RouteForm) (t : AttrType) (all : List Attribute) → is_multiprotocol t ≡ true → AreFineMp link form all
    → IsFineMp (mp_found link (mp_contents form t) t all)
fine_of link form t all mp fine = elim (mp_number t mp) [
  | inl reach ↦ subst (λ (s : AttrType). IsFineMp (mp_found link (mp_contents form s) s all)) (sym reach) fine.reach
  | inr unreach ↦ subst (λ (s : AttrType). IsFineMp (mp_found link (mp_contents form s) s all)) (sym unreach) fine.unreach
]

no_mp_fault : (link : Link) (form : RouteForm) (a : Attribute) (all : List Attribute) (known : Option AttrType) → type_of a.kind ≡ known
    → first_of a.kind all ≡ Some a → AreFineMp link form all → class_by (side_of link) a known ≡ None → mp_faults link.families form known a ≡ []
no_mp_fault link form a all None is first fine class = refl
no_mp_fault link form a all (Some t) is first fine class =
    let mp = mp_alone (side_of link) a t class in
    mp_is_fine link form t a all (ap (λ (k : ℕ). first_of k all) (sym (of_type a.kind t is)) ∙ first) (fine_of link form t all mp fine)

or_false : (a b : Bool) → (a || b) ≡ false → (a ≡ false) × (b ≡ false)
or_false true b h = absurd cc
or_false false b h = (refl, h)

abbrev has : Side → AttrVerdict → List Attribute → Bool
has side verdict attributes = list_any (λ a. is_class verdict (class_of side a)) attributes

all_fine : (link : Link) (form : RouteForm) (all xs : List Attribute) → AreFirst all xs → AreFineMp link form all
    → has (side_of link) Reset xs ≡ false → has (side_of link) Withdraw xs ≡ false → has (side_of link) Discard xs ≡ false
    → AreFine link form xs
all_fine link form all [] first fine r w d = tt
all_fine link form all (a ∷ rest) first fine r w d =
    let no_r = or_false _ (has (side_of link) Reset rest) r in
    let no_w = or_false _ (has (side_of link) Withdraw rest) w in
    let no_d = or_false _ (has (side_of link) Discard rest) d in (
      no_faults link form (type_of a.kind) a (class_of (side_of link) a)
          (record { reset = no_r.0; withdraw = no_w.0; discard = no_d.0 })
          (λ none. no_mp_fault link form a all (type_of a.kind) refl first.0 fine none),
      all_fine link form all rest first.1 fine no_r.1 no_w.1 no_d.1,
    )

-- ---- the other parts

quiet_tail : (tail : Option Tail) → tail_parts tail ≡ [] → tail ≡ None
quiet_tail None e = refl
quiet_tail (Some tails.ShortHeader) e = absurd cc
quiet_tail (Some (tails.Overrun kind)) e = absurd cc

pub filled : (form : RouteForm) (field : List ℕ) → is_filled field ≡ true → base_list form field ≢ Some []
filled form field e none = both (sym e ∙ ap not ((no_destinations (is_identified form V4) V4 field (eqb (length field) 0) refl).1 none))

not_filled : (form : RouteForm) (field : List ℕ) → is_filled field ≡ false → base_list form field ≡ Some []
not_filled form field e = (no_destinations (is_identified form V4) V4 field (eqb (length field) 0) refl).0 (not_not (eqb (length field) 0) e)

pub present : (link : Link) (read : Family → List ℕ → Option Contents) (first : Option Attribute) → is_some first ≡ true → mp_state link.families read first ≢ Absent
present link read None some is = absurd cc
present link read (Some a) some is = elim (cases_Bool (nat_lt (length a.value) 3)) [
  | inl short ↦ absurd (let cut = rw short at is in cc)
  | inr long ↦ in_some (family_in a.value) (rw long at is)
]
  where
    with_some : (family : Family) (contents : Option Contents) → with_contents family contents ≡ Absent → ⊥
    with_some family None e = absurd cc
    with_some family (Some contents) e = absurd cc

    in_some : (family : Option Family) → in_family link.families read a.value family ≡ Absent → ⊥
    in_some None e = absurd cc
    in_some (Some family) e = elim (cases_Bool (contains link.families family)) [
      | inl used ↦ with_some family (read family a.value) (rw used at e)
      | inr unused ↦ absurd (let not = rw unused at e in cc)
    ]

absent : (link : Link) (form : RouteForm) (first : Option Attribute) → is_some first ≡ false → mp_state link.families (reach_contents form) first ≡ Absent
absent link form None none = refl
absent link form (Some a) none = absurd cc

-- the bits of an attribute that isn't there aren't in conflict
no_bits : (link : Link) (t : AttrType) (read : Family → List ℕ → Option Contents) (first : Option Attribute)
    → mp_state link.families read first ≡ Absent → has_other_bits t first ≡ false
no_bits link t read None is = refl
no_bits link t read (Some a) is = absurd (present link read (Some a) refl is)

-- an attribute that isn't there is mandatory, since something is announced
lacking : (there filled reach : Bool) → (not there && (filled || not (not reach))) ≡ false → (¬ IsTrue there)
    → (filled ≡ true) ⊎ (reach ≡ true) → ⊥
lacking true filled reach e not_there announced = absurd (not_there refl)
lacking false true reach e not_there announced = absurd cc
lacking false false true e not_there announced = absurd cc
lacking false false false e not_there announced = elim announced [ inl f ↦ both (sym f) | inr r ↦ both (sym r) ]

not_lacking : (there filled reach : Bool) → ((¬ IsTrue there) → (filled ≡ true) ⊎ (reach ≡ true) → ⊥)
    → (not there && (filled || not (not reach))) ≡ false
not_lacking true filled reach never = refl
not_lacking false true reach never = absurd (never (λ e. absurd cc) (inl refl))
not_lacking false false true never = absurd (never (λ e. absurd cc) (inr refl))
not_lacking false false false never = refl

hopless : (there filled : Bool) → (not there && filled) ≡ false → (¬ IsTrue there) → filled ≡ true → ⊥
hopless true filled e not_there f = absurd (not_there refl)
hopless false filled e not_there f = both (sym f ∙ e)

not_hopless : (there filled : Bool) → ((¬ IsTrue there) → filled ≡ true → ⊥) → (not there && filled) ≡ false
not_hopless true filled never = refl
not_hopless false true never = absurd (never (λ e. absurd cc) refl)
not_hopless false false never = refl

in_use : (v4 w w_is n n_is : Bool) → w_is ≡ true → n_is ≡ true → (not v4 && ((w && w_is) || (n && n_is))) ≡ false
    → (v4 ≡ true) ⊎ ((w ≡ false) × (n ≡ false))
in_use true w w_is n n_is sure also e = inl refl
in_use false true true n n_is sure also e = absurd cc
in_use false true false n n_is sure also e = absurd cc
in_use false false w_is true true sure also e = absurd cc
in_use false false w_is true false sure also e = absurd cc
in_use false false w_is false n_is sure also e = inr (refl, refl)

no_destination : (filled is : Bool) → filled ≡ false → (filled && is) ≡ false
no_destination filled is e = rw e refl

not_unused : (v4 withdrawn nlri : Bool) → (v4 ≡ true) ⊎ ((withdrawn ≡ false) × (nlri ≡ false)) → (not v4 && (withdrawn || nlri)) ≡ false
not_unused v4 withdrawn nlri used = elim used [ inl v ↦ rw v refl | inr none ↦ rw (none.0, none.1) (unused v4) ]
  where
    unused : (b : Bool) → (not b && false) ≡ false
    unused true = refl
    unused false = refl

-- ---- all parts of an UPDATE

abbrev pub base_after : Link → RouteForm → Sections → List Part
base_after link form s = missing_parts s.nlri (attributes_of s.attributes) ++ base_parts link form s

abbrev pub tail_after : Link → RouteForm → Sections → List Part
tail_after link form s = tail_parts (tail_at (rest_of s.attributes)) ++ base_after link form s

abbrev pub attributes_after : Link → RouteForm → Sections → List Part
attributes_after link form s = attribute_parts link form [] (attributes_of s.attributes) ++ tail_after link form s

abbrev pub nlri_after : Link → RouteForm → Sections → List Part
nlri_after link form s = part_if (is_none (base_list form s.nlri)) NlriMalformed ++ attributes_after link form s

record HasNoPart (link : Link) (form : RouteForm) (s : Sections) : Type 0 where
  withdrawn : part_if (is_none (base_list form s.withdrawn)) WithdrawnMalformed ≡ []
  nlri : part_if (is_none (base_list form s.nlri)) NlriMalformed ≡ []
  attributes : attribute_parts link form [] (attributes_of s.attributes) ≡ []
  tail : tail_parts (tail_at (rest_of s.attributes)) ≡ []
  missing : missing_parts s.nlri (attributes_of s.attributes) ≡ []
  base : base_parts link form s ≡ []

each_none : (link : Link) (form : RouteForm) (s : Sections) → section_parts link form s ≡ [] → HasNoPart link form s
each_none link form s e =
    let one = back_nil (part_if (is_none (base_list form s.withdrawn)) WithdrawnMalformed) (nlri_after link form s) e in
    let two = back_nil (part_if (is_none (base_list form s.nlri)) NlriMalformed) (attributes_after link form s) one in
    let three = back_nil (attribute_parts link form [] (attributes_of s.attributes)) (tail_after link form s) two in
    let four = back_nil (tail_parts (tail_at (rest_of s.attributes))) (base_after link form s) three in
    record {
      withdrawn = front_nil (part_if (is_none (base_list form s.withdrawn)) WithdrawnMalformed) (nlri_after link form s) e;
      nlri = front_nil (part_if (is_none (base_list form s.nlri)) NlriMalformed) (attributes_after link form s) one;
      attributes = front_nil (attribute_parts link form [] (attributes_of s.attributes)) (tail_after link form s) two;
      tail = front_nil (tail_parts (tail_at (rest_of s.attributes))) (base_after link form s) three;
      missing = front_nil (missing_parts s.nlri (attributes_of s.attributes)) (base_parts link form s) four;
      base = back_nil (missing_parts s.nlri (attributes_of s.attributes)) (base_parts link form s) four;
    }

both_nil : (xs ys : List Part) → xs ≡ [] → ys ≡ [] → xs ++ ys ≡ []
both_nil xs ys e f = ap (λ (zs : List Part). zs ++ ys) e ∙ f

all_none : (link : Link) (form : RouteForm) (s : Sections) → HasNoPart link form s → section_parts link form s ≡ []
all_none link form s n =
    both_nil (part_if (is_none (base_list form s.withdrawn)) WithdrawnMalformed) (nlri_after link form s) n.withdrawn
    (both_nil (part_if (is_none (base_list form s.nlri)) NlriMalformed) (attributes_after link form s) n.nlri
    (both_nil (attribute_parts link form [] (attributes_of s.attributes)) (tail_after link form s) n.attributes
    (both_nil (tail_parts (tail_at (rest_of s.attributes))) (base_after link form s) n.tail
    (both_nil (missing_parts s.nlri (attributes_of s.attributes)) (base_parts link form s) n.missing n.base))))

pub announced : (link : Link) (form : RouteForm) (s : Sections) → (¬ IsEmptyNlri (found_by_form link form s)) ⊎ ((found_by_form link form s).reach.state ≢ Absent)
    → (is_filled s.nlri ≡ true) ⊎ (is_some (first_by_type (attributes_of s.attributes) types.MpReachNlri) ≡ true)
announced link form s why = elim why [
  | inl nlri ↦ elim (cases_Bool (is_filled s.nlri)) [
    | inl full ↦ inl full
    | inr bare ↦ absurd (nlri (not_filled form s.nlri bare))
  ]
  | inr reach ↦ elim (cases_Bool (is_some (first_by_type (attributes_of s.attributes) types.MpReachNlri))) [
    | inl full ↦ inr full
    | inr bare ↦ absurd (reach (absent link form (first_by_type (attributes_of s.attributes) types.MpReachNlri) bare))
  ]
]

pub why_announced : (link : Link) (form : RouteForm) (s : Sections)
    → (is_filled s.nlri ≡ true) ⊎ (is_some (first_by_type (attributes_of s.attributes) types.MpReachNlri) ≡ true)
    → (¬ IsEmptyNlri (found_by_form link form s)) ⊎ ((found_by_form link form s).reach.state ≢ Absent)
why_announced link form s announces = elim announces [
  | inl nlri ↦ inl (filled form s.nlri nlri)
  | inr reach ↦ inr (present link (reach_contents form) (first_by_type (attributes_of s.attributes) types.MpReachNlri) reach)
]

pub not_empty : (s : Sections) (link : Link) (form : RouteForm) → (¬ IsEmptyNlri (found_by_form link form s)) → is_filled s.nlri ≡ true
not_empty s link form nlri = elim (cases_Bool (is_filled s.nlri)) [
  | inl full ↦ full
  | inr bare ↦ absurd (nlri (not_filled form s.nlri bare))
]

is_empty : (form : RouteForm) (field : List ℕ) → base_list form field ≡ Some [] → is_filled field ≡ false
is_empty form field none = elim (cases_Bool (is_filled field)) [
  | inl full ↦ absurd (filled form field full none)
  | inr bare ↦ bare
]

abbrev pub there : Sections → AttrType → Bool
there s t = is_some (first_by_type (attributes_of s.attributes) t)

record AreThere (s : Sections) : Type 0 where
  origin : (not (there s types.Origin) && (is_filled s.nlri || not (not (there s types.MpReachNlri)))) ≡ false
  path : (not (there s types.AsPath) && (is_filled s.nlri || not (not (there s types.MpReachNlri)))) ≡ false
  hop : (not (there s types.NextHop) && is_filled s.nlri) ≡ false

abbrev lacks_origin : Sections → List Part
lacks_origin s = part_if (not (there s types.Origin) && (is_filled s.nlri || not (not (there s types.MpReachNlri)))) (Missing types.Origin)

abbrev lacks_path : Sections → List Part
lacks_path s = part_if (not (there s types.AsPath) && (is_filled s.nlri || not (not (there s types.MpReachNlri)))) (Missing types.AsPath)

abbrev lacks_hop : Sections → List Part
lacks_hop s = part_if (not (there s types.NextHop) && is_filled s.nlri) (Missing types.NextHop)

none_missing : (s : Sections) → missing_parts s.nlri (attributes_of s.attributes) ≡ [] → AreThere s
none_missing s e =
    let rest = back_nil (lacks_origin s) (lacks_path s ++ lacks_hop s) e in
    record {
      origin = not_part _ (Missing types.Origin) (front_nil (lacks_origin s) (lacks_path s ++ lacks_hop s) e);
      path = not_part _ (Missing types.AsPath) (front_nil (lacks_path s) (lacks_hop s) rest);
      hop = not_part _ (Missing types.NextHop) (back_nil (lacks_path s) (lacks_hop s) rest);
    }

not_missing : (s : Sections) → AreThere s → missing_parts s.nlri (attributes_of s.attributes) ≡ []
not_missing s are =
    both_nil (lacks_origin s) (lacks_path s ++ lacks_hop s) (no_part _ (Missing types.Origin) are.origin)
    (both_nil (lacks_path s) (lacks_hop s) (no_part _ (Missing types.AsPath) are.path) (no_part _ (Missing types.NextHop) are.hop))

no_class : (link : Link) (form : RouteForm) (P : Attribute → Bool) (xs : List Attribute) → AreFine link form xs → has_repeats xs ≡ false
    → ((a : Attribute) → IsFineClass (class_of (side_of link) a) → P a ≡ false) → list_any P (firsts xs) ≡ false
no_class link form P xs fine unique never =
    ap (list_any P) (firsts_are_all xs unique)
    ∙ none_of link form P xs (λ a f. never a (fine_class link form (type_of a.kind) a (class_of (side_of link) a) f)) fine

and_parts : (b x y : Bool) → b ≡ false → (b && x && y) ≡ false
and_parts b x y e = rw e refl

clean_if_no_parts : (link : Link) (form : RouteForm) (s : Sections) → HasNoPart link form s → IsCleanBy link (found_by_form link form s)
clean_if_no_parts link form s n =
    let attributes = attributes_of s.attributes in
    let quiet = fine_if_quiet link form attributes n.attributes in
    let are = none_missing s n.missing in
    let fine : IsFine link (found_by_form link form s) = record {
      withdrawn = not_not (is_some (base_list form s.withdrawn)) (not_part _ WithdrawnMalformed n.withdrawn);
      nlri = not_not (is_some (base_list form s.nlri)) (not_part _ NlriMalformed n.nlri);
      reach = fine_mp link form types.MpReachNlri _ (first_of 14 attributes) refl (first_is_fine link form 14 attributes quiet.0);
      unreach = fine_mp link form types.MpUnreachNlri _ (first_of 15 attributes) refl (first_is_fine link form 15 attributes quiet.0);
      reset = no_class link form (λ a. is_class Reset (class_of (side_of link) a)) attributes quiet.0 quiet.1 (λ a c. c.reset);
      withdraw = no_class link form (λ a. is_class Withdraw (class_of (side_of link) a)) attributes quiet.0 quiet.1 (λ a c. c.withdraw);
      discard = no_class link form (λ a. is_class Discard (class_of (side_of link) a)) attributes quiet.0 quiet.1 (λ a c. c.discard);
      no_repeats = quiet.1;
      tail = quiet_tail (tail_at (rest_of s.attributes)) n.tail;
      path = λ lacks. elim lacks.0 [
        | inl origin ↦ lacking _ _ _ are.origin origin (announced link form s lacks.1)
        | inr path ↦ lacking _ _ _ are.path path (announced link form s lacks.1)
      ];
      hop = λ lacks. hopless _ _ are.hop lacks.0 (not_empty s link form lacks.1);
      base = elim (in_use (contains link.families V4) (is_filled s.withdrawn) (is_some (base_list form s.withdrawn)) (is_filled s.nlri) (is_some (base_list form s.nlri))
          (not_not (is_some (base_list form s.withdrawn)) (not_part _ WithdrawnMalformed n.withdrawn))
          (not_not (is_some (base_list form s.nlri)) (not_part _ NlriMalformed n.nlri)) (not_part _ BaseNotInUse n.base)) [
            | inl used ↦ inl used
            | inr none ↦ inr (not_filled form s.withdrawn none.0, not_filled form s.nlri none.1)
          ];
    } in
    clean_if_fine link (found_by_form link form s) fine (single 14 attributes quiet.1) (single 15 attributes quiet.1)
    (no_class link form (λ a. is_class Withdraw (class_of (side_of link) a) && not (a.kind == 6) && not (a.kind == 7)) attributes quiet.0 quiet.1
    (λ a c. and_parts _ _ _ c.withdraw))

no_parts_if_clean : (link : Link) (form : RouteForm) (s : Sections) → IsCleanBy link (found_by_form link form s) → HasNoPart link form s
no_parts_if_clean link form s clean =
    let attributes = attributes_of s.attributes in
    let fine = fine_if_clean link (found_by_form link form s) clean
    (no_bits link types.MpReachNlri (reach_contents form) (first_of 14 attributes))
    (no_bits link types.MpUnreachNlri (unreach_contents form) (first_of 15 attributes)) in
    let firsts_all : firsts attributes ≡ attributes = firsts_are_all attributes fine.no_repeats in
    let side = side_of link in
    record {
      withdrawn = no_part _ WithdrawnMalformed (ap not fine.withdrawn);
      nlri = no_part _ NlriMalformed (ap not fine.nlri);
      attributes = quiet_if_fine link form attributes
          (all_fine link form attributes attributes (each_is_first attributes fine.no_repeats)
          (record { reach = fine.reach; unreach = fine.unreach })
          (sym (ap (has side Reset) firsts_all) ∙ fine.reset)
          (sym (ap (has side Withdraw) firsts_all) ∙ fine.withdraw)
          (sym (ap (has side Discard) firsts_all) ∙ fine.discard))
          fine.no_repeats;
      tail = ap tail_parts fine.tail;
      missing = not_missing s (record {
        origin = not_lacking _ _ _ (λ none why. fine.path (inl none, why_announced link form s why));
        path = not_lacking _ _ _ (λ none why. fine.path (inr none, why_announced link form s why));
        hop = not_hopless _ _ (λ none nlri. fine.hop (none, filled form s.nlri nlri));
      });
      base = no_part _ BaseNotInUse (not_unused (contains link.families V4) (has_destinations form s.withdrawn) (has_destinations form s.nlri) (elim fine.base [
        | inl used ↦ inl used
        | inr none ↦ inr (
          no_destination (is_filled s.withdrawn) _ (is_empty form s.withdrawn none.0),
          no_destination (is_filled s.nlri) _ (is_empty form s.nlri none.1),
        )
      ]));
    }

-- ---- the law

clean_is : (link : Link) (octets : List ℕ) (told : List Part) → AreUpdateParts link link.sent octets told
    → IsClean link octets ↔ ((length octets ≤ most_octets link) × (told ≡ []))
clean_is link octets told (inl (malformed, one)) = (
  λ clean. absurd (malformed clean.1 clean.2),
  λ none. absurd (let e = sym one ∙ none.1 in cc),
)
clean_is link octets told (inr (s, is, all)) = (
  λ clean. (
    clean.0,
    all ∙ all_none link link.sent s (no_parts_if_clean link link.sent s
        (subst (λ (t : Sections). IsCleanBy link (found_by_form link link.sent t)) (one_split octets clean.1 s clean.2 is) clean.3)),
  ),
  λ none. (none.0, s, is, clean_if_no_parts link link.sent s (each_none link link.sent s (sym all ∙ none.1))),
)

-- a frame isn't longer than its limit allows
fits : (link : Link) (octets : List ℕ) (s : Sections) → IsUpdate octets s → IsFrame (limit_with link.extended) octets
    → length octets ≤ most_octets link
fits link octets s is frame =
    let kind = is.message.type_field in
    elim (cases_lt (greatest_length (limit_with link.extended) 2) (length_of (header_of octets))) [
      | inl long ↦ absurd (frame.sound 2 (big_bytes 2 (length_of (header_of octets)))
          (inr (inl (refl, inr (inl (subst (λ (k : ℕ). greatest_length (limit_with link.extended) k < length_of (header_of octets)) (sym kind) long)), refl))))
      | inr short ↦ subst (λ (n : ℕ). n ≤ most_octets link) (sym frame.whole) short
    ]

framed : (link : Link) (octets : List ℕ) (told : List Part) → AreUpdateParts link link.sent octets told
    → IsFrame (limit_with link.extended) octets → (told ≡ []) ↔ IsClean link octets
framed link octets told (inl (malformed, one)) frame = (
  λ none. absurd (let e = sym one ∙ none in cc),
  λ clean. absurd (malformed clean.1 clean.2),
)
framed link octets told (inr (s, is, all)) frame =
    let law = clean_is link octets told (inr (s, is, all)) in
    (λ none. law.1 (fits link octets s is frame, none), λ clean. (law.0 clean).1)

pub clean_lacks_nothing : CleanLacksNothing
clean_lacks_nothing = record { clean = clean_is; frame = framed }
