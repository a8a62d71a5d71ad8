-- An UPDATE has a fault for which its routes are withdrawn exactly where one of its parts asks for it.
use Rattle.std.proofs.Common.{◌≡◌, ◌≢◌, ◌↔◌, ◌⊎◌, ◌==◌, ◌||◌, ◌&&◌, ◌++◌, ℕ, Bool, true, false, not, IsTrue, List, [], ◌∷◌, Option, None, Some, is_some, is_none, if◌then◌else◌, map, refl, sym, ap, subst, ◌∙◌, inl, inr}
use Rattle.std.specs.List.{list_any}
use Rattle.std.proofs.lemmas.Bool.{cases_Bool, eq-eqb, eqb-true, eqb-false}
use Rattle.std.proofs.lemmas.List.Folds.{list_any-append}
use Rattle.bgp_prefix.specs.declared.family.Family.TheVariants.{V4}
use Rattle.bgp_open.specs.declared.link.Link.{Link}
use Rattle.bgp_open.specs.Families.{contains}
use Rattle.bgp_attr.specs.declared.classes.AttrVerdict.{AttrVerdict}
use Rattle.bgp_attr.specs.declared.classes.AttrVerdict.TheVariants.{Good, Discard, Withdraw, Reset}
use Rattle.bgp_attr.specs.declared.field.Tail.{Tail}
use Rattle.bgp_attr.specs.declared.field.Tail.TheVariants as tails
use Rattle.bgp_attr.specs.declared.types.AttrType.{AttrType}
use Rattle.bgp_attr.specs.declared.types.AttrType.TheVariants as types
use Rattle.bgp_attr.specs.Class.{class_by, class_of}
use Rattle.bgp_attr.specs.Field.{Attribute}
use Rattle.bgp_attr.specs.First.{first_of, firsts, without}
use Rattle.bgp_attr.specs.Split.{attributes_of, rest_of, tail_at}
use Rattle.bgp_attr.specs.Types.{type_of, type_number, has_bits_of, is_multiprotocol}
use Rattle.bgp_attr.proofs.GoodRows.{type_back}
use Rattle.bgp_update.specs.Found.{found, is_class, is_repeated, side_of}
use Rattle.bgp_update.specs.Mp.{Mp, Absent, Cut, Other, Unused, Broken, Sound, mp_state, has_other_bits}
use Rattle.bgp_update.specs.MpFaults.{HasBitsInConflict, IsSound, IsUnused}
use Rattle.bgp_update.specs.Sections.{Sections}
use Rattle.bgp_update.specs.WithdrawFaults.{HasBrokenTail, HasWithdrawFault, IsEmptyNlri, LacksNextHop, LacksOriginOrPath}
use Rattle.bgp_update.proofs.OneSplit.{one_split}
use Rattle.bgp_parts.specs.AttributeFaults.{class_fault, fault_if, faults_with, first_faults, is_for_internal_peers, is_for_two_octets, mp_contents, state_fault, state_in, value_fault}
use Rattle.bgp_parts.specs.UpdateParts.{Part, WithdrawnMalformed, NlriMalformed, Faulty, Missing, BaseNotInUse, attribute_parts, base_list, base_parts, has_destinations, is_filled, missing_parts, part_if, parts_after, section_parts, shown_part, tail_parts}
use Rattle.bgp_parts.specs.Withdrawal.{PartsTellWithdrawals, fault_withdraws, is_flags, is_mild, is_mild_mp, is_repeat, withdraws}
use Rattle.bgp_parts.specs.declared.attribute.AttributeFault.{AttributeFault}
use Rattle.bgp_parts.specs.declared.update.UpdatePart.{UpdatePart}
use Rattle.bgp_parts.specs.declared.attribute.AttributeFault.TheVariants as faults
use Rattle.bgp_parts.proofs.CleanUpdates.{announced, attributes_after, base_after, filled, mp_number, nlri_after, not_empty, of_type, or_cases, present, tail_after, there, why_announced}

both : true ≡ false → ⊥
both e = absurd cc

apart : (a b : ℕ) → (a ≡ b → ⊥) → (a == b) ≡ false
apart a b never = elim (cases_Bool (a == b)) [ inl same ↦ absurd (never (eqb-true a b same)) | inr other ↦ other ]

or_none : (b : Bool) → (b || false) ≡ b
or_none true = refl
or_none false = refl

and_true : (a b : Bool) → (a && b) ≡ true → (a ≡ true) × (b ≡ true)
and_true true b e = (refl, e)
and_true false b e = absurd cc

is_not : (b : Bool) → not b ≡ true → b ≡ true → ⊥
is_not true n e = absurd cc
is_not false n e = absurd cc

not_true : (b : Bool) → (b ≡ true → ⊥) → not b ≡ true
not_true true never = absurd (never refl)
not_true false never = refl

-- ---- each attribute that is the first of its type

-- those of which none before is of the type
abbrev fresh : List Attribute → List Attribute → List Attribute
fresh before [] = []
fresh before (a ∷ rest) =
    if is_some (first_of a.kind before) then fresh (a ∷ before) rest else a ∷ fresh (a ∷ before) rest

-- the types that stand before decide
alike : (one other xs : List Attribute) → ((k : ℕ) → is_some (first_of k one) ≡ is_some (first_of k other)) → fresh one xs ≡ fresh other xs
alike one other [] same = refl
alike one other (a ∷ rest) same =
    rw (same a.kind, alike (a ∷ one) (a ∷ other) rest (λ k. with_one (a.kind == k) k)) refl
  where
    with_one : (b : Bool) (k : ℕ) → is_some (if b then Some a else first_of k one) ≡ is_some (if b then Some a else first_of k other)
    with_one true k = refl
    with_one false k = same k

swapped : (a c : Attribute) (before : List Attribute) (k : ℕ)
    → is_some (first_of k (a ∷ c ∷ before)) ≡ is_some (first_of k (c ∷ a ∷ before))
swapped a c before k = by (a.kind == k) (c.kind == k)
  where
    by : (x y : Bool)
        → is_some (if x then Some a else (if y then Some c else first_of k before)) ≡ is_some (if y then Some c else (if x then Some a else first_of k before))
    by true true = refl
    by true false = refl
    by false true = refl
    by false false = refl

step_here : (c a : Attribute) (before rest : List Attribute) → fresh (a ∷ c ∷ before) rest ≡ without c.kind (fresh (a ∷ before) rest)
    → (c.kind == a.kind) ≡ true → fresh (c ∷ before) (a ∷ rest) ≡ without c.kind (fresh before (a ∷ rest))
step_here c a before rest step same =
    let back : (a.kind == c.kind) ≡ true = eq-eqb a.kind c.kind (sym (eqb-true c.kind a.kind same)) in
    elim (cases_Bool (is_some (first_of a.kind before))) [
      | inl some ↦ rw (same, some) step
      | inr none ↦ rw (same, none, back) step
    ]

step_there : (c a : Attribute) (before rest : List Attribute) → fresh (a ∷ c ∷ before) rest ≡ without c.kind (fresh (a ∷ before) rest)
    → (c.kind == a.kind) ≡ false → fresh (c ∷ before) (a ∷ rest) ≡ without c.kind (fresh before (a ∷ rest))
step_there c a before rest step other =
    let back : (a.kind == c.kind) ≡ false = apart a.kind c.kind (λ is. eqb-false c.kind a.kind other (sym is)) in
    elim (cases_Bool (is_some (first_of a.kind before))) [
      | inl some ↦ rw (other, some) step
      | inr none ↦ rw (other, none, back) (ap (λ (xs : List Attribute). a ∷ xs) step)
    ]

-- with one more before, those of its type are left out
one_before : (c : Attribute) (before xs : List Attribute) → fresh (c ∷ before) xs ≡ without c.kind (fresh before xs)
one_before c before [] = refl
one_before c before (a ∷ rest) =
    let step : fresh (a ∷ c ∷ before) rest ≡ without c.kind (fresh (a ∷ before) rest) =
    alike (a ∷ c ∷ before) (c ∷ a ∷ before) rest (swapped a c before) ∙ one_before c (a ∷ before) rest in
    elim (cases_Bool (c.kind == a.kind)) [
      | inl same ↦ step_here c a before rest step same
      | inr other ↦ step_there c a before rest step other
    ]

first_ones : (xs : List Attribute) → fresh [] xs ≡ firsts xs
first_ones [] = refl
first_ones (a ∷ rest) = ap (λ (xs : List Attribute). a ∷ xs) (one_before a [] rest ∙ ap (without a.kind) (first_ones rest))

-- an attribute's parts ask for it
abbrev asks : Link → Attribute → Bool
asks link a = list_any (withdraws link) (map (Faulty a) (first_faults link link.received a))

never_repeated : (link : Link) (a : Attribute) (b : Bool) → list_any (withdraws link) (part_if b (Faulty a faults.Repeated)) ≡ false
never_repeated link a true = refl
never_repeated link a false = refl

told_fresh : (link : Link) (before xs : List Attribute)
    → list_any (withdraws link) (attribute_parts link link.received before xs) ≡ list_any (asks link) (fresh before xs)
told_fresh link before [] = refl
told_fresh link before (a ∷ rest) =
    list_any-append (withdraws link) (parts_after link link.received before a) (attribute_parts link link.received (a ∷ before) rest)
    ∙ elim (cases_Bool (is_some (first_of a.kind before))) [
      | inl some ↦ rw (some, never_repeated link a (not (is_repeated a.kind before))) (told_fresh link (a ∷ before) rest)
      | inr none ↦ rw none (ap (λ (b : Bool). asks link a || b) (told_fresh link (a ∷ before) rest))
    ]

-- ---- one attribute

-- its bits are in conflict, and nothing else is wrong but that its family isn't in use
abbrev conflict : Link → AttrType → Attribute → Bool
conflict link t a = not (has_bits_of a.flags t) && is_mild (state_fault (state_in link.families link.received t a))

abbrev mp_conflict : Link → Option AttrType → Attribute → Bool
mp_conflict link None a = false
mp_conflict link (Some t) a = is_multiprotocol t && conflict link t a

abbrev withdraws_by : Link → Attribute → Option AttrType → Option AttrVerdict → AttributeFault → Bool
withdraws_by link a known class fault =
    not (is_repeat fault) && (is_class Withdraw class || (is_flags fault && is_mild_mp link.families link.received known a))

-- attributes that have a class aren't MP attributes
no_mp : (link : Link) (a : Attribute) (known : Option AttrType) (v : AttrVerdict) → Some v ≡ class_by (side_of link) a known
    → (mp_conflict link known a ≡ false) × (is_mild_mp link.families link.received known a ≡ false)
no_mp link a None v is = (refl, refl)
no_mp link a (Some t) v is = elim (cases_Bool (is_multiprotocol t)) [
  | inl mp ↦ absurd (let none = rw mp at is in cc)
  | inr other ↦ (rw other refl, rw other refl)
]

value_is_new : (v : AttrVerdict) → is_repeat (value_fault v) ≡ false
value_is_new Good = refl
value_is_new Discard = refl
value_is_new Withdraw = refl
value_is_new Reset = refl

by_ifs : (a b c : Bool) (fault : AttributeFault) → is_repeat fault ≡ false
    → is_repeat (if a then faults.Flags else (if b then faults.FourOctetAsNumbers else (if c then faults.FromExternalPeer else fault))) ≡ false
by_ifs true b c fault new = refl
by_ifs false true c fault new = refl
by_ifs false false true fault new = refl
by_ifs false false false fault new = new

class_is_new : (link : Link) (known : Option AttrType) (flags : ℕ) (v : AttrVerdict) → is_repeat (class_fault link known flags v) ≡ false
class_is_new link None flags v = refl
class_is_new link (Some t) flags v =
    by_ifs (not (has_bits_of flags t)) (link.as4 && is_for_two_octets t) (not link.internal && is_for_internal_peers t) (value_fault v) (value_is_new v)

quiet_state : (link : Link) (a : Attribute) (known : Option AttrType) (state : Mp)
    → list_any (withdraws_by link a known None) (fault_if (state_fault state)) ≡ false
quiet_state link a known Absent = refl
quiet_state link a known Cut = refl
quiet_state link a known Other = refl
quiet_state link a known (Unused family) = refl
quiet_state link a known (Broken family) = refl
quiet_state link a known (Sound family contents) = refl

mild_alone : (bits mp mild : Bool) → (if bits then false else (mp && mild) || false) ≡ (mp && (not bits && mild))
mild_alone true true mild = refl
mild_alone true false mild = refl
mild_alone false true true = refl
mild_alone false true false = refl
mild_alone false false mild = refl

flags_alone : (link : Link) (a : Attribute) (t : AttrType) (bits : Bool)
    → list_any (withdraws_by link a (Some t) None) (if bits then [] else faults.Flags ∷ [])
    ≡ (if bits then false else (is_multiprotocol t && is_mild (state_fault (state_in link.families link.received t a))) || false)
flags_alone link a t true = refl
flags_alone link a t false = refl

no_flags : (repeat flags : Bool) → ((not repeat && (false || (flags && false))) || false) ≡ false
no_flags true flags = refl
no_flags false true = refl
no_flags false false = refl

by_class : (link : Link) (a : Attribute) (known : Option AttrType) (class : Option AttrVerdict) → class ≡ class_by (side_of link) a known
    → list_any (withdraws_by link a known class) (faults_with link link.received known a class) ≡ (is_class Withdraw class || mp_conflict link known a)
by_class link a None None is = refl
by_class link a (Some t) None is =
    list_any-append (withdraws_by link a (Some t) None) (if has_bits_of a.flags t then [] else faults.Flags ∷ []) (fault_if (state_fault (state_in link.families link.received t a)))
    ∙ ap (λ (b : Bool). list_any (withdraws_by link a (Some t) None) (if has_bits_of a.flags t then [] else faults.Flags ∷ []) || b) (quiet_state link a (Some t) (state_in link.families link.received t a))
    ∙ or_none _ ∙ flags_alone link a t (has_bits_of a.flags t)
    ∙ mild_alone (has_bits_of a.flags t) (is_multiprotocol t) (is_mild (state_fault (state_in link.families link.received t a)))
by_class link a known (Some Good) is = sym (no_mp link a known Good is).0
by_class link a known (Some Discard) is =
    let none = no_mp link a known Discard is in
    rw (none.0, none.1) (no_flags (is_repeat (class_fault link known a.flags Discard)) (is_flags (class_fault link known a.flags Discard)))
by_class link a known (Some Withdraw) is = rw (class_is_new link known a.flags Withdraw) refl
by_class link a known (Some Reset) is =
    let none = no_mp link a known Reset is in
    rw (none.0, none.1) (no_flags (is_repeat (class_fault link known a.flags Reset)) (is_flags (class_fault link known a.flags Reset)))

each_part : (link : Link) (a : Attribute) (all : List AttributeFault)
    → list_any (withdraws link) (map (Faulty a) all) ≡ list_any (withdraws_by link a (type_of a.kind) (class_of (side_of link) a)) all
each_part link a [] = refl
each_part link a (fault ∷ rest) = ap (λ (b : Bool). fault_withdraws link a fault || b) (each_part link a rest)

-- MP attributes are of two types
abbrev typed : Link → AttrType → Attribute → Bool
typed link t a = (a.kind == type_number t) && conflict link t a

neither : (link : Link) (a : Attribute) (known : Option AttrType) → type_of a.kind ≡ known → (a.kind == 14) ≡ false → (a.kind == 15) ≡ false
    → mp_conflict link known a ≡ false
neither link a None is no_reach no_unreach = refl
neither link a (Some t) is no_reach no_unreach = elim (cases_Bool (is_multiprotocol t)) [
  | inl mp ↦ absurd (elim (mp_number t mp) [
    | inl reach ↦ eqb-false a.kind 14 no_reach (of_type a.kind t is ∙ ap type_number reach)
    | inr unreach ↦ eqb-false a.kind 15 no_unreach (of_type a.kind t is ∙ ap type_number unreach)
  ])
  | inr other ↦ rw other refl
]

by_type : (link : Link) (a : Attribute)
    → mp_conflict link (type_of a.kind) a ≡ (typed link types.MpReachNlri a || typed link types.MpUnreachNlri a)
by_type link a = elim (cases_Bool (a.kind == 14)) [
  | inl reach ↦
      let is = eqb-true a.kind 14 reach in
      let known : type_of a.kind ≡ Some types.MpReachNlri = ap type_of is ∙ type_back types.MpReachNlri in
      let no_unreach : (a.kind == 15) ≡ false = ap (λ (k : ℕ). k == 15) is in
      ap (λ (k : Option AttrType). mp_conflict link k a) known ∙ rw (reach, no_unreach) (sym (or_none (conflict link types.MpReachNlri a)))
  | inr no_reach ↦ elim (cases_Bool (a.kind == 15)) [
    | inl unreach ↦
        let known : type_of a.kind ≡ Some types.MpUnreachNlri = ap type_of (eqb-true a.kind 15 unreach) ∙ type_back types.MpUnreachNlri in
        ap (λ (k : Option AttrType). mp_conflict link k a) known ∙ rw (no_reach, unreach) refl
    | inr no_unreach ↦ neither link a (type_of a.kind) refl no_reach no_unreach ∙ rw (no_reach, no_unreach) refl
  ]
]

one_asks : (link : Link) (a : Attribute)
    → asks link a ≡ (is_class Withdraw (class_of (side_of link) a) || (typed link types.MpReachNlri a || typed link types.MpUnreachNlri a))
one_asks link a =
    each_part link a (first_faults link link.received a)
    ∙ by_class link a (type_of a.kind) (class_of (side_of link) a) refl
    ∙ ap (λ (b : Bool). is_class Withdraw (class_of (side_of link) a) || b) (by_type link a)

-- ---- all attributes

shuffle : (a b c x y z : Bool) → ((a || (b || c)) || (x || (y || z))) ≡ ((a || x) || ((b || y) || (c || z)))
shuffle true b c x y z = refl
shuffle false true c true y z = refl
shuffle false true c false y z = refl
shuffle false false true true y z = refl
shuffle false false true false true z = refl
shuffle false false true false false z = refl
shuffle false false false x y z = refl

any_of_three : (P A B C : Attribute → Bool) (xs : List Attribute) → ((a : Attribute) → P a ≡ (A a || (B a || C a)))
    → list_any P xs ≡ (list_any A xs || (list_any B xs || list_any C xs))
any_of_three P A B C [] is = refl
any_of_three P A B C (a ∷ rest) is =
    ap (λ (b : Bool). b || list_any P rest) (is a)
    ∙ ap (λ (b : Bool). (A a || (B a || C a)) || b) (any_of_three P A B C rest is)
    ∙ shuffle (A a) (B a) (C a) (list_any A rest) (list_any B rest) (list_any C rest)

abbrev at_first : (Attribute → Bool) → Option Attribute → Bool
at_first P None = false
at_first P (Some a) = P a

without_typed : (P : Attribute → Bool) (n k : ℕ) (xs : List Attribute)
    → list_any (λ a. (a.kind == n) && P a) (without k xs) ≡ (if k == n then false else list_any (λ a. (a.kind == n) && P a) xs)
without_typed P n k [] = elim (cases_Bool (k == n)) [ inl same ↦ rw same refl | inr other ↦ rw other refl ]
without_typed P n k (a ∷ rest) = elim (cases_Bool (a.kind == k)) [
  | inl here ↦ elim (cases_Bool (k == n)) [
    | inl same ↦ rw (here, same) (without_typed P n k rest ∙ rw same refl)
    | inr other ↦
        let no : (a.kind == n) ≡ false = ap (λ (j : ℕ). j == n) (eqb-true a.kind k here) ∙ other in
        rw (here, other, no) (without_typed P n k rest ∙ rw other refl)
  ]
  | inr there ↦ elim (cases_Bool (k == n)) [
    | inl same ↦
        let no : (a.kind == n) ≡ false = apart a.kind n (λ is. eqb-false a.kind k there (is ∙ sym (eqb-true k n same))) in
        rw (there, same, no) (without_typed P n k rest ∙ rw same refl)
    | inr other ↦ rw (there, other) (ap (λ (b : Bool). ((a.kind == n) && P a) || b) (without_typed P n k rest ∙ rw other refl))
  ]
]

first_typed : (P : Attribute → Bool) (n : ℕ) (xs : List Attribute)
    → list_any (λ a. (a.kind == n) && P a) (firsts xs) ≡ at_first P (first_of n xs)
first_typed P n [] = refl
first_typed P n (a ∷ rest) =
    ap (λ (b : Bool). ((a.kind == n) && P a) || b) (without_typed P n a.kind (firsts rest))
    ∙ elim (cases_Bool (a.kind == n)) [
      | inl same ↦ rw same (or_none (P a))
      | inr other ↦ rw other (first_typed P n rest)
    ]

of_attributes : (link : Link) (xs : List Attribute)
    → list_any (withdraws link) (attribute_parts link link.received [] xs)
    ≡ (list_any (λ a. is_class Withdraw (class_of (side_of link) a)) (firsts xs)
    || (at_first (conflict link types.MpReachNlri) (first_of 14 xs) || at_first (conflict link types.MpUnreachNlri) (first_of 15 xs)))
of_attributes link xs =
    told_fresh link [] xs ∙ ap (list_any (asks link)) (first_ones xs)
    ∙ any_of_three (asks link) (λ a. is_class Withdraw (class_of (side_of link) a)) (typed link types.MpReachNlri) (typed link types.MpUnreachNlri) (firsts xs) (one_asks link)
    ∙ ap (λ (b : Bool). list_any (λ a. is_class Withdraw (class_of (side_of link) a)) (firsts xs) || (b || list_any (typed link types.MpUnreachNlri) (firsts xs)))
    (first_typed (conflict link types.MpReachNlri) 14 xs)
    ∙ ap (λ (b : Bool). list_any (λ a. is_class Withdraw (class_of (side_of link) a)) (firsts xs) || (at_first (conflict link types.MpReachNlri) (first_of 14 xs) || b))
    (first_typed (conflict link types.MpUnreachNlri) 15 xs)

-- ---- an MP attribute's bits

mild_state : (state : Mp) → state ≢ Absent → IsTrue (is_mild (state_fault state)) ↔ (IsUnused state ⊎ IsSound state)
mild_state Absent there = absurd (there refl)
mild_state Cut there = (
  λ e. absurd cc,
  λ is. elim is [
    | inl unused ↦ elim unused [ inl e ↦ absurd cc | inr some ↦ absurd (let e = some.1 in cc) ]
    | inr sound ↦ absurd (let e = sound.2 in cc)
  ],
)
mild_state Other there = (λ e. inl (inl refl), λ is. refl)
mild_state (Unused family) there = (λ e. inl (inr (family, refl)), λ is. refl)
mild_state (Broken family) there = (
  λ e. absurd cc,
  λ is. elim is [
    | inl unused ↦ elim unused [ inl e ↦ absurd cc | inr some ↦ absurd (let e = some.1 in cc) ]
    | inr sound ↦ absurd (let e = sound.2 in cc)
  ],
)
mild_state (Sound family contents) there = (λ e. inr (family, contents, refl), λ is. refl)

in_conflict : (link : Link) (t : AttrType) (once : Bool) (first : Option Attribute)
    → IsTrue (at_first (conflict link t) first)
    ↔ HasBitsInConflict (record { state = mp_state link.families (mp_contents link.received t) first; other_bits = has_other_bits t first; is_repeated = once })
in_conflict link t once None = (λ e. absurd cc, λ is. absurd (let e = is.0 in cc))
in_conflict link t once (Some a) =
    let state = mild_state (state_in link.families link.received t a) (present link (mp_contents link.received t) (Some a) refl) in (
      λ e. let are = and_true (not (has_bits_of a.flags t)) _ e in (are.0, state.0 are.1),
      λ is. rw (is.0, state.1 is.1) refl,
    )

-- ---- the other parts

of_tail : (link : Link) (tail : Option Tail) → IsTrue (list_any (withdraws link) (tail_parts tail)) ↔ HasBrokenTail tail
of_tail link None = (λ e. absurd cc, λ is. absurd is)
of_tail link (Some tails.ShortHeader) = (λ e. tt, λ is. refl)
of_tail link (Some (tails.Overrun kind)) = (
  λ e.
      let are = and_true (not (kind == 14)) (not (kind == 15)) (sym (or_none (not (kind == 14) && not (kind == 15))) ∙ e) in
      (λ is. is_not (kind == 14) are.0 (eq-eqb kind 14 is), λ is. is_not (kind == 15) are.1 (eq-eqb kind 15 is)),
  λ is. rw (apart kind 14 is.0, apart kind 15 is.1) refl,
)

any_if : (link : Link) (b : Bool) (t : AttrType) → list_any (withdraws link) (part_if b (Missing t)) ≡ b
any_if link true t = refl
any_if link false t = refl

abbrev lacks : Sections → AttrType → Bool
lacks s t = not (there s t) && (is_filled s.nlri || not (not (there s types.MpReachNlri)))

abbrev lacks_next_hop : Sections → Bool
lacks_next_hop s = not (there s types.NextHop) && is_filled s.nlri

any_missing : (link : Link) (s : Sections)
    → list_any (withdraws link) (missing_parts s.nlri (attributes_of s.attributes))
    ≡ (lacks s types.Origin || (lacks s types.AsPath || lacks_next_hop s))
any_missing link s =
    list_any-append (withdraws link) (part_if (lacks s types.Origin) (Missing types.Origin)) (part_if (lacks s types.AsPath) (Missing types.AsPath) ++ part_if (lacks_next_hop s) (Missing types.NextHop))
    ∙ ap (λ (b : Bool). b || list_any (withdraws link) (part_if (lacks s types.AsPath) (Missing types.AsPath) ++ part_if (lacks_next_hop s) (Missing types.NextHop)))
    (any_if link (lacks s types.Origin) types.Origin)
    ∙ ap (λ (b : Bool). lacks s types.Origin || b)
    (list_any-append (withdraws link) (part_if (lacks s types.AsPath) (Missing types.AsPath)) (part_if (lacks_next_hop s) (Missing types.NextHop))
    ∙ ap (λ (b : Bool). b || list_any (withdraws link) (part_if (lacks_next_hop s) (Missing types.NextHop))) (any_if link (lacks s types.AsPath) types.AsPath)
    ∙ ap (λ (b : Bool). lacks s types.AsPath || b) (any_if link (lacks_next_hop s) types.NextHop))

lacks_one : (link : Link) (s : Sections) (t : AttrType) → lacks s t ≡ true
    → (¬ IsTrue (there s t)) × ((¬ IsEmptyNlri (found link s)) ⊎ ((found link s).reach.state ≢ Absent))
lacks_one link s t e =
    let are = and_true (not (there s t)) _ e in (
      is_not (there s t) are.0,
      elim (or_cases (is_filled s.nlri) _ are.1) [
        | inl nlri ↦ why_announced link link.received s (inl nlri)
        | inr reach ↦ why_announced link link.received s (inr (twice (there s types.MpReachNlri) reach))
      ],
    )
  where
    twice : (b : Bool) → not (not b) ≡ true → b ≡ true
    twice true e = refl
    twice false e = absurd cc

one_lacks : (link : Link) (s : Sections) (t : AttrType) → ¬ IsTrue (there s t)
    → (¬ IsEmptyNlri (found link s)) ⊎ ((found link s).reach.state ≢ Absent) → lacks s t ≡ true
one_lacks link s t none why = elim (announced link link.received s why) [
  | inl nlri ↦ rw (not_true (there s t) none, nlri) refl
  | inr reach ↦ rw (not_true (there s t) none, reach) (filled (is_filled s.nlri))
]
  where
    filled : (b : Bool) → (b || true) ≡ true
    filled true = refl
    filled false = refl

left : (a b : Bool) → a ≡ true → (a || b) ≡ true
left a b e = rw e refl

right : (a b : Bool) → b ≡ true → (a || b) ≡ true
right true b e = refl
right false b e = e

hop_lacks : (link : Link) (s : Sections) → ¬ IsTrue (there s types.NextHop) → ¬ IsEmptyNlri (found link s) → lacks_next_hop s ≡ true
hop_lacks link s none nlri = rw (not_true (there s types.NextHop) none, not_empty s link link.received nlri) refl

of_missing : (link : Link) (s : Sections)
    → IsTrue (list_any (withdraws link) (missing_parts s.nlri (attributes_of s.attributes)))
    ↔ (LacksOriginOrPath (found link s) ⊎ LacksNextHop (found link s))
of_missing link s = (
  λ e. elim (or_cases (lacks s types.Origin) _ (sym (any_missing link s) ∙ e)) [
    | inl origin ↦ let is = lacks_one link s types.Origin origin in inl (inl is.0, is.1)
    | inr more ↦ elim (or_cases (lacks s types.AsPath) _ more) [
      | inl path ↦ let is = lacks_one link s types.AsPath path in inl (inr is.0, is.1)
      | inr hop ↦
          let are = and_true (not (there s types.NextHop)) _ hop in
          inr (is_not (there s types.NextHop) are.0, filled link.received s.nlri are.1)
    ]
  ],
  λ is. any_missing link s ∙ elim is [
    | inl lacking ↦ elim lacking.0 [
      | inl origin ↦ left _ _ (one_lacks link s types.Origin origin lacking.1)
      | inr path ↦ right _ _ (left _ _ (one_lacks link s types.AsPath path lacking.1))
    ]
    | inr hop ↦ right _ _ (right _ _ (hop_lacks link s hop.0 hop.1))
  ],
)

-- ---- all parts of an UPDATE

no_if : (link : Link) (b : Bool) (part : Part) → withdraws link part ≡ false → list_any (withdraws link) (part_if b part) ≡ false
no_if link true part never = rw never refl
no_if link false part never = refl

any_section : (link : Link) (s : Sections)
    → list_any (withdraws link) (section_parts link link.received s)
    ≡ (list_any (withdraws link) (attribute_parts link link.received [] (attributes_of s.attributes))
    || (list_any (withdraws link) (tail_parts (tail_at (rest_of s.attributes)))
    || list_any (withdraws link) (missing_parts s.nlri (attributes_of s.attributes))))
any_section link s =
    let any = list_any (withdraws link) in
    list_any-append (withdraws link) (part_if (is_none (base_list link.received s.withdrawn)) WithdrawnMalformed) (nlri_after link link.received s)
    ∙ ap (λ (b : Bool). b || any (nlri_after link link.received s)) (no_if link (is_none (base_list link.received s.withdrawn)) WithdrawnMalformed refl)
    ∙ list_any-append (withdraws link) (part_if (is_none (base_list link.received s.nlri)) NlriMalformed) (attributes_after link link.received s)
    ∙ ap (λ (b : Bool). b || any (attributes_after link link.received s)) (no_if link (is_none (base_list link.received s.nlri)) NlriMalformed refl)
    ∙ list_any-append (withdraws link) (attribute_parts link link.received [] (attributes_of s.attributes)) (tail_after link link.received s)
    ∙ ap (λ (b : Bool). any (attribute_parts link link.received [] (attributes_of s.attributes)) || b)
    (list_any-append (withdraws link) (tail_parts (tail_at (rest_of s.attributes))) (base_after link link.received s)
    ∙ ap (λ (b : Bool). any (tail_parts (tail_at (rest_of s.attributes))) || b)
    (list_any-append (withdraws link) (missing_parts s.nlri (attributes_of s.attributes)) (base_parts link link.received s)
    ∙ ap (λ (b : Bool). any (missing_parts s.nlri (attributes_of s.attributes)) || b)
    (no_if link (not (contains link.families V4) && (has_destinations link.received s.withdrawn || has_destinations link.received s.nlri)) BaseNotInUse refl)
    ∙ or_none (any (missing_parts s.nlri (attributes_of s.attributes)))))

of_section : (link : Link) (s : Sections) → IsTrue (list_any (withdraws link) (section_parts link link.received s)) ↔ HasWithdrawFault (found link s)
of_section link s =
    let xs = attributes_of s.attributes in
    let reach = in_conflict link types.MpReachNlri (is_repeated 14 xs) (first_of 14 xs) in
    let unreach = in_conflict link types.MpUnreachNlri (is_repeated 15 xs) (first_of 15 xs) in
    let tail = of_tail link (tail_at (rest_of s.attributes)) in
    let missing = of_missing link s in (
      λ e. elim (or_cases (list_any (withdraws link) (attribute_parts link link.received [] xs)) _ (sym (any_section link s) ∙ e)) [
        | inl attributes ↦ elim (or_cases _ _ (sym (of_attributes link xs) ∙ attributes)) [
          | inl class ↦ inl class
          | inr mp ↦ elim (or_cases _ _ mp) [
            | inl one ↦ inr (inl (reach.0 one))
            | inr other ↦ inr (inr (inl (unreach.0 other)))
          ]
        ]
        | inr more ↦ elim (or_cases _ _ more) [
          | inl broken ↦ inr (inr (inr (inl (tail.0 broken))))
          | inr lacking ↦ elim (missing.0 lacking) [
            | inl path ↦ inr (inr (inr (inr (inl path))))
            | inr hop ↦ inr (inr (inr (inr (inr hop))))
          ]
        ]
      ],
      λ is. any_section link s ∙ elim is [
        | inl class ↦ left _ _ (of_attributes link xs ∙ left _ _ class)
        | inr form ↦ elim form [
          | inl one ↦ left _ _ (of_attributes link xs ∙ right _ _ (left _ _ (reach.1 one)))
          | inr form ↦ elim form [
            | inl other ↦ left _ _ (of_attributes link xs ∙ right _ _ (right _ _ (unreach.1 other)))
            | inr form ↦ elim form [
              | inl broken ↦ right _ _ (left _ _ (tail.1 broken))
              | inr lacking ↦ right _ _ (right _ _ (missing.1 lacking))
            ]
          ]
        ]
      ],
    )

pub parts_tell_withdrawals : PartsTellWithdrawals
parts_tell_withdrawals link octets parts (inl malformed) = (
  λ e. absurd (let never = ap (list_any (withdraws link)) (sym malformed.1) ∙ e in cc),
  λ is. absurd (malformed.0 is.0 is.1),
)
parts_tell_withdrawals link octets parts (inr told) =
    let any : list_any (withdraws link) parts ≡ list_any (withdraws link) (section_parts link link.received told.0) = ap (list_any (withdraws link)) told.2 in
    let law = of_section link told.0 in (
      λ e. (told.0, told.1, law.0 (sym any ∙ e)),
      λ is. any ∙ law.1 (subst (λ (s : Sections). HasWithdrawFault (found link s)) (one_split octets is.0 told.0 is.1 told.1) is.2),
    )

-- of parts that were read
pub any_shown : (link : Link) (parts : List UpdatePart)
    → list_any (λ part. withdraws link (shown_part part)) parts ≡ list_any (withdraws link) (map shown_part parts)
any_shown link [] = refl
any_shown link (part ∷ rest) = ap (λ (b : Bool). withdraws link (shown_part part) || b) (any_shown link rest)
