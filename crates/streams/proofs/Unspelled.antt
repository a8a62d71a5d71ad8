-- The segments of a connection that is refused by a conflict, or by what is missing, spell no stream.
use Rattle.std.proofs.Common.{◌≡◌, ◌<◌, ◌≤◌, ◌+◌, ◌-◌, ◌∙◌, ℕ, Some, None, Option, Bool, true, false, cond, nat_lt, nat_eq, List, [], ◌∷◌, ◌++◌, refl, sym, ap, arith, zero, suc, inl, inr, ◌⊎◌, length, get_or, min, ◌||◌, ◌&&◌, subst}
use Rattle.std.specs.Option.{option_or, option_map, is_some, is_none}
use Rattle.std.proofs.lemmas.Bool.{cases_lt, cases_Bool, lt-ltb, le-ltb, ltb-true, eqb-false, eq-eqb, lt-leb, or_from, not_from_true, both_ways}
use Rattle.std.proofs.lemmas.Option.{none-some, same_Some, cond_some, slice_get_within}
use Rattle.streams.specs.declared.fault.Fault.{Fault}
use Rattle.streams.specs.declared.fault.Fault.TheVariants as faults
use Rattle.streams.specs.declared.gathered.Given.{Given}
use Rattle.streams.specs.declared.passed.Side.{Side}
use Rattle.streams.specs.declared.passed.Side.TheVariants.{Local, Peer}
use Rattle.streams.specs.Given.{piece_at, first_conflict, first_new, contradicts, octet_of, differs, ends_before}
use Rattle.streams.specs.Passed.{Segment, giver_of}
use Rattle.streams.specs.Places.{Piece, after}
use Rattle.streams.specs.History.{start_of, given_of, next_of, placed, end_in, end_of, fin_of, has_rst}
use Rattle.streams.specs.Refusals.{cut, time_back, no_start, octet_conflict, fin_conflict, after_reset, conflict_at, other_fin, early_fin, fault_at, first_fault, half_of, missing_of}
use Rattle.streams.specs.Sent.{first_shown, is_fin, half_shown, missing}
use Rattle.streams.specs.Choice.{refusal_of}
use Rattle.streams.specs.Spelling.{Stands, AllStand, AcknowledgeBelow, Spell, SpellNone, Agrees, IsOtherOctet, IsOtherFin, IsEarlyFin, IsConflict, IsFirstHole, fin_count}
use Rattle.streams.proofs.Histories.{given_other, end_other}
use Rattle.streams.proofs.Holes.{next_lacks, below_next}
use Rattle.streams.proofs.Moments.{cases_side, no_end, own_given, own_end, either_gives, some_or_none, some_is, given_kept}
use Rattle.streams.proofs.Pieces.{piece_within}
use Rattle.streams.proofs.Standing.{given_stands, given_within, fin_stands, nothing_shown, earlier_stand}
use Rattle.streams.proofs.Spelled.{allowed, octets_agree}
use Rattle.streams.proofs.Taking.{fault_more, no_fault_yet}

-- the first octet that contradicts
record IsFirstOf (given : ℕ → Option Given) (fin : Option ℕ) (place : ℕ) (octets : List ℕ) (at : ℕ) : Type 0 where
  i : ℕ
  within : i < length octets
  is : at ≡ place + i
  clashes : contradicts (octet_of (given (place + i))) fin (place + i) (get_or octets i 0) ≡ true
  before : (j : ℕ) → j < i → contradicts (octet_of (given (place + j))) fin (place + j) (get_or octets j 0) ≡ false

later : (given : ℕ → Option Given) (fin : Option ℕ) (place octet : ℕ) (octets : List ℕ) (i : ℕ) → contradicts (octet_of (given place)) fin place octet ≡ false
    → ((j : ℕ) → j < i → contradicts (octet_of (given (place + 1 + j))) fin (place + 1 + j) (get_or octets j 0) ≡ false)
    → (j : ℕ) → j < suc i → contradicts (octet_of (given (place + j))) fin (place + j) (get_or (octet ∷ octets) j 0) ≡ false
later given fin place octet octets i miss rest zero lt =
    let here : place + 0 ≡ place = omega arith in
    ap (λ (k : ℕ). contradicts (octet_of (given k)) fin k octet) here ∙ miss
later given fin place octet octets i miss rest (suc j) lt =
    let on : place + suc j ≡ place + 1 + j = omega arith in
    ap (λ (k : ℕ). contradicts (octet_of (given k)) fin k (get_or octets j 0)) on ∙ rest j (omega (arith, lt))

found : (given : ℕ → Option Given) (fin : Option ℕ) (place : ℕ) (octets : List ℕ) (at : ℕ) → first_conflict given fin place octets ≡ Some at → IsFirstOf given fin place octets at
found given fin place [] at h = absurd (none-some at h)
found given fin place (octet ∷ octets) at h =
    let here : place + 0 ≡ place = omega arith in
    elim (cases_Bool (contradicts (octet_of (given place)) fin place octet)) [
      | inl hit ↦
          let told : Some place ≡ Some at = sym (ap (λ (t : Bool). cond t (Some place) (first_conflict given fin (place + 1) octets)) hit) ∙ h in
          record {
            i = 0;
            within = omega arith;
            is = sym (same_Some place at told) ∙ sym here;
            clashes = ap (λ (k : ℕ). contradicts (octet_of (given k)) fin k octet) here ∙ hit;
            before = λ j lt. absurd (omega (arith, lt));
          }
      | inr miss ↦
          let rest = found given fin (place + 1) octets at (sym (ap (λ (t : Bool). cond t (Some place) (first_conflict given fin (place + 1) octets)) miss) ∙ h) in
          let i = rest.i in
          let on : place + suc i ≡ place + 1 + i = omega arith in
          record {
            i = suc i;
            within = omega (arith, rest.within);
            is = rest.is ∙ sym on;
            clashes = ap (λ (k : ℕ). contradicts (octet_of (given k)) fin k (get_or octets i 0)) on ∙ rest.clashes;
            before = later given fin place octet octets i miss rest.before;
          }
    ]

-- what agrees doesn't contradict
differs_not : (given : Option Given) (octet : ℕ) → ((g : Given) → given ≡ Some g → g.octet ≡ octet) → differs (octet_of given) octet ≡ false
differs_not None octet same = refl
differs_not (Some g) octet same = not_from_true (nat_eq g.octet octet) (eq-eqb g.octet octet (same g refl))

ends_not : (fin : Option ℕ) (place : ℕ) → ((f : ℕ) → fin ≡ Some f → place < f) → ends_before fin place ≡ false
ends_not None place before = refl
ends_not (Some f) place before = lt-leb f place (before f refl)

unclashing : (given : Option Given) (fin : Option ℕ) (place octet : ℕ) → ((g : Given) → given ≡ Some g → g.octet ≡ octet) → ((f : ℕ) → fin ≡ Some f → place < f)
    → contradicts (octet_of given) fin place octet ≡ false
unclashing given fin place octet same before = or_from (differs (octet_of given) octet) (ends_before fin place) (differs_not given octet same) (ends_not fin place before)

-- an octet of a segment that stands with those before it agrees with them
stood : (s : Segment) (before : List Segment) (stream : List ℕ) → Stands stream s before → AllStand s.sender before stream → (i : ℕ) → i < length (placed s before).octets → Agrees s before i
stood s before stream stands all i lt =
    let place = (placed s before).first + i in
    let octet = get_or (placed s before).octets i 0 in
    let at = stands.octets i lt in
    record {
      same = λ given h. same_Some given.octet octet (sym (given_stands s.sender before stream place given all h) ∙ at);
      within = λ fin h. omega (arith, fin_stands s.sender before stream fin all h, slice_get_within stream place octet at);
    }

-- an octet is given at or after each place below the end
given_above : (side : Side) (segments : List Segment) (n : ℕ) → n < end_of side segments → (p : ℕ) × (n ≤ p) × (is_some (given_of side segments p) ≡ true)
given_above side [] n lt = absurd (omega (arith, lt, no_end side))
given_above side (s ∷ before) n lt = elim (cases_side s.sender side) [
  | inr other ↦
      let rest = given_above side before n (omega (arith, lt, end_other s side before other)) in
      (rest.0, rest.1, ap is_some (given_other s side before rest.0 other) ∙ rest.2)
  | inl own ↦ elim (cases_lt n (end_of side before)) [
    | inl earlier ↦
        let rest = given_above side before n earlier in
        let given = some_is (given_of side before rest.0) rest.2 in
        (rest.0, rest.1, ap is_some (given_kept s side before rest.0 given.0 given.1))
    | inr past ↦ elim (cases_lt 0 (length (placed s before).octets)) [
      | inr none ↦
          let end : end_in (placed s before) ≡ 0 = ap (λ (t : Bool). cond t (after (placed s before)) 0) (le-ltb 0 (length (placed s before).octets) none) in
          absurd (omega (arith, lt, own_end s side before own, end, past))
      | inl some ↦
          let first = (placed s before).first in
          let octets = (placed s before).octets in
          let end : end_in (placed s before) ≡ first + length octets = ap (λ (t : Bool). cond t (after (placed s before)) 0) (lt-ltb 0 (length octets) some) in
          let p = first + length octets - 1 in
          let ge : n ≤ p = omega (arith, lt, own_end s side before own, end, past, some) in
          let piece = piece_within first octets (giver_of s) p (omega (arith, some)) (omega (arith, some)) in (
            p,
            ge,
            elim (some_or_none (given_of side before p)) [
              | inr was ↦ ap is_some (given_kept s side before p was.0 was.1)
              | inl free ↦ ap is_some (own_given s side before p own ∙ ap (λ o. option_or o (piece_at first octets (giver_of s) p)) free ∙ piece)
            ],
          )
    ]
  ]
]

-- which refusal it is
abbrev is_conflict : Fault → Bool
is_conflict (faults.Cut p) = false
is_conflict (faults.TimeBack p) = false
is_conflict (faults.NoConnection p) = false
is_conflict (faults.Several p) = false
is_conflict (faults.NoStart p) = false
is_conflict (faults.Conflict p from place) = true
is_conflict (faults.Missing p from place) = false
is_conflict (faults.AfterReset p from place) = false

abbrev is_missing : Fault → Bool
is_missing (faults.Cut p) = false
is_missing (faults.TimeBack p) = false
is_missing (faults.NoConnection p) = false
is_missing (faults.Several p) = false
is_missing (faults.NoStart p) = false
is_missing (faults.Conflict p from place) = false
is_missing (faults.Missing p from place) = true
is_missing (faults.AfterReset p from place) = false

-- none of the rules but one's tells a conflict, and none that something is missing
abbrev IsNo : (Fault → Bool) → Option Fault → Type 0
IsNo test o = (fault : Fault) → o ≡ Some fault → test fault ≡ false

chosen_no : (test : Fault → Bool) (b : Bool) (f : Fault) → test f ≡ false → IsNo test (cond b (Some f) None)
chosen_no test b f miss fault h = ap test (sym (cond_some b f fault h).1) ∙ miss

cut_no : (test : Fault → Bool) (s : Segment) → test (faults.Cut s.packet) ≡ false → IsNo test (cut s)
cut_no test s miss fault h = elim (cases_Bool s.is_whole) [
  | inl e ↦ absurd (none-some fault (sym (ap (λ (t : Bool). cond t None (Some (faults.Cut s.packet))) e) ∙ h))
  | inr e ↦ ap test (sym (same_Some (faults.Cut s.packet) fault (sym (ap (λ (t : Bool). cond t None (Some (faults.Cut s.packet))) e) ∙ h))) ∙ miss
]

time_no : (test : Fault → Bool) (s : Segment) (before : List Segment) → test (faults.TimeBack s.packet) ≡ false → IsNo test (time_back s before)
time_no test s [] miss fault h = absurd (none-some fault h)
time_no test s (last ∷ before) miss fault h = chosen_no test (nat_lt s.second last.second) (faults.TimeBack s.packet) miss fault h

start_no : (test : Fault → Bool) (s : Segment) (before : List Segment) → test (faults.NoStart s.packet) ≡ false → IsNo test (no_start s before)
start_no test s before miss fault h = chosen_no test ((nat_lt 0 (length s.octets) || s.fin) && is_none (start_of s.sender (s ∷ before))) (faults.NoStart s.packet) miss fault h

mapped_no : (test : Fault → Bool) (make : ℕ → Fault) (o : Option ℕ) → ((p : ℕ) → test (make p) ≡ false) → IsNo test (option_map make o)
mapped_no test make None miss fault h = absurd (none-some fault h)
mapped_no test make (Some p) miss fault h = ap test (sym (same_Some (make p) fault h)) ∙ miss p

reset_no : (test : Fault → Bool) (s : Segment) (before : List Segment) → ((p : ℕ) → test (faults.AfterReset s.packet s.sender p) ≡ false) → IsNo test (after_reset s before)
reset_no test s before miss fault h =
    let new = first_new (given_of s.sender before) (placed s before).first (placed s before).octets in
    let told = option_map (λ (p : ℕ). faults.AfterReset s.packet s.sender p) new in
    elim (cases_Bool (has_rst s.sender before)) [
      | inr e ↦ absurd (none-some fault (sym (ap (λ (t : Bool). cond t told None) e) ∙ h))
      | inl e ↦ mapped_no test (λ (p : ℕ). faults.AfterReset s.packet s.sender p) new miss fault (sym (ap (λ (t : Bool). cond t told None) e) ∙ h)
    ]

or_no : (test : Fault → Bool) (o p : Option Fault) → IsNo test o → IsNo test p → IsNo test (option_or o p)
or_no test None p a b fault h = b fault h
or_no test (Some x) p a b fault h = a fault h

-- the parts of a refusal
abbrev packet_in : Fault → ℕ
packet_in (faults.Cut p) = p
packet_in (faults.TimeBack p) = p
packet_in (faults.NoConnection p) = p
packet_in (faults.Several p) = p
packet_in (faults.NoStart p) = p
packet_in (faults.Conflict p from place) = p
packet_in (faults.Missing p from place) = p
packet_in (faults.AfterReset p from place) = p

abbrev side_in : Side → Fault → Side
side_in side (faults.Cut p) = side
side_in side (faults.TimeBack p) = side
side_in side (faults.NoConnection p) = side
side_in side (faults.Several p) = side
side_in side (faults.NoStart p) = side
side_in side (faults.Conflict p from place) = from
side_in side (faults.Missing p from place) = from
side_in side (faults.AfterReset p from place) = from

abbrev place_in : Fault → ℕ
place_in (faults.Cut p) = 0
place_in (faults.TimeBack p) = 0
place_in (faults.NoConnection p) = 0
place_in (faults.Several p) = 0
place_in (faults.NoStart p) = 0
place_in (faults.Conflict p from place) = place
place_in (faults.Missing p from place) = place
place_in (faults.AfterReset p from place) = place

-- a place at which the segment contradicts those before it
clash_is : (s : Segment) (o : Option ℕ) (packet : ℕ) (side : Side) (place : ℕ) → conflict_at s o ≡ Some (faults.Conflict packet side place) → (s.packet ≡ packet) × (s.sender ≡ side) × (o ≡ Some place)
clash_is s None packet side place h = absurd (none-some (faults.Conflict packet side place) h)
clash_is s (Some p) packet side place h =
    let same = same_Some (faults.Conflict s.packet s.sender p) (faults.Conflict packet side place) h in
    (ap packet_in same, ap (side_in s.sender) same, ap (λ (n : ℕ). Some n) (ap place_in same))

-- the segment that contradicts
record IsClash (s : Segment) (before : List Segment) (packet : ℕ) (side : Side) (place : ℕ) : Type 0 where
  is_packet : s.packet ≡ packet
  is_sender : s.sender ≡ side
  agree : (i : ℕ) → i < length (placed s before).octets → (placed s before).first + i < place → Agrees s before i
  contradicts : IsOtherOctet s before place ⊎ IsOtherFin s before place ⊎ IsEarlyFin s before place

octet_clash : (s : Segment) (before : List Segment) (packet : ℕ) (side : Side) (place : ℕ) → octet_conflict s before ≡ Some (faults.Conflict packet side place) → IsClash s before packet side place
octet_clash s before packet side place h =
    let piece : Piece = placed s before in
    let parts = clash_is s _ packet side place h in
    let first = found (given_of s.sender before) (fin_of s.sender before) piece.first piece.octets place parts.2 in
    record {
      is_packet = parts.0;
      is_sender = parts.1;
      agree = λ i lt below.
          let earlier : i < first.i = omega (arith, below, first.is) in
          let may = allowed (given_of s.sender before (piece.first + i)) (fin_of s.sender before) (piece.first + i) (get_or piece.octets i 0) (first.before i earlier) in
          record { same = may.0; within = may.1 };
      contradicts = inl (record {
        i = first.i;
        within = first.within;
        at = first.is;
        differs = λ agrees. both_ways _ (unclashing (given_of s.sender before (piece.first + first.i)) (fin_of s.sender before) (piece.first + first.i) (get_or piece.octets first.i 0) agrees.same agrees.within) first.clashes;
      });
    }

other_fin_at : (fin : Option ℕ) (place at : ℕ) → other_fin place fin ≡ Some at → (f : ℕ) × (fin ≡ Some f) × ((f ≡ place → ⊥) × (at ≡ min f place))
other_fin_at None place at h = absurd (none-some at h)
other_fin_at (Some f) place at h = elim (cases_Bool (nat_eq f place)) [
  | inl e ↦ absurd (none-some at (sym (ap (λ (t : Bool). cond t None (Some (min f place))) e) ∙ h))
  | inr ne ↦ (f, refl, (eqb-false f place ne, sym (same_Some (min f place) at (sym (ap (λ (t : Bool). cond t None (Some (min f place))) ne) ∙ h))))
]

fin_clash : (s : Segment) (before : List Segment) (packet : ℕ) (side : Side) (place : ℕ) → octet_conflict s before ≡ None → fin_conflict s before ≡ Some (faults.Conflict packet side place) → IsClash s before packet side place
fin_clash s before packet side place none h =
    let parts = clash_is s _ packet side place h in
    let fin = fin_of s.sender before in
    let at = after (placed s before) in
    let end = end_of s.sender (s ∷ before) in
    let told = option_or (other_fin at fin) (early_fin at end) in
    elim (cases_Bool s.fin) [
      | inr lacks ↦ absurd (none-some place (sym (ap (λ (t : Bool). cond t told None) lacks) ∙ parts.2))
      | inl has ↦
          record {
            is_packet = parts.0;
            is_sender = parts.1;
            agree = λ i lt below. octets_agree s before none i lt;
            contradicts = inr (elim (either_gives (other_fin at fin) (early_fin at end) place (sym (ap (λ (t : Bool). cond t told None) has) ∙ parts.2)) [
              | inl other ↦
                  let is = other_fin_at fin at place other in
                  inl (record { has_fin = has; fin = is.0; had_fin = is.1; differs = is.2.0; at = is.2.1 })
              | inr early ↦
                  let is = cond_some (nat_lt at end) at place early.1 in
                  let given = given_above s.sender (s ∷ before) at (ltb-true at end is.0) in
                  inr (record { has_fin = has; at = sym is.1; later = given.0; after_it = omega (arith, given.1, is.1); given = given.2 })
            ]);
          }
    ]

clash : (s : Segment) (before : List Segment) (packet : ℕ) (side : Side) (place : ℕ) → fault_at s before ≡ Some (faults.Conflict packet side place) → IsClash s before packet side place
clash s before packet side place h =
    let fault = faults.Conflict packet side place in
    let gone = λ (o : Option Fault) (miss : IsNo is_conflict o) (is : o ≡ Some fault). both_ways true (miss fault is) refl in
    elim (either_gives (cut s) _ fault h) [
      | inl is ↦ absurd (gone (cut s) (cut_no is_conflict s refl) is)
      | inr past ↦ elim (either_gives (time_back s before) _ fault past.1) [
        | inl is ↦ absurd (gone (time_back s before) (time_no is_conflict s before refl) is)
        | inr past' ↦ elim (either_gives (no_start s before) _ fault past'.1) [
          | inl is ↦ absurd (gone (no_start s before) (start_no is_conflict s before refl) is)
          | inr past'' ↦ elim (either_gives (octet_conflict s before) _ fault past''.1) [
            | inl is ↦ octet_clash s before packet side place is
            | inr none ↦ elim (either_gives (fin_conflict s before) _ fault none.1) [
              | inl is ↦ fin_clash s before packet side place none.0 is
              | inr past''' ↦ absurd (gone (after_reset s before) (reset_no is_conflict s before (λ p. refl)) past'''.1)
            ]
          ]
        ]
      ]
    ]

first_clash : (segments : List Segment) (packet : ℕ) (side : Side) (place : ℕ) → first_fault segments ≡ Some (faults.Conflict packet side place) → IsConflict segments packet side place
first_clash [] packet side place h = absurd (none-some (faults.Conflict packet side place) (sym no_fault_yet ∙ h))
first_clash (s ∷ before) packet side place h =
    elim (either_gives (first_fault before) (fault_at s before) (faults.Conflict packet side place) (sym (fault_more s before) ∙ h)) [
      | inl earlier ↦
          let rest = first_clash before packet side place earlier in
          record {
            s = rest.s;
            before = rest.before;
            later = s ∷ rest.later;
            among = ap (λ (xs : List Segment). s ∷ xs) rest.among;
            is_packet = rest.is_packet;
            is_sender = rest.is_sender;
            fine = rest.fine;
            agree = rest.agree;
            contradicts = rest.contradicts;
          }
      | inr now ↦
          let is = clash s before packet side place now.1 in
          record {
            s = s;
            before = before;
            later = [];
            among = refl;
            is_packet = is.is_packet;
            is_sender = is.is_sender;
            fine = now.0;
            agree = is.agree;
            contradicts = is.contradicts;
          }
    ]

-- no stream has a place for it
no_place : (s : Segment) (before : List Segment) (place : ℕ) (stream : List ℕ) → IsOtherOctet s before place ⊎ IsOtherFin s before place ⊎ IsEarlyFin s before place
    → AllStand s.sender (s ∷ before) stream → ⊥
no_place s before place stream clash stand = elim clash [
  | inl octet ↦ octet.differs (stood s before stream (stand.0 refl) stand.1 octet.i octet.within)
  | inr fins ↦ elim fins [
    | inl other ↦ other.differs (fin_stands s.sender before stream other.fin stand.1 other.had_fin ∙ sym ((stand.0 refl).fin other.has_fin))
    | inr early ↦
        let lt = given_within s.sender (s ∷ before) stream early.later stand early.given in
        absurd (omega (arith, lt, early.after_it, early.at, (stand.0 refl).fin early.has_fin))
  ]
]

conflict_unspelled : (segments : List Segment) (packet : ℕ) (side : Side) (place : ℕ) → IsConflict segments packet side place → SpellNone side segments
conflict_unspelled segments packet side place is stream spell =
    let all : AllStand side (is.later ++ (is.s ∷ is.before)) stream = subst (λ (xs : List Segment). AllStand side xs stream) is.among spell.stand in
    let stand : AllStand side (is.s ∷ is.before) stream = earlier_stand side is.later (is.s ∷ is.before) stream all in
    no_place is.s is.before place stream is.contradicts (subst (λ (t : Side). AllStand t (is.s ∷ is.before) stream) (sym is.is_sender) stand)

half_no : (test : Fault → Bool) (received sent : Option ℕ) → ((p : ℕ) → test (faults.NoStart p) ≡ false) → IsNo test (half_of received sent)
half_no test None None a fault h = absurd (none-some fault h)
half_no test (Some p) None a fault h = ap test (sym (same_Some (faults.NoStart p) fault h)) ∙ a p
half_no test None (Some q) a fault h = ap test (sym (same_Some (faults.NoStart q) fault h)) ∙ a q
half_no test (Some p) (Some q) a fault h = ap test (sym (same_Some (faults.NoStart (min p q)) fault h)) ∙ a (min p q)

missing_no : (test : Fault → Bool) (received sent : Option ℕ) (r s : ℕ) → ((p : ℕ) → test (faults.Missing p Peer r) ≡ false) → ((p : ℕ) → test (faults.Missing p Local s) ≡ false)
    → IsNo test (missing_of received sent r s)
missing_no test None None r s a b fault h = absurd (none-some fault h)
missing_no test (Some p) None r s a b fault h = ap test (sym (same_Some (faults.Missing p Peer r) fault h)) ∙ a p
missing_no test None (Some p) r s a b fault h = ap test (sym (same_Some (faults.Missing p Local s) fault h)) ∙ b p
missing_no test (Some p) (Some q) r s a b fault h = elim (cases_Bool (nat_lt q p)) [
  | inl lt ↦ ap test (sym (same_Some (faults.Missing q Local s) fault (sym (ap (λ (t : Bool). cond t (Some (faults.Missing q Local s)) (Some (faults.Missing p Peer r))) lt) ∙ h))) ∙ b q
  | inr ge ↦ ap test (sym (same_Some (faults.Missing p Peer r) fault (sym (ap (λ (t : Bool). cond t (Some (faults.Missing q Local s)) (Some (faults.Missing p Peer r))) ge) ∙ h))) ∙ a p
]

pub conflict_is_first : (segments : List Segment) (packet : ℕ) (side : Side) (place : ℕ) → refusal_of segments ≡ Some (faults.Conflict packet side place) → IsConflict segments packet side place × SpellNone side segments
conflict_is_first segments packet side place h =
    let fault = faults.Conflict packet side place in
    elim (either_gives (first_fault segments) (option_or (half_of (half_shown Peer segments) (half_shown Local segments)) (missing_of (missing Peer segments) (missing Local segments) (next_of Peer segments) (next_of Local segments))) fault h) [
      | inl is ↦
          let first = first_clash segments packet side place is in
          (first, conflict_unspelled segments packet side place first)
      | inr end ↦ absurd (both_ways true (or_no is_conflict _ _ (half_no is_conflict (half_shown Peer segments) (half_shown Local segments) (λ p. refl))
          (missing_no is_conflict (missing Peer segments) (missing Local segments) (next_of Peer segments) (next_of Local segments) (λ p. refl) (λ p. refl)) fault end.1) refl)
    ]

-- no rule of a segment tells that something is missing
at_no_missing : (s : Segment) (before : List Segment) → IsNo is_missing (fault_at s before)
at_no_missing s before =
    or_no is_missing (cut s) _ (cut_no is_missing s refl)
    (or_no is_missing (time_back s before) _ (time_no is_missing s before refl)
    (or_no is_missing (no_start s before) _ (start_no is_missing s before refl)
    (or_no is_missing (octet_conflict s before) _ (mapped_no is_missing (λ (p : ℕ). faults.Conflict s.packet s.sender p) _ (λ p. refl))
    (or_no is_missing (fin_conflict s before) _ (mapped_no is_missing (λ (p : ℕ). faults.Conflict s.packet s.sender p) _ (λ p. refl))
    (reset_no is_missing s before (λ p. refl))))))

first_no_missing : (segments : List Segment) → IsNo is_missing (first_fault segments)
first_no_missing [] fault h = absurd (none-some fault (sym no_fault_yet ∙ h))
first_no_missing (s ∷ before) fault h =
    or_no is_missing (first_fault before) (fault_at s before) (first_no_missing before) (at_no_missing s before) fault (sym (fault_more s before) ∙ h)

-- what is missing, of the side told
record IsMissing (segments : List Segment) (packet : ℕ) (side : Side) (place : ℕ) : Type 0 where
  lacks : missing side segments ≡ Some packet
  at : place ≡ next_of side segments

missing_is : (segments : List Segment) (own : Side) (p packet : ℕ) (side : Side) (place : ℕ) → missing own segments ≡ Some p
    → Some (faults.Missing p own (next_of own segments)) ≡ Some (faults.Missing packet side place) → IsMissing segments packet side place
missing_is segments own p packet side place lacks h =
    let same = same_Some (faults.Missing p own (next_of own segments)) (faults.Missing packet side place) h in
    let sides : own ≡ side = ap (side_in own) same in
    record {
      lacks = sym (ap (λ (t : Side). missing t segments) sides) ∙ lacks ∙ ap (λ (n : ℕ). Some n) (ap packet_in same);
      at = sym (ap place_in same) ∙ ap (λ (t : Side). next_of t segments) sides;
    }

of_missing : (segments : List Segment) (received sent : Option ℕ) (packet : ℕ) (side : Side) (place : ℕ) → missing Peer segments ≡ received → missing Local segments ≡ sent
    → missing_of received sent (next_of Peer segments) (next_of Local segments) ≡ Some (faults.Missing packet side place) → IsMissing segments packet side place
of_missing segments None None packet side place a b h = absurd (none-some (faults.Missing packet side place) h)
of_missing segments (Some p) None packet side place a b h = missing_is segments Peer p packet side place a h
of_missing segments None (Some q) packet side place a b h = missing_is segments Local q packet side place b h
of_missing segments (Some p) (Some q) packet side place a b h =
    let told = λ (t : Bool). cond t (Some (faults.Missing q Local (next_of Local segments))) (Some (faults.Missing p Peer (next_of Peer segments))) in
    elim (cases_Bool (nat_lt q p)) [
      | inl lt ↦ missing_is segments Local q packet side place b (sym (ap told lt) ∙ h)
      | inr ge ↦ missing_is segments Peer p packet side place a (sym (ap told ge) ∙ h)
    ]

-- a stream that is spelled has all octets that are known, and no more
spelled_size : (side : Side) (segments : List Segment) (stream : List ℕ) → Spell side segments stream → length stream ≡ next_of side segments
spelled_size side segments stream spell =
    let n = next_of side segments in
    elim (cases_lt n (length stream)) [
      | inl lt ↦
          let given = spell.given n lt in
          absurd (both_ways (is_some (given_of side segments n)) (ap is_some (next_lacks side segments)) given)
      | inr le ↦ elim (cases_lt (length stream) n) [
        | inl lt ↦
            let within : length stream < length stream = given_within side segments stream (length stream) spell.stand (below_next side segments (length stream) lt) in
            absurd (omega (arith, within))
        | inr ge ↦ omega (arith, le, ge)
      ]
    ]

nothing_missing : (side : Side) (segments : List Segment) (stream : List ℕ) → Spell side segments stream → missing side segments ≡ None
nothing_missing side segments stream spell =
    let n = next_of side segments in
    let fin = fin_of side segments in
    let size = spelled_size side segments stream spell in
    let limit = length stream + fin_count side segments in
    let told = λ (t : Bool). cond t (first_shown side segments (n + 1)) (first_shown side segments n) in
    elim (some_or_none fin) [
      | inl none ↦
          let zero_more : fin_count side segments ≡ 0 = ap (λ (o : Option ℕ). cond (is_some o) 1 0) none in
          let q : limit ≡ n = omega (arith, size, zero_more) in
          ap told (ap (λ (o : Option ℕ). is_fin o n) none)
          ∙ nothing_shown side segments stream n spell.stand (subst (AcknowledgeBelow side segments) q spell.acknowledged) (omega (arith, size))
      | inr has ↦
          let one_more : fin_count side segments ≡ 1 = ap (λ (o : Option ℕ). cond (is_some o) 1 0) has.1 in
          let q : limit ≡ n + 1 = omega (arith, size, one_more) in
          let at : nat_eq has.0 n ≡ true = eq-eqb has.0 n (fin_stands side segments stream has.0 spell.stand has.1 ∙ size) in
          ap told (ap (λ (o : Option ℕ). is_fin o n) has.1 ∙ at)
          ∙ nothing_shown side segments stream (n + 1) spell.stand (subst (AcknowledgeBelow side segments) q spell.acknowledged) (omega (arith, size))
    ]

-- nor does half a connection
past_half : (received sent : Option ℕ) (more : Option Fault) (packet : ℕ) (side : Side) (place : ℕ) → option_or (half_of received sent) more ≡ Some (faults.Missing packet side place) → more ≡ Some (faults.Missing packet side place)
past_half received sent more packet side place h =
    let fault = faults.Missing packet side place in
    elim (either_gives (half_of received sent) more fault h) [
      | inl is ↦ absurd (both_ways true (half_no is_missing received sent (λ p. refl) fault is) refl)
      | inr end ↦ end.1
    ]

pub missing_is_first : (segments : List Segment) (packet : ℕ) (side : Side) (place : ℕ) → refusal_of segments ≡ Some (faults.Missing packet side place) → IsFirstHole side segments place × SpellNone side segments
missing_is_first segments packet side place h =
    let fault = faults.Missing packet side place in
    elim (either_gives (first_fault segments) (option_or (half_of (half_shown Peer segments) (half_shown Local segments)) (missing_of (missing Peer segments) (missing Local segments) (next_of Peer segments) (next_of Local segments))) fault h) [
      | inl is ↦ absurd (both_ways true (first_no_missing segments fault is) refl)
      | inr end ↦
          let is = of_missing segments (missing Peer segments) (missing Local segments) packet side place refl refl (past_half (half_shown Peer segments) (half_shown Local segments) _ packet side place end.1) in (
            record {
              below = λ p lt. below_next side segments p (omega (arith, lt, is.at));
              lacks = ap (given_of side segments) is.at ∙ next_lacks side segments;
            },
            λ stream spell. none-some packet (sym (nothing_missing side segments stream spell) ∙ is.lacks),
          )
    ]
