-- The segments of a connection that isn't refused spell both its streams.
use Rattle.std.proofs.Common.{◌≡◌, ◌<◌, ◌≤◌, ◌+◌, ◌-◌, ◌∙◌, ℕ, Some, None, Option, Bool, true, false, cond, nat_lt, nat_le, nat_eq, List, [], ◌∷◌, refl, sym, ap, arith, zero, suc, inl, inr, length, get_or, min, not, ◌||◌, subst}
use Rattle.std.specs.List.{slice_get}
use Rattle.std.specs.Option.{option_or, option_map, is_some}
use Rattle.std.proofs.lemmas.Bool.{cases_lt, cases_eq, cases_Bool, lt-ltb, eqb-true, eqb-false, leb-false, or_parts, not-false, both_ways}
use Rattle.std.proofs.lemmas.Option.{none-some, same_Some}
use Rattle.streams.specs.declared.connection.Connection.{Connection}
use Rattle.streams.specs.declared.connection.Stream.{Stream}
use Rattle.streams.specs.declared.fault.Fault.TheVariants as faults
use Rattle.streams.specs.declared.gathered.Given.{Given}
use Rattle.streams.specs.declared.gathered.Giver.{Giver}
use Rattle.streams.specs.declared.passed.Side.{Side}
use Rattle.streams.specs.declared.passed.Side.TheVariants.{Local, Peer}
use Rattle.streams.specs.Given.{piece_at, first_conflict, contradicts, octet_of, differs, ends_before}
use Rattle.streams.specs.Passed.{Segment, giver_of, is_side}
use Rattle.streams.specs.Places.{Piece, after}
use Rattle.streams.specs.History.{start_of, given_of, next_of, placed, end_in, end_of, fin_of}
use Rattle.streams.specs.Refusals.{cut, time_back, no_start, octet_conflict, fin_conflict, conflict_at, other_fin, early_fin, fault_at, first_fault, half_of, missing_of}
use Rattle.streams.specs.Places.{shown_by_acknowledgment}
use Rattle.streams.specs.Sent.{first_shown, is_fin, half_shown, missing}
use Rattle.streams.specs.Directions.{shown_by_own}
use Rattle.streams.specs.Choice.{IsStreamOf, refusal_of, numbered_one, Tells, IsAnswered}
use Rattle.streams.specs.Spelling.{Stands, AllStand, AcknowledgeBelow, Spell, Agrees, fin_count}
use Rattle.streams.proofs.Known.{joined}
use Rattle.streams.proofs.Histories.{own_side, given_other, end_other, fin_other, shown_other}
use Rattle.streams.proofs.Holes.{next_lacks, below_next}
use Rattle.streams.proofs.Moments.{cases_side, nothing, no_fin, own_given, own_end, own_fin, own_shown, either_gives, neither, some_or_none, some_is, of_piece, given_kept, fin_kept}
use Rattle.streams.proofs.Pieces.{piece_within}
use Rattle.streams.proofs.Taking.{fault_more}

-- an octet that contradicts nothing
abbrev pub Allows : Option Given → Option ℕ → ℕ → ℕ → Type 0
Allows given fin place octet =
    ((g : Given) → given ≡ Some g → g.octet ≡ octet) × ((f : ℕ) → fin ≡ Some f → place < f)

pub allowed : (given : Option Given) (fin : Option ℕ) (place octet : ℕ) → contradicts (octet_of given) fin place octet ≡ false → Allows given fin place octet
allowed given fin place octet h =
    let parts = or_parts (differs (octet_of given) octet) (ends_before fin place) h in (
      λ g is.
          let same : not (nat_eq g.octet octet) ≡ false = sym (ap (λ (o : Option Given). differs (octet_of o) octet) is) ∙ parts.0 in
          eqb-true g.octet octet (not-false (nat_eq g.octet octet) same),
      λ f is.
          let before : nat_le f place ≡ false = sym (ap (λ (o : Option ℕ). ends_before o place) is) ∙ parts.1 in
          leb-false f place before,
    )

-- no octet of a piece contradicts what was given before
pub clear : (given : ℕ → Option Given) (fin : Option ℕ) (place : ℕ) (octets : List ℕ) → first_conflict given fin place octets ≡ None → (i : ℕ) → i < length octets → contradicts (octet_of (given (place + i))) fin (place + i) (get_or octets i 0) ≡ false
clear given fin place [] none i lt = absurd (omega arith)
clear given fin place (octet ∷ octets) none zero lt =
    elim (cases_Bool (contradicts (octet_of (given place)) fin place octet)) [
      | inl hit ↦ absurd (none-some place (sym none ∙ ap (λ (t : Bool). cond t (Some place) (first_conflict given fin (place + 1) octets)) hit))
      | inr miss ↦
          let at : place + 0 ≡ place = omega arith in
          ap (λ (k : ℕ). contradicts (octet_of (given k)) fin k octet) at ∙ miss
    ]
clear given fin place (octet ∷ octets) none (suc i) lt =
    elim (cases_Bool (contradicts (octet_of (given place)) fin place octet)) [
      | inl hit ↦ absurd (none-some place (sym none ∙ ap (λ (t : Bool). cond t (Some place) (first_conflict given fin (place + 1) octets)) hit))
      | inr miss ↦
          let rest : first_conflict given fin (place + 1) octets ≡ None = sym (ap (λ (t : Bool). cond t (Some place) (first_conflict given fin (place + 1) octets)) miss) ∙ none in
          let at : place + suc i ≡ place + 1 + i = omega arith in
          ap (λ (k : ℕ). contradicts (octet_of (given k)) fin k (get_or octets i 0)) at
          ∙ clear given fin (place + 1) octets rest i (omega arith)
    ]

unconflicting : (s : Segment) (o : Option ℕ) → conflict_at s o ≡ None → o ≡ None
unconflicting s None h = refl
unconflicting s (Some p) h = absurd (none-some (faults.Conflict s.packet s.sender p) (sym h))

pub octets_agree : (s : Segment) (before : List Segment) → octet_conflict s before ≡ None → (i : ℕ) → i < length (placed s before).octets → Agrees s before i
octets_agree s before none i lt =
    let piece : Piece = placed s before in
    let miss = clear (given_of s.sender before) (fin_of s.sender before) piece.first piece.octets (unconflicting s _ none) i lt in
    let may = allowed (given_of s.sender before (piece.first + i)) (fin_of s.sender before) (piece.first + i) (get_or piece.octets i 0) miss in
    record { same = may.0; within = may.1 }

-- a segment that contradicts none before it
record IsClear (s : Segment) (before : List Segment) : Type 0 where
  octets : (i : ℕ) → i < length (placed s before).octets → Agrees s before i
  other : s.fin ≡ true → other_fin (after (placed s before)) (fin_of s.sender before) ≡ None
  early : s.fin ≡ true → early_fin (after (placed s before)) (end_of s.sender (s ∷ before)) ≡ None

is_clear : (s : Segment) (before : List Segment) → fault_at s before ≡ None → IsClear s before
is_clear s before none =
    let past_cut = neither (cut s) _ none in
    let past_time = neither (time_back s before) _ past_cut.1 in
    let past_start = neither (no_start s before) _ past_time.1 in
    let past_octets = neither (octet_conflict s before) _ past_start.1 in
    let past_fin = neither (fin_conflict s before) _ past_octets.1 in
    let rest = unconflicting s _ past_fin.0 in
    let both = λ (has : s.fin ≡ true). neither (other_fin (after (placed s before)) (fin_of s.sender before)) (early_fin (after (placed s before)) (end_of s.sender (s ∷ before)))
    (sym (ap (λ (t : Bool). cond t (option_or (other_fin (after (placed s before)) (fin_of s.sender before)) (early_fin (after (placed s before)) (end_of s.sender (s ∷ before)))) None) has) ∙ rest) in
    record { octets = octets_agree s before past_octets.0; other = λ has. (both has).0; early = λ has. (both has).1 }

clear_step : (s : Segment) (before : List Segment) → first_fault (s ∷ before) ≡ None → (first_fault before ≡ None) × (IsClear s before)
clear_step s before none =
    let parts = neither (first_fault before) (fault_at s before) (sym (fault_more s before) ∙ none) in
    (parts.0, is_clear s before parts.1)

same_fin : (place fin : ℕ) → other_fin place (Some fin) ≡ None → fin ≡ place
same_fin place fin h = elim (cases_Bool (nat_eq fin place)) [
  | inl e ↦ eqb-true fin place e
  | inr ne ↦ absurd (none-some (min fin place) (sym h ∙ ap (λ (t : Bool). cond t None (Some (min fin place))) ne))
]

not_early : (place end : ℕ) → early_fin place end ≡ None → end ≤ place
not_early place end h = elim (cases_lt place end) [
  | inr le ↦ le
  | inl lt ↦ absurd (none-some place (sym h ∙ ap (λ (t : Bool). cond t (Some place) None) (lt-ltb place end lt)))
]

-- each octet of a segment is given, as the segment has it
octet_given : (s : Segment) (before : List Segment) → IsClear s before → (i : ℕ) → i < length (placed s before).octets
    → (given : Given) × (given_of s.sender (s ∷ before) ((placed s before).first + i) ≡ Some given) × (given.octet ≡ get_or (placed s before).octets i 0)
octet_given s before clear i lt =
    let first = (placed s before).first in
    let octets = (placed s before).octets in
    let place = first + i in
    let more = own_given s s.sender before place refl in
    let back : place - first ≡ i = omega arith in
    elim (some_or_none (given_of s.sender before place)) [
      | inr was ↦ (was.0, given_kept s s.sender before place was.0 was.1, (clear.octets i lt).same was.0 was.1)
      | inl free ↦ (
        record { octet = get_or octets (place - first) 0; giver = giver_of s },
        more ∙ ap (λ o. option_or o (piece_at first octets (giver_of s) place)) free ∙ piece_within first octets (giver_of s) place (omega arith) (omega arith),
        ap (λ (k : ℕ). get_or octets k 0) back,
      )
    ]

segment_stands : (s : Segment) (before : List Segment) (stream : List ℕ) → IsClear s before
    → ((place : ℕ) (given : Given) → given_of s.sender (s ∷ before) place ≡ Some given → slice_get stream place ≡ Some given.octet)
    → ((fin : ℕ) → fin_of s.sender (s ∷ before) ≡ Some fin → fin ≡ length stream)
    → Stands stream s before
segment_stands s before stream clear has ends = record {
  octets = λ i lt.
      let given = octet_given s before clear i lt in
      has ((placed s before).first + i) given.0 given.1 ∙ ap (λ (o : ℕ). Some o) given.2;
  fin = λ fin. elim (some_or_none (fin_of s.sender before)) [
    | inr was ↦
        let same : was.0 ≡ after (placed s before) = same_fin (after (placed s before)) was.0 (sym (ap (other_fin (after (placed s before))) was.1) ∙ clear.other fin) in
        sym same ∙ ends was.0 (fin_kept s s.sender before was.0 was.1)
    | inl free ↦
        ends (after (placed s before)) (own_fin s s.sender before refl
        ∙ ap (λ o. option_or o (cond s.fin (Some (after (placed s before))) None)) free
        ∙ ap (λ (t : Bool). cond t (Some (after (placed s before))) None) fin)
  ];
}

all_stand : (side : Side) (segments : List Segment) (stream : List ℕ) → first_fault segments ≡ None
    → ((place : ℕ) (given : Given) → given_of side segments place ≡ Some given → slice_get stream place ≡ Some given.octet)
    → ((fin : ℕ) → fin_of side segments ≡ Some fin → fin ≡ length stream)
    → AllStand side segments stream
all_stand side [] stream none has ends = tt
all_stand side (s ∷ before) stream none has ends =
    let parts = clear_step s before none in (
      λ own. segment_stands s before stream parts.1
          (λ place given h. has place given (subst (λ (t : Side). given_of t (s ∷ before) place ≡ Some given) own h))
          (λ fin h. ends fin (subst (λ (t : Side). fin_of t (s ∷ before) ≡ Some fin) own h)),
      all_stand side before stream parts.0
          (λ place given h. has place given (given_kept s side before place given h))
          (λ fin h. ends fin (fin_kept s side before fin h)),
    )

-- octets given stand below the end
given_below_end : (side : Side) (segments : List Segment) (place : ℕ) (given : Given) → given_of side segments place ≡ Some given → place < end_of side segments
given_below_end side [] place given h = absurd (none-some given (sym (nothing side place) ∙ h))
given_below_end side (s ∷ before) place given h = elim (cases_side s.sender side) [
  | inr other ↦ omega (arith, end_other s side before other, given_below_end side before place given (sym (given_other s side before place other) ∙ h))
  | inl own ↦ elim (either_gives _ _ given (sym (own_given s side before place own) ∙ h)) [
    | inl earlier ↦ omega (arith, own_end s side before own, given_below_end side before place given earlier)
    | inr now ↦
        let of = of_piece _ _ _ place given now.1 in
        let size : 0 < length (placed s before).octets = omega (arith, of.ge, of.lt) in
        let end : end_in (placed s before) ≡ after (placed s before) = ap (λ (t : Bool). cond t (after (placed s before)) 0) (lt-ltb 0 (length (placed s before).octets) size) in
        omega (arith, own_end s side before own, of.lt, end)
  ]
]

-- and before the FIN
given_before_fin : (side : Side) (segments : List Segment) (place : ℕ) (given : Given) (fin : ℕ) → first_fault segments ≡ None → given_of side segments place ≡ Some given → fin_of side segments ≡ Some fin → place < fin
given_before_fin side [] place given fin none h f = absurd (none-some given (sym (nothing side place) ∙ h))
given_before_fin side (s ∷ before) place given fin none h f =
    let parts = clear_step s before none in
    elim (cases_side s.sender side) [
      | inr other ↦ given_before_fin side before place given fin parts.0 (sym (given_other s side before place other) ∙ h) (sym (fin_other s side before other) ∙ f)
      | inl own ↦ elim (either_gives _ _ fin (sym (own_fin s side before own) ∙ f)) [
        | inl had ↦ elim (either_gives _ _ given (sym (own_given s side before place own) ∙ h)) [
          | inl earlier ↦ given_before_fin side before place given fin parts.0 earlier had
          | inr now ↦
              let of = of_piece _ _ _ place given now.1 in
              let ge : (placed s before).first ≤ place = of.ge in
              let i = place - (placed s before).first in
              let at : (placed s before).first + i ≡ place = omega arith in
              let before_it = (parts.1.octets i (omega (arith, of.lt))).within fin (subst (λ (t : Side). fin_of t before ≡ Some fin) (sym own) had) in
              omega (arith, at, before_it)
        ]
        | inr now ↦ elim (cases_Bool s.fin) [
          | inr lacks ↦ absurd (none-some fin (sym (ap (λ (t : Bool). cond t (Some (after (placed s before))) None) lacks) ∙ now.1))
          | inl has ↦
              let at : after (placed s before) ≡ fin = same_Some _ fin (sym (ap (λ (t : Bool). cond t (Some (after (placed s before))) None) has) ∙ now.1) in
              let end : end_of s.sender (s ∷ before) ≤ after (placed s before) = not_early _ _ (parts.1.early has) in
              let within : place < end_of side (s ∷ before) = given_below_end side (s ∷ before) place given h in
              let same : end_of s.sender (s ∷ before) ≡ end_of side (s ∷ before) = ap (λ (t : Side). end_of t (s ∷ before)) own in
              omega arith
        ]
      ]
    ]

-- what no packet shows to have been sent
not_below : (place below packet : ℕ) → cond (nat_lt place below) (Some packet) None ≡ None → below ≤ place
not_below place below packet h = elim (cases_lt place below) [
  | inr le ↦ le
  | inl lt ↦ absurd (none-some packet (sym h ∙ ap (λ (t : Bool). cond t (Some packet) None) (lt-ltb place below lt)))
]

own_unshown : (s : Segment) (side : Side) (before : List Segment) (q : ℕ) → s.sender ≡ side → first_shown side (s ∷ before) q ≡ None → (first_shown side before q ≡ None) × (shown_by_own s (placed s before) ≤ q)
own_unshown s side before q own none =
    let parts = neither (first_shown side before q) _ (sym (own_shown s side before q own) ∙ none) in
    (parts.0, not_below q (shown_by_own s (placed s before)) s.packet parts.1)

other_unshown : (s : Segment) (side : Side) (before : List Segment) (q : ℕ) → is_side s.sender side ≡ false → first_shown side (s ∷ before) q ≡ None
    → (first_shown side before q ≡ None) × (shown_by_acknowledgment (start_of side before) (next_of side before) s.acknowledgment s.rst ≤ q)
other_unshown s side before q other none =
    let parts = neither (first_shown side before q) _ (sym (shown_other s side before q other) ∙ none) in
    (parts.0, not_below q (shown_by_acknowledgment (start_of side before) (next_of side before) s.acknowledgment s.rst) s.packet parts.1)

-- a segment with octets shows that all but its last were sent, and one with a FIN that all were
shows_octets : (s : Segment) (piece : Piece) → 0 < length piece.octets → after piece ≤ shown_by_own s piece + 1
shows_octets s piece some =
    let shown = λ (t u : Bool). cond (t || u) (cond u (after piece) (after piece - 1)) 0 in
    let is : shown_by_own s piece ≡ shown true s.fin = ap (λ (t : Bool). shown t s.fin) (lt-ltb 0 (length piece.octets) some) in
    elim (cases_Bool s.fin) [
      | inl has ↦ omega (arith, is ∙ ap (λ (u : Bool). shown true u) has)
      | inr lacks ↦ omega (arith, is ∙ ap (λ (u : Bool). shown true u) lacks)
    ]

shows_fin : (s : Segment) (piece : Piece) → s.fin ≡ true → after piece ≤ shown_by_own s piece
shows_fin s piece has =
    let shown = λ (t u : Bool). cond (t || u) (cond u (after piece) (after piece - 1)) 0 in
    let t = nat_lt 0 (length piece.octets) in
    let is : shown_by_own s piece ≡ shown t true = ap (shown t) has in
    elim (cases_Bool t) [
      | inl hit ↦ omega (arith, is ∙ ap (λ (v : Bool). shown v true) hit)
      | inr miss ↦ omega (arith, is ∙ ap (λ (v : Bool). shown v true) miss)
    ]

given_unshown : (side : Side) (segments : List Segment) (q place : ℕ) (given : Given) → first_shown side segments q ≡ None → given_of side segments place ≡ Some given → place ≤ q
given_unshown side [] q place given none h = absurd (none-some given (sym (nothing side place) ∙ h))
given_unshown side (s ∷ before) q place given none h = elim (cases_side s.sender side) [
  | inr other ↦ given_unshown side before q place given (other_unshown s side before q other none).0 (sym (given_other s side before place other) ∙ h)
  | inl own ↦
      let parts = own_unshown s side before q own none in
      elim (either_gives _ _ given (sym (own_given s side before place own) ∙ h)) [
        | inl earlier ↦ given_unshown side before q place given parts.0 earlier
        | inr now ↦
            let of = of_piece _ _ _ place given now.1 in
            let size : 0 < length (placed s before).octets = omega (arith, of.ge, of.lt) in
            omega (arith, of.lt, parts.1, shows_octets s (placed s before) size)
      ]
]

fin_unshown : (side : Side) (segments : List Segment) (q fin : ℕ) → first_shown side segments q ≡ None → fin_of side segments ≡ Some fin → fin ≤ q
fin_unshown side [] q fin none h = absurd (none-some fin (sym (no_fin side) ∙ h))
fin_unshown side (s ∷ before) q fin none h = elim (cases_side s.sender side) [
  | inr other ↦ fin_unshown side before q fin (other_unshown s side before q other none).0 (sym (fin_other s side before other) ∙ h)
  | inl own ↦
      let parts = own_unshown s side before q own none in
      elim (either_gives _ _ fin (sym (own_fin s side before own) ∙ h)) [
        | inl earlier ↦ fin_unshown side before q fin parts.0 earlier
        | inr now ↦ elim (cases_Bool s.fin) [
          | inr lacks ↦ absurd (none-some fin (sym (ap (λ (t : Bool). cond t (Some (after (placed s before))) None) lacks) ∙ now.1))
          | inl has ↦
              let at : after (placed s before) ≡ fin = same_Some _ fin (sym (ap (λ (t : Bool). cond t (Some (after (placed s before))) None) has) ∙ now.1) in
              omega (arith, at, parts.1, shows_fin s (placed s before) has)
        ]
      ]
]

acknowledged_below : (side : Side) (segments : List Segment) (q limit : ℕ) → q ≤ limit → first_shown side segments q ≡ None → AcknowledgeBelow side segments limit
acknowledged_below side [] q limit le none = tt
acknowledged_below side (s ∷ before) q limit le none = elim (cases_side s.sender side) [
  | inl own ↦ (
    λ other. absurd (both_ways _ other (ap (λ (t : Side). is_side s.sender t) (sym own) ∙ own_side s.sender)),
    acknowledged_below side before q limit le (own_unshown s side before q own none).0,
  )
  | inr other ↦
      let parts = other_unshown s side before q other none in
      (λ _. omega (arith, parts.1, le), acknowledged_below side before q limit le parts.0)
]

-- the octet of what is known
octet_is : (octet : Option ℕ) (giver : Option Giver) (given : Given) → joined octet giver ≡ Some given → octet ≡ Some given.octet
octet_is None giver given h = absurd (none-some given h)
octet_is (Some o) None given h = absurd (none-some given h)
octet_is (Some o) (Some g) given h = ap (λ (x : Option Given). option_map (λ (y : Given). y.octet) x) h

-- the FIN stands right after the octets known, or there is none
fin_at : (fin : Option ℕ) (next : ℕ) → is_fin fin next ≡ true → fin ≡ Some next
fin_at None next h = absurd (grind arith)
fin_at (Some f) next h = ap (λ (n : ℕ). Some n) (eqb-true f next h)

-- where nothing is missing: how far it is shown to have been sent, and what then holds
record IsWhole (side : Side) (segments : List Segment) (q : ℕ) : Type 0 where
  unshown : first_shown side segments q ≡ None
  limit : q ≤ next_of side segments + fin_count side segments
  fin : (f : ℕ) → fin_of side segments ≡ Some f → f ≡ next_of side segments
  within : (place : ℕ) (given : Given) → given_of side segments place ≡ Some given → place < next_of side segments

whole : (side : Side) (segments : List Segment) → first_fault segments ≡ None → missing side segments ≡ None → (q : ℕ) × IsWhole side segments q
whole side segments fine none =
    let n = next_of side segments in
    let fin = fin_of side segments in
    let told = λ (t : Bool). cond t (first_shown side segments (n + 1)) (first_shown side segments n) in
    elim (cases_Bool (is_fin fin n)) [
      | inl there ↦
          let at : fin ≡ Some n = fin_at fin n there in
          let unshown : first_shown side segments (n + 1) ≡ None = sym (ap told there) ∙ none in
          let one : fin_count side segments ≡ 1 = ap (λ (o : Option ℕ). cond (is_some o) 1 0) at in (
            n + 1,
            record {
              unshown = unshown;
              limit = omega (arith, one);
              fin = λ f h. same_Some f n (sym h ∙ at);
              within = λ place given h. given_before_fin side segments place given n fine h at;
            },
          )
      | inr elsewhere ↦
          let unshown : first_shown side segments n ≡ None = sym (ap told elsewhere) ∙ none in (
            n,
            record {
              unshown = unshown;
              limit = omega arith;
              fin = λ f h.
                  let ne : nat_eq f n ≡ false = sym (ap (λ (o : Option ℕ). is_fin o n) h) ∙ elsewhere in
                  let lt : f < n = omega (arith, fin_unshown side segments n f unshown h, eqb-false f n ne) in
                  let given = some_is (given_of side segments f) (below_next side segments f lt) in
                  let before : f < f = given_before_fin side segments f given.0 f fine given.1 h in
                  absurd (omega (arith, before));
              within = λ place given h. elim (cases_eq place n) [
                | inl e ↦ absurd (none-some given (sym (ap (given_of side segments) e ∙ next_lacks side segments) ∙ h))
                | inr ne ↦ omega (arith, ne, given_unshown side segments n place given unshown h)
              ];
            },
          )
    ]

-- the stream that is answered is spelled
stream_spelled : (side : Side) (segments : List Segment) (stream : Stream) → first_fault segments ≡ None → missing side segments ≡ None → IsStreamOf side segments stream → Spell side segments stream.octets.now
stream_spelled side segments stream fine none of =
    let told = whole side segments fine none in
    let size : length stream.octets.now ≡ next_of side segments = of.count in
    record {
      stand = all_stand side segments stream.octets.now fine
          (λ place given h.
          let lt : place < length stream.octets.now = omega (arith, size, told.1.within place given h) in
          octet_is (slice_get stream.octets.now place) _ given (of.given place lt ∙ h))
          (λ fin h. told.1.fin fin h ∙ sym size);
      given = λ place lt. below_next side segments place (omega (arith, size, lt));
      acknowledged = acknowledged_below side segments told.0 (length stream.octets.now + fin_count side segments) (omega (arith, size, told.1.limit)) told.1.unshown;
    }

none_missing : (received sent : Option ℕ) (r s : ℕ) → missing_of received sent r s ≡ None → (received ≡ None) × (sent ≡ None)
none_missing None None r s h = (refl, refl)
none_missing (Some p) None r s h = absurd (none-some (faults.Missing p Peer r) (sym h))
none_missing None (Some p) r s h = absurd (none-some (faults.Missing p Local s) (sym h))
none_missing (Some p) (Some q) r s h = elim (cases_Bool (nat_lt q p)) [
  | inl lt ↦ absurd (none-some (faults.Missing q Local s) (sym h ∙ ap (λ (t : Bool). cond t (Some (faults.Missing q Local s)) (Some (faults.Missing p Peer r))) lt))
  | inr ge ↦ absurd (none-some (faults.Missing p Peer r) (sym h ∙ ap (λ (t : Bool). cond t (Some (faults.Missing q Local s)) (Some (faults.Missing p Peer r))) ge))
]

streams_spelled : (segments : List Segment) (connection : Connection) → refusal_of segments ≡ None → Tells segments connection → Spell Peer segments connection.received.octets.now × Spell Local segments connection.sent.octets.now
streams_spelled [] connection fine tells = absurd tells
streams_spelled (s ∷ before) connection fine tells =
    let parts = neither (first_fault (s ∷ before)) _ fine in
    let end = neither (half_of (half_shown Peer (s ∷ before)) (half_shown Local (s ∷ before))) _ parts.1 in
    let none = none_missing (missing Peer (s ∷ before)) (missing Local (s ∷ before)) (next_of Peer (s ∷ before)) (next_of Local (s ∷ before)) end.1 in (
      stream_spelled Peer (s ∷ before) connection.received parts.0 none.0 tells.received,
      stream_spelled Local (s ∷ before) connection.sent parts.0 none.1 tells.sent,
    )

pub answered_is_spelled : (number : Option ℕ) (last_packet : ℕ) (connections : List (List Segment)) (connection : Connection) → IsAnswered number last_packet connections connection
    → Spell Peer (numbered_one connections connection.number) connection.received.octets.now × Spell Local (numbered_one connections connection.number) connection.sent.octets.now
answered_is_spelled number last_packet connections connection answered =
    streams_spelled (numbered_one connections connection.number) connection answered.fine answered.tells
