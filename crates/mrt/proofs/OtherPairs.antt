-- The different pairs of addresses of pieces, behind those of other pieces.
use Rattle.std.proofs.Common.{◌≡◌, ◌∙◌, ℕ, Bool, true, false, ◌+◌, ◌-◌, ◌≤◌, List, [], ◌∷◌, ◌++◌, length, take, sym, ap, arith, inl, inr, append-nil, length-append, if◌then◌else◌}
use Rattle.std.proofs.lemmas.Grind.{flat_map-append}
use Rattle.std.proofs.lemmas.Bool.{cases_lt}
use Rattle.std.proofs.lemmas.List.{append_assoc, length-take-le, take-append-le, take_all}
use Rattle.std.proofs.Math.Seq.{take-append-add, take-nil}
use Rattle.std.specs.List.{list_any}
use Rattle.mrt.specs.declared.record.Endpoints.{Endpoints}
use Rattle.mrt.specs.contracts.record.EndpointsPartialEq.TheImpl as equality
use Rattle.mrt.specs.Layout.{header_of, body_of}
use Rattle.mrt.specs.Capture.{Piece, Shown, ends_of, other_ends, other_ends_of, pairs_besides, others_of}
use Rattle.mrt.specs.Skipped.{IsSkipOf, piece_for}
use Rattle.mrt.specs.Progress.{with_pair, pairs_after}
use Rattle.mrt.specs.declared.skipped.Skip.{Skip}
use Rattle.mrt.specs.declared.skipped.Skip.TheVariants as whys

-- ---- the different pairs of two lists

by_test : (there : Bool) (known : List Endpoints) (ends : Endpoints) (first second : List Endpoints)
    → pairs_besides known (first ++ second) ≡ pairs_besides known first ++ pairs_besides (known ++ pairs_besides known first) second
    → pairs_besides (known ++ ends ∷ []) (first ++ second)
    ≡ pairs_besides (known ++ ends ∷ []) first ++ pairs_besides ((known ++ ends ∷ []) ++ pairs_besides (known ++ ends ∷ []) first) second
    → (if there then pairs_besides known (first ++ second) else ends ∷ pairs_besides (known ++ ends ∷ []) (first ++ second))
    ≡ (if there then pairs_besides known first else ends ∷ pairs_besides (known ++ ends ∷ []) first)
    ++ pairs_besides (known ++ (if there then pairs_besides known first else ends ∷ pairs_besides (known ++ ends ∷ []) first)) second
by_test true known ends first second same more = same
by_test false known ends first second same more =
    ap (λ (l : List Endpoints). ends ∷ l) more
    ∙ ap (λ (k : List Endpoints). ends ∷ (pairs_besides (known ++ ends ∷ []) first ++ pairs_besides k second))
    (append_assoc known (ends ∷ []) (pairs_besides (known ++ ends ∷ []) first))

pairs_behind : (known first second : List Endpoints)
    → pairs_besides known (first ++ second) ≡ pairs_besides known first ++ pairs_besides (known ++ pairs_besides known first) second
pairs_behind known [] second = ap (λ (k : List Endpoints). pairs_besides k second) (sym (append-nil known))
pairs_behind known (ends ∷ first) second =
    by_test (list_any (λ one. equality.ghosts.eq one ends) known) known ends first second
    (pairs_behind known first second) (pairs_behind (known ++ ends ∷ []) first second)

-- ---- those for which there is room

-- all of the first ones
all_fit : (known pairs later : List Endpoints) → length pairs ≤ 9 - length known
    → known ++ take (9 - length known) (pairs ++ later) ≡ (known ++ pairs) ++ take (9 - length (known ++ pairs)) later
all_fit known pairs later fit =
    let count = length-append known pairs in
    let room : 9 - length known ≡ length pairs + (9 - length (known ++ pairs)) = omega (arith, fit, count) in
    ap (λ (n : ℕ). known ++ take n (pairs ++ later)) room
    ∙ ap (λ (l : List Endpoints). known ++ l) (take-append-add pairs later (9 - length (known ++ pairs)))
    ∙ sym (append_assoc known pairs (take (9 - length (known ++ pairs)) later))

-- and none of the others
none_fits : (known pairs later others : List Endpoints) → 9 - length known ≤ length pairs
    → known ++ take (9 - length known) (pairs ++ later)
    ≡ (known ++ take (9 - length known) pairs) ++ take (9 - length (known ++ take (9 - length known) pairs)) others
none_fits known pairs later others many =
    let kept = known ++ take (9 - length known) pairs in
    let count = length-append known (take (9 - length known) pairs) in
    let len = length-take-le (9 - length known) pairs many in
    let full : 9 - length kept ≡ 0 = omega (arith, count, len) in
    ap (λ (l : List Endpoints). known ++ l) (take-append-le (9 - length known) pairs later many)
    ∙ sym (append-nil kept)
    ∙ ap (λ (n : ℕ). kept ++ take n others) (sym full)

abbrev filled : List Endpoints → List Endpoints → List Endpoints
filled known pairs = known ++ take (9 - length known) (pairs_besides known pairs)

filled_chain : (known first second : List Endpoints) → filled known (first ++ second) ≡ filled (filled known first) second
filled_chain known first second =
    let pairs = pairs_besides known first in
    let later = pairs_besides (known ++ pairs) second in
    ap (λ (l : List Endpoints). known ++ take (9 - length known) l) (pairs_behind known first second)
    ∙ elim (cases_lt (9 - length known) (length pairs)) [
      | inl many ↦ none_fits known pairs later (pairs_besides (filled known first) second) (omega (arith, many))
      | inr fit ↦
          all_fit known pairs later (omega (arith, fit))
          ∙ ap (λ (l : List Endpoints). filled (known ++ l) second) (sym (take_all (9 - length known) pairs (omega (arith, fit))))
    ]

-- ---- of pieces

pub others_chain : (known : List Endpoints) (first second : List Piece) → others_of known (first ++ second) ≡ others_of (others_of known first) second
others_chain known first second =
    ap (λ (l : List Endpoints). filled known l) (flat_map-append other_ends first second)
    ∙ filled_chain known (other_ends_of first) (other_ends_of second)

pub no_others : (known : List Endpoints) → others_of known [] ≡ known
no_others known = ap (λ (l : List Endpoints). known ++ l) (take-nil (9 - length known)) ∙ append-nil known

pub others_shown : (known : List Endpoints) (octets : List ℕ) → others_of known (Shown octets ∷ []) ≡ known
others_shown known octets = no_others known

pub others_skipped : (known : List Endpoints) (skip : Skip) (octets : List ℕ) → IsSkipOf skip (header_of octets) (body_of octets)
    → others_of known (piece_for skip octets ∷ []) ≡ pairs_after known skip
others_skipped known whys.OtherKind octets is = no_others known
others_skipped known (whys.OtherSession e) octets is =
    let same : ends_of octets ≡ e = sym (λ i. record { peer = is.0 i; local = is.1 i }) in
    ap (λ (x : Endpoints). with_pair known x) same
others_skipped known whys.RefreshReceived octets is = no_others known
others_skipped known whys.RefreshSent octets is = no_others known
