-- A call that gave the front of what a source in memory held.
use Rattle.std.proofs.Common.{◌≡◌, ◌∙◌, ap, sym, subst, refl, ℕ, ◌+◌, ◌<◌, ◌==◌, min, List, [], ◌++◌, length, take, drop, Bool, true, false, Option, None, if◌then◌else◌, arith}
use Rattle.std.specs.Prelude.{IsTrue}
use Rattle.std.proofs.lemmas.Grind.{common_steps}
use Rattle.std.proofs.lemmas.List.{take-append-drop, drop-drop}
use Rattle.mrt.specs.MemSource.{SourceState, octets_left, after_call, upset_behind}
use Rattle.mrt.specs.MemGives.{Gives}
use Rattle.mrt.specs.declared.mem_source.SourceUpset.{SourceUpset}

-- where nothing else was to happen, nothing else is
still_none : (first : Bool) (upset : Option SourceUpset) → upset ≡ None → (if first then upset_behind upset else upset) ≡ None
still_none true upset none = ap upset_behind none
still_none false upset none = none

left_behind : (octets buffer : List ℕ) (given count : ℕ) → take count buffer ≡ take count (drop given octets) → drop given octets ≡ take count buffer ++ drop (given + count) octets
left_behind octets buffer given count front =
    sym (take-append-drop count (drop given octets)) ∙ ap (λ (xs : List ℕ). xs ++ drop count (drop given octets)) (sym front)
    ∙ ap (λ (xs : List ℕ). take count buffer ++ xs) (drop-drop count given octets)

length_given : (octets buffer : List ℕ) (given count most room : ℕ) → count ≡ min (min (length (drop given octets)) most) room
    → take count buffer ≡ take count (drop given octets) → given + count ≡ given + length (take count buffer)
length_given octets buffer given count most room counted front = grind (arith, common_steps)

all_given : (octets : List ℕ) (given count most room : ℕ) → count ≡ min (min (length (drop given octets)) most) room → 0 < most → 0 < room
    → IsTrue (count == 0) → drop (given + count) octets ≡ []
all_given octets given count most room counted some roomy told = grind (arith, common_steps)

-- what a call gives that has begun, and that gives as much as there is, at most so much and as there is room for
pub gave_front : (old mid new : SourceState) (buffer : List ℕ) (count most room : ℕ) → 0 < most → 0 < room
    → mid ≡ after_call old → count ≡ min (min (length (octets_left mid)) most) room
    → take count buffer ≡ take count (octets_left mid)
    → new ≡ record mid { given = mid.given + count; has_ended = count == 0 } → Gives old new (take count buffer)
gave_front old mid new buffer count most room some roomy begun counted front is =
    let counted_old = counted ∙ ap (λ (s : SourceState). min (min (length (octets_left s)) most) room) begun in
    let front_old = front ∙ ap (λ (s : SourceState). take count (octets_left s)) begun in
    let last = is ∙ ap (λ (s : SourceState). record s { given = s.given + count; has_ended = count == 0 }) begun in
    subst (λ (s : SourceState). Gives old s (take count buffer)) (sym last) (record {
      held = refl;
      next = left_behind old.octets buffer old.given count front_old;
      count = length_given old.octets buffer old.given count most room counted_old front_old;
      calm = λ none. (still_none (old.calls_before == 0) old.upset none, refl);
      ended = λ none told. all_given old.octets old.given count most room counted_old some roomy told;
    })
