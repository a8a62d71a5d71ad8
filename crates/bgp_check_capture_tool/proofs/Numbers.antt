-- The records of a stretch, and their numbers in the session.
use Rattle.std.proofs.Common.{◌≡◌, ◌∙◌, ◌<◌, ◌+◌, ◌++◌, ℕ, zero, suc, List, [], ◌∷◌, ap, arith, get_or, length, sym, take}
use Rattle.std.proofs.lemmas.List.{map-append, take_more}
use Rattle.std.specs.List.{AllByRecursion}
use Rattle.bgp_check_lines.specs.Places.{NumberedRecord}
use Rattle.mrt_sessions.specs.File.{Located}
use Rattle.bgp_check_capture_tool.specs.Places.{numbered_after, numbers_of}

-- what holds of each holds at a place
pub all_at : {X : Type 0} (P : X → Type 0) (xs : List X) (i : ℕ) (d : X) → AllByRecursion P xs → i < length xs → P (get_or xs i d)
all_at P [] i d all within = absurd (omega (arith, within))
all_at P (x ∷ xs) zero d all within = all.0
all_at P (x ∷ xs) (suc i) d all within = all_at P xs i d all.1 (omega (arith, within))

-- the numbers of one more
pub grown : (named : List Located) (before : ℕ) (places : List ℕ) (i d : ℕ) (old new : List NumberedRecord) → i < length places
    → old ≡ numbers_of named before (take i places) → new ≡ old ++ numbered_after named (before + get_or places i d) ∷ []
    → new ≡ numbers_of named before (take (i + 1) places)
grown named before places i d old new within so_far pushed =
    pushed ∙ ap (λ (ns : List NumberedRecord). ns ++ numbered_after named (before + get_or places i d) ∷ []) so_far
    ∙ sym (ap (numbers_of named before) (take_more places i d within)
    ∙ map-append (λ (p : ℕ). numbered_after named (before + p)) (take i places) (get_or places i d ∷ []))
