-- Lines stand together in groups: each once, in its place.
use Rattle.std.proofs.Common.{◌≡◌, ◌∙◌, ◌++◌, ◌<◌, ◌≤◌, ℕ, Bool, true, false, List, [], ◌∷◌, length, if◌then◌else◌, nat_lt, refl, sym, ap, subst, append_assoc, append-nil, arith, inl, inr}
use Rattle.std.specs.List.{flat_map}
use Rattle.std.proofs.lemmas.Bool.{and_from, and_parts, lt-ltb, ltb-true}
use Rattle.std.proofs.lemmas.List.{length-append}
use Rattle.std.proofs.lemmas.List.Folds.{list_all-append}
use Rattle.bgp_html.specs.Groups.{AreAllGroups, AreApart, AreGroups, IsGroup, LinesStandTogether, are_indented, goes_with, groups_from, groups_of, most_lines}
use Rattle.bgp_html.specs.Kinds.{is_indented, kind_of}

-- ---- each once

abbrev flat : List (List (List ℕ)) → List (List ℕ)
flat groups = flat_map (λ group. group) groups

flat_by : (group lines : List (List ℕ)) (line : List ℕ) (goes : Bool) → flat (groups_from (group ++ line ∷ []) lines) ≡ (group ++ line ∷ []) ++ lines
    → flat (groups_from (line ∷ []) lines) ≡ line ∷ lines
    → flat (if goes then groups_from (group ++ line ∷ []) lines else group ∷ groups_from (line ∷ []) lines) ≡ group ++ line ∷ lines
flat_by group lines line true on apart = on ∙ append_assoc group (line ∷ []) lines
flat_by group lines line false on apart = ap (λ (ls : List (List ℕ)). group ++ ls) apart

flat_from : (lines group : List (List ℕ)) → flat (groups_from group lines) ≡ group ++ lines
flat_from [] group = refl
flat_from (line ∷ lines) group =
    flat_by group lines line (goes_with group line) (flat_from lines (group ++ line ∷ [])) (flat_from lines (line ∷ []))

pub all_lines : (lines : List (List ℕ)) → flat (groups_of lines) ≡ lines
all_lines [] = refl
all_lines (line ∷ lines) = flat_from lines (line ∷ [])

-- ---- alike

joined_group : (group : List (List ℕ)) (line : List ℕ) → goes_with group line ≡ true → IsGroup (group ++ line ∷ [])
joined_group group line goes =
    let both = and_parts (nat_lt (length group) most_lines) (are_indented (group ++ line ∷ [])) goes in
    let room : length group < 100 = ltb-true (length group) 100 both.0 in
    let longer = length-append group (line ∷ []) in
    inr (both.1, omega (arith, longer), omega (arith, room, longer))

alike_by : (group lines : List (List ℕ)) (line : List ℕ) (goes : Bool) → IsGroup group → (goes ≡ true → IsGroup (group ++ line ∷ []))
    → (IsGroup (group ++ line ∷ []) → AreAllGroups (groups_from (group ++ line ∷ []) lines)) → AreAllGroups (groups_from (line ∷ []) lines)
    → AreAllGroups (if goes then groups_from (group ++ line ∷ []) lines else group ∷ groups_from (line ∷ []) lines)
alike_by group lines line true is joined on apart = on (joined refl)
alike_by group lines line false is joined on apart = (is, apart)

alike_from : (lines group : List (List ℕ)) → IsGroup group → AreAllGroups (groups_from group lines)
alike_from [] group is = (is, tt)
alike_from (line ∷ lines) group is =
    alike_by group lines line (goes_with group line) is (joined_group group line) (alike_from lines (group ++ line ∷ [])) (alike_from lines (line ∷ []) (inl refl))

all_alike : (lines : List (List ℕ)) → AreAllGroups (groups_of lines)
all_alike [] = tt
all_alike (line ∷ lines) = alike_from lines (line ∷ []) (inl refl)

-- ---- apart

-- a group that begins with a line which can't stand with these
behind_by : (group more lines : List (List ℕ)) (line next : List ℕ) (goes : Bool) → goes_with group line ≡ false
    → (AreApart (groups_from (line ∷ (more ++ next ∷ [])) lines) → AreApart (group ∷ groups_from (line ∷ (more ++ next ∷ [])) lines))
    → AreApart (if goes then groups_from ((line ∷ more) ++ next ∷ []) lines else (line ∷ more) ∷ groups_from (next ∷ []) lines)
    → AreApart (group ∷ (if goes then groups_from ((line ∷ more) ++ next ∷ []) lines else (line ∷ more) ∷ groups_from (next ∷ []) lines))
behind_by group more lines line next true other on apart = on apart
behind_by group more lines line next false other on apart = (other, apart)

behind : (lines group more : List (List ℕ)) (line : List ℕ) → goes_with group line ≡ false → AreApart (groups_from (line ∷ more) lines)
    → AreApart (group ∷ groups_from (line ∷ more) lines)
behind [] group more line other apart = (other, tt)
behind (next ∷ lines) group more line other apart =
    behind_by group more lines line next (goes_with (line ∷ more) next) other (behind lines group (more ++ next ∷ []) line other) apart

apart_by : (group lines : List (List ℕ)) (line : List ℕ) (goes : Bool) → goes_with group line ≡ goes → AreApart (groups_from (group ++ line ∷ []) lines)
    → AreApart (groups_from (line ∷ []) lines)
    → AreApart (if goes then groups_from (group ++ line ∷ []) lines else group ∷ groups_from (line ∷ []) lines)
apart_by group lines line true is on apart = on
apart_by group lines line false is on apart = behind lines group [] line is apart

apart_from : (lines group : List (List ℕ)) → AreApart (groups_from group lines)
apart_from [] group = tt
apart_from (line ∷ lines) group =
    apart_by group lines line (goes_with group line) refl (apart_from lines (group ++ line ∷ [])) (apart_from lines (line ∷ []))

all_apart : (lines : List (List ℕ)) → AreApart (groups_of lines)
all_apart [] = tt
all_apart (line ∷ lines) = apart_from lines (line ∷ [])

are_groups : (lines : List (List ℕ)) → AreGroups lines (groups_of lines)
are_groups lines = record { all = all_lines lines; alike = all_alike lines; apart = all_apart lines }

-- ---- in no other way

not_empty : {X : Type 0} → IsGroup [] → X
not_empty (inl one) = absurd (omega (arith, one))
not_empty (inr (all, some, few)) = absurd (omega (arith, some))

-- a line of a group goes with those before it
goes_in : (before : List (List ℕ)) (line : List ℕ) (rest : List (List ℕ)) → 1 ≤ length before → IsGroup (before ++ line ∷ rest) → goes_with before line ≡ true
goes_in before line rest some (inl one) = let both = length-append before (line ∷ rest) in absurd (omega (arith, some, one, both))
goes_in before line rest some (inr (all, any, few)) =
    let indented = λ (l : List ℕ). is_indented (kind_of l) in
    let both = length-append before (line ∷ rest) in
    let room : length before < 100 = omega (arith, few, both) in
    let parts = and_parts (are_indented before) (are_indented (line ∷ rest)) (sym (list_all-append indented before (line ∷ rest)) ∙ all) in
    let one = (and_parts (is_indented (kind_of line)) (are_indented rest) parts.1).0 in
    and_from (nat_lt (length before) most_lines) (are_indented (before ++ line ∷ [])) (lt-ltb (length before) 100 room)
    (list_all-append indented before (line ∷ []) ∙ and_from (are_indented before) (are_indented (line ∷ [])) parts.0 (and_from (is_indented (kind_of line)) true one refl))

abbrev Ends : List (List (List ℕ)) → Type 0
Ends groups =
    (before : List (List ℕ)) → 1 ≤ length before → AreAllGroups (before ∷ groups) → AreApart (before ∷ groups) → groups_from before (flat groups) ≡ before ∷ groups

only_in : (groups : List (List (List ℕ))) → Ends groups → (rest before : List (List ℕ)) → 1 ≤ length before
    → AreAllGroups ((before ++ rest) ∷ groups) → AreApart ((before ++ rest) ∷ groups) → groups_from before (rest ++ flat groups) ≡ (before ++ rest) ∷ groups
only_in groups ends [] before some alike apart =
    let same = append-nil before in
    ends before some (subst (λ (g : List (List ℕ)). AreAllGroups (g ∷ groups)) same alike) (subst (λ (g : List (List ℕ)). AreApart (g ∷ groups)) same apart)
    ∙ ap (λ (g : List (List ℕ)). g ∷ groups) (sym same)
only_in groups ends (line ∷ rest) before some alike apart =
    let moved : before ++ line ∷ rest ≡ (before ++ line ∷ []) ++ rest = sym (append_assoc before (line ∷ []) rest) in
    let longer = length-append before (line ∷ []) in
    rw (goes_in before line rest some alike.0)
    (only_in groups ends rest (before ++ line ∷ []) (omega (arith, longer))
    (subst (λ (g : List (List ℕ)). AreAllGroups (g ∷ groups)) moved alike) (subst (λ (g : List (List ℕ)). AreApart (g ∷ groups)) moved apart)
    ∙ ap (λ (g : List (List ℕ)). g ∷ groups) (sym moved))

all_end : (groups : List (List (List ℕ))) → Ends groups
all_end [] before some alike apart = refl
all_end ([] ∷ groups) before some alike apart = not_empty alike.1.0
all_end ((line ∷ more) ∷ groups) before some alike apart =
    rw apart.0 (ap (λ (gs : List (List (List ℕ))). before ∷ gs) (only_in groups (all_end groups) more (line ∷ []) (omega arith) alike.1 apart.1))

only : (lines : List (List ℕ)) (groups : List (List (List ℕ))) → AreGroups lines groups → groups ≡ groups_of lines
only lines [] its = ap groups_of its.all
only lines ([] ∷ groups) its = not_empty its.alike.0
only lines ((line ∷ more) ∷ groups) its =
    sym (only_in groups (all_end groups) more (line ∷ []) (omega arith) its.alike its.apart) ∙ ap groups_of its.all

pub stand_together : LinesStandTogether
stand_together lines groups = (only lines groups, λ is. subst (λ (gs : List (List (List ℕ))). AreGroups lines gs) (sym is) (are_groups lines))
