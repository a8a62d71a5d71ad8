-- Which lines of a report stand together in one element: few elements are drawn fast, and so is one
-- with few lines.
use Rattle.std.specs.Prelude.{◌≡◌, ◌≤◌, ◌⊎◌, ◌↔◌, ◌&&◌, ◌++◌, ℕ, Bool, true, false, List, [], ◌∷◌}
use Rattle.std.specs.Prelude.{⊤, if◌then◌else◌, length, nat_lt}
use Rattle.std.specs.List.{flat_map, list_all}
use Rattle.bgp_html.specs.Kinds.{is_indented, kind_of}
use Rattle.bgp_html.specs.Pieces.{Piece, Printed}
use Rattle.bgp_html.specs.declared.printed.Kind.TheVariants as kinds

-- so many at most
abbrev pub most_lines : ℕ
most_lines = 100

abbrev pub are_indented : List (List ℕ) → Bool
are_indented lines = list_all (λ line. is_indented (kind_of line)) lines

-- whether a line stands with those before it: there is room, and all of them are indented
abbrev pub goes_with : List (List ℕ) → List ℕ → Bool
goes_with group line = nat_lt (length group) most_lines && are_indented (group ++ line ∷ [])

-- the groups of lines, if these stand before them in the first one
abbrev pub groups_from : List (List ℕ) → List (List ℕ) → List (List (List ℕ))
groups_from group [] = group ∷ []
groups_from group (line ∷ lines) =
    if goes_with group line then groups_from (group ++ line ∷ []) lines
    else group ∷ groups_from (line ∷ []) lines

abbrev pub groups_of : List (List ℕ) → List (List (List ℕ))
groups_of [] = []
groups_of (line ∷ lines) = groups_from (line ∷ []) lines

-- ---- their elements

abbrev pub text_of : List (List ℕ) → List ℕ
text_of lines = flat_map (λ line. line) lines

-- one for a group, which looks as its first line does
abbrev pub group_piece : List (List ℕ) → Piece
group_piece [] = Printed kinds.Whole []
group_piece (line ∷ lines) = Printed (kind_of line) (text_of (line ∷ lines))

-- ---- what holds of them

abbrev pub IsGroup : List (List ℕ) → Type 0
IsGroup group =
    (length group ≡ 1)
    ⊎ ((are_indented group ≡ true) × (1 ≤ length group) × (length group ≤ most_lines))

abbrev pub AreAllGroups : List (List (List ℕ)) → Type 0
AreAllGroups [] = ⊤
AreAllGroups (group ∷ groups) = IsGroup group × AreAllGroups groups

-- whether the first line of the next group can't stand with these
abbrev pub BeginsAnew : List (List ℕ) → List (List ℕ) → Type 0
BeginsAnew group [] = ⊤
BeginsAnew group (line ∷ lines) = goes_with group line ≡ false

abbrev pub AreApart : List (List (List ℕ)) → Type 0
AreApart [] = ⊤
AreApart (group ∷ []) = ⊤
AreApart (group ∷ next ∷ groups) = BeginsAnew group next × AreApart (next ∷ groups)

-- these are groups of the lines
pub record AreGroups (lines : List (List ℕ)) (groups : List (List (List ℕ))) : Type 0 where
  -- each line stands in one of them, in its place
  pub all : flat_map (λ group. group) groups ≡ lines
  -- one alone, or few that are indented
  pub alike : AreAllGroups groups
  -- and none can take the first line of the next
  pub apart : AreApart groups

-- Lines stand together so, and in no other way.
abbrev pub LinesStandTogether : Type 0
LinesStandTogether =
    (lines : List (List ℕ)) (groups : List (List (List ℕ)))
    → AreGroups lines groups ↔ (groups ≡ groups_of lines)
