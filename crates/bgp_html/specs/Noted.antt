-- What is noted of a text: of each answer, in their order, the lines that say what could have come,
-- or had to.
use Rattle.std.specs.Prelude.{◌≡◌, ◌++◌, ℕ, Bool, true, false, List, [], ◌∷◌}
use Rattle.std.specs.Prelude.{if◌then◌else◌, slice_get, unwrap_or}
use Rattle.std.specs.List.{flat_map, list_any}
use Rattle.bgp_html.specs.Kinds.{kind_of}
use Rattle.bgp_html.specs.Report.{lines_from}
use Rattle.bgp_html.specs.declared.printed.Kind.{Kind}
use Rattle.bgp_html.specs.declared.printed.Kind.TheVariants as kinds

pub record Noted : Type 0 where
  -- of the answers before the last one; the first of these is what stands before all answers
  pub done : List (List ℕ)
  -- of the last one
  pub last : List ℕ

abbrev pub nothing_noted : Noted
nothing_noted = record { done = []; last = [] }

-- an answer begins
abbrev pub begun : Noted → Noted
begun noted = record { done = noted.done ++ noted.last ∷ []; last = [] }

-- with these octets more
abbrev pub more : List ℕ → Noted → Noted
more octets noted = record { done = noted.done; last = noted.last ++ octets }

-- an end that is judged has such a line
abbrev pub is_answer : Kind → Bool
is_answer kinds.Connection = false
is_answer kinds.Yes = true
is_answer kinds.No = true
is_answer kinds.Unfinished = true
is_answer kinds.NotJudged = false
is_answer kinds.Possible = false
is_answer kinds.Beside = false
is_answer kinds.Whole = false
is_answer kinds.Totals = false

abbrev pub is_possible : Kind → Bool
is_possible kinds.Connection = false
is_possible kinds.Yes = false
is_possible kinds.No = false
is_possible kinds.Unfinished = false
is_possible kinds.NotJudged = false
is_possible kinds.Possible = true
is_possible kinds.Beside = false
is_possible kinds.Whole = false
is_possible kinds.Totals = false

-- with the rest of a line, behind its front
abbrev pub with_rest : Kind → List ℕ → Noted → Noted
with_rest kind octets noted = if is_possible kind then more octets noted else noted

-- with a line, or its front
abbrev pub with_line : Kind → List ℕ → Noted → Noted
with_line kind octets noted =
    if is_answer kind then begun noted else with_rest kind octets noted

abbrev pub with_lines : List (List ℕ) → Noted → Noted
with_lines [] noted = noted
with_lines (line ∷ lines) noted = with_lines lines (with_line (kind_of line) line noted)

-- of the answer with this number, from 1 on; nothing if there are fewer
abbrev pub noted_at : ℕ → Noted → List ℕ
noted_at number noted = unwrap_or (slice_get (noted.done ++ noted.last ∷ []) number) []

-- ---- of a text

abbrev pub noted_of : List ℕ → Noted
noted_of text = with_lines (lines_from [] text) nothing_noted

-- the lines of a text that say what could have come, or had to, where an answer stands: those
-- behind the line of the answer with this number, from 1 on, and before that of the next
abbrev pub possible_of : List ℕ → ℕ → List ℕ
possible_of text number = noted_at number (noted_of text)

-- ---- what holds of them

abbrev pub are_answers : List (List ℕ) → Bool
are_answers lines = list_any (λ line. is_answer (kind_of line)) lines

-- those of some lines that say what could have come, or had to, one after another
abbrev pub possible_in : List (List ℕ) → List ℕ
possible_in lines = flat_map (λ line. if is_possible (kind_of line) then line else []) lines

-- Of lines that stand behind an answer, with no other among them, just those are noted that say
-- what could have come, or had to, word for word and in their order.
abbrev pub NotesAreLines : Type 0
NotesAreLines =
    (before lines : List (List ℕ)) (answer : List ℕ) (noted : Noted)
    → is_answer (kind_of answer) ≡ true → are_answers lines ≡ false
    → (with_lines (before ++ answer ∷ lines) noted).last ≡ possible_in lines
