-- The answers of a text, as a report reads it: the lines that begin one, each with the lines behind
-- it, and before the next, that say what could have come, or had to.
use Rattle.std.specs.Prelude.{◌≡◌, ◌+◌, ◌++◌, ℕ, List, [], ◌∷◌, All, Option, None, Some, codes}
use Rattle.std.specs.Prelude.{false, if◌then◌else◌, slice_get}
use Rattle.std.specs.List.{flat_map}
use Rattle.bgp_html.specs.Kinds.{kind_of}
use Rattle.bgp_html.specs.Noted.{are_answers, is_answer, is_possible, possible_in, possible_of}
use Rattle.bgp_html.specs.Report.{lines_from}
use Rattle.bgp_html.specs.Taking.{HasNoEnd}

-- ---- of a text

pub record Answer : Type 0 where
  -- the line with its verdict
  pub line : List ℕ
  -- those that say what could have come, or had to, one after another
  pub possible : List ℕ

-- a line, if it says that
abbrev pub if_possible : List ℕ → List ℕ
if_possible line = if is_possible (kind_of line) then line else []

-- those of some lines that stand before the first answer
abbrev pub possible_before : List (List ℕ) → List ℕ
possible_before [] = []
possible_before (line ∷ lines) =
    if is_answer (kind_of line) then [] else if_possible line ++ possible_before lines

abbrev pub answers_in : List (List ℕ) → List Answer
answers_in [] = []
answers_in (line ∷ lines) =
    if is_answer (kind_of line)
    then record { line = line; possible = possible_before lines } ∷ answers_in lines
    else answers_in lines

abbrev pub answers_of : List ℕ → List Answer
answers_of text = answers_in (lines_from [] text)

-- what stands in an answer, if there is one
abbrev pub possible_at : Option Answer → List ℕ
possible_at None = []
possible_at (Some answer) = answer.possible

-- What a report notes of an answer by its number, from 1 on, stands in the answer with this number.
abbrev pub NotesAreOfAnswers : Type 0
NotesAreOfAnswers =
    (text : List ℕ) (number : ℕ)
    → possible_of text (number + 1) ≡ possible_at (slice_get (answers_of text) number)

-- the lines of a text that say what could have come, or had to
abbrev pub possible_lines : List ℕ → List ℕ
possible_lines text = possible_in (lines_from [] text)

-- ---- texts of whole lines

-- it ends with its line feed, which is its only one
abbrev pub IsLine : List ℕ → Type 0
IsLine line = (front : List ℕ) × (line ≡ front ++ codes "\n") × HasNoEnd front

-- Lines none of which begins an answer. Those of them that say what could have come, or had to, are
-- these.
pub record Says (text possible : List ℕ) : Type 0 where
  pub lines : List (List ℕ)
  pub is_text : text ≡ flat_map (λ line. line) lines
  pub are_lines : All IsLine lines
  pub no_answer : are_answers lines ≡ false
  pub is_possible : possible ≡ possible_in lines

-- Lines with these answers. Before the first no line says what could have come.
pub record Tells (text : List ℕ) (answers : List Answer) : Type 0 where
  pub lines : List (List ℕ)
  pub is_text : text ≡ flat_map (λ line. line) lines
  pub are_lines : All IsLine lines
  pub none_before : possible_before lines ≡ []
  pub are_answers : answers ≡ answers_in lines
