-- What is noted of a text by number stands in the answer with this number.
use Rattle.std.proofs.Common.{◌≡◌, ◌∙◌, ◌+◌, ◌++◌, ℕ, zero, suc, Bool, true, false, List, [], ◌∷◌, append-nil, append_assoc, ap, arith, if◌then◌else◌, map, refl, slice_get, sym, unwrap_or}
use Rattle.bgp_html.specs.Kinds.{kind_of}
use Rattle.bgp_html.specs.Noted.{Noted, begun, is_answer, is_possible, more, nothing_noted, with_lines, with_rest}
use Rattle.bgp_html.specs.Report.{lines_from}
use Rattle.bgp_answer_laws.specs.Answers.{Answer, NotesAreOfAnswers, answers_in, answers_of, if_possible, possible_at, possible_before}

-- of each answer, the first of these being what stands before all
abbrev all_noted : Noted → List (List ℕ)
all_noted noted = noted.done ++ noted.last ∷ []

abbrev possible_texts : List Answer → List (List ℕ)
possible_texts answers = map (λ (a : Answer). a.possible) answers

-- of lines behind others
abbrev AreAll : List (List ℕ) → Type 0
AreAll lines =
    (noted : Noted) → all_noted (with_lines lines noted) ≡ noted.done ++ (noted.last ++ possible_before lines) ∷ possible_texts (answers_in lines)

more_by : (possible : Bool) (line rest : List ℕ) (noted : Noted) (texts : List (List ℕ))
    → (if possible then more line noted else noted).done ++ ((if possible then more line noted else noted).last ++ rest) ∷ texts
    ≡ noted.done ++ (noted.last ++ ((if possible then line else []) ++ rest)) ∷ texts
more_by true line rest noted texts = ap (λ (t : List ℕ). noted.done ++ t ∷ texts) (append_assoc noted.last line rest)
more_by false line rest noted texts = refl

one_by : (answer : Bool) (line : List ℕ) (lines : List (List ℕ)) (noted : Noted) → AreAll lines
    → all_noted (with_lines lines (if answer then begun noted else with_rest (kind_of line) line noted))
    ≡ noted.done ++ (noted.last ++ (if answer then [] else if_possible line ++ possible_before lines))
    ∷ possible_texts (if answer then record { line = line; possible = possible_before lines } ∷ answers_in lines else answers_in lines)
one_by true line lines noted later =
    later (begun noted)
    ∙ append_assoc noted.done (noted.last ∷ []) (possible_before lines ∷ possible_texts (answers_in lines))
    ∙ ap (λ (t : List ℕ). noted.done ++ t ∷ possible_before lines ∷ possible_texts (answers_in lines)) (sym (append-nil noted.last))
one_by false line lines noted later =
    later (with_rest (kind_of line) line noted)
    ∙ more_by (is_possible (kind_of line)) line (possible_before lines) noted (possible_texts (answers_in lines))

are_all : (lines : List (List ℕ)) → AreAll lines
are_all [] noted = ap (λ (t : List ℕ). noted.done ++ t ∷ []) (sym (append-nil noted.last))
are_all (line ∷ lines) noted = one_by (is_answer (kind_of line)) line lines noted (are_all lines)

at_place : (answers : List Answer) (number : ℕ) → unwrap_or (slice_get (possible_texts answers) number) [] ≡ possible_at (slice_get answers number)
at_place [] number = refl
at_place (a ∷ answers) zero = refl
at_place (a ∷ answers) (suc number) = at_place answers number

behind_first : (first : List ℕ) (texts : List (List ℕ)) (number : ℕ) → unwrap_or (slice_get (first ∷ texts) (number + 1)) [] ≡ unwrap_or (slice_get texts number) []
behind_first first texts number = let e : number + 1 ≡ suc number = omega arith in rw e refl

pub notes_are_of_answers : NotesAreOfAnswers
notes_are_of_answers text number =
    ap (λ (t : List (List ℕ)). unwrap_or (slice_get t (number + 1)) []) (are_all (lines_from [] text) nothing_noted)
    ∙ behind_first ([] ++ possible_before (lines_from [] text)) (possible_texts (answers_of text)) number
    ∙ at_place (answers_of text) number
