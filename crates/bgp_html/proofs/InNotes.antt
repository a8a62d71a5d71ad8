-- What is noted octet by octet are the lines that say what could have come.
use Rattle.std.proofs.Common.{◌≡◌, ◌∙◌, ◌++◌, ◌==◌, ◌≤◌, ◌≢◌, ℕ, Bool, true, false, List, [], ◌∷◌, length, if◌then◌else◌, refl, sym, ap, ap₂, append_assoc, append-nil, arith, Option, None, Some}
use Rattle.std.proofs.lemmas.Bool.{eqb-false, eqb-true, false≢true}
use Rattle.std.specs.Prelude.{IsFalse}
use Rattle.mrt.specs.declared.sink.Sink as sinks
use Rattle.bgp_text.specs.declared.lines.Lines.{Lines}
use Rattle.bgp_html.proofs.Reported.{one_longer, same_kind}
use Rattle.bgp_html.proofs.Steps.{neither, rest_then}
use Rattle.bgp_html.specs.Kinds.{is_indented, kind_of}
use Rattle.bgp_html.specs.Noted.{Noted, NotesAreLines, are_answers, begun, is_answer, is_possible, more, noted_of, nothing_noted, possible_in, with_line, with_lines, with_rest}
use Rattle.bgp_html.specs.Notes.{IsNotedBy, noted_by}
use Rattle.bgp_html.specs.Report.{lines_from}
use Rattle.bgp_html.specs.Taking.{Front, Place, Puts, Within, begun_place, behind_line, count_with, end_notes, line_place, notes_from, place_after, place_of}
use Rattle.bgp_html.specs.declared.notes.Notes.{Notes}
use Rattle.bgp_html.specs.declared.printed.Element.{Element}
use Rattle.bgp_html.specs.declared.printed.Element.TheVariants as elements
use Rattle.bgp_html.specs.declared.printed.Kind.{Kind}
use Rattle.bgp_html.specs.declared.printed.Kind.TheVariants as kinds

-- ---- octet by octet

-- what is noted from a place on
abbrev whole : Place → List ℕ → Noted → Noted
whole place text noted = end_notes (place_after place text) (notes_from place text noted)

abbrev OfFront : List ℕ → Type 0
OfFront text = (count : ℕ) (front : List ℕ) → length front ≤ 3 → (noted : Noted) → whole (Front count front) text noted ≡ with_lines (lines_from front text) noted

abbrev OfLine : List ℕ → Type 0
OfLine text =
    (count : ℕ) (line : List ℕ) → 4 ≤ length line → (noted : Noted)
    → whole (Within (kind_of line) count) text (with_line (kind_of line) line noted) ≡ with_lines (lines_from line text) noted

-- behind a line
behind_by : (indented : Bool) (count : ℕ) (octets : List ℕ) (noted : Noted) → OfFront octets
    → whole (place_of (if indented then Some (elements.Lines count) else None) []) octets noted ≡ with_lines (lines_from [] octets) noted
behind_by true count octets noted of_front = of_front count [] (omega arith) noted
behind_by false count octets noted of_front = of_front 0 [] (omega arith) noted

by_front : (count : ℕ) (front octets : List ℕ) (octet : ℕ) (noted : Noted) (last full : Bool) → (length front == 3) ≡ full → length front ≤ 3 → OfFront octets → OfLine octets
    → whole (if last then line_place count (kind_of (front ++ octet ∷ [])) else
    if full then begun_place count (kind_of (front ++ octet ∷ [])) else
    Front count (front ++ octet ∷ [])) octets
    (if last then with_line (kind_of (front ++ octet ∷ [])) (front ++ octet ∷ []) noted else
    if full then with_line (kind_of (front ++ octet ∷ [])) (front ++ octet ∷ []) noted
    else noted)
    ≡ with_lines (if last then (front ++ octet ∷ []) ∷ lines_from [] octets else lines_from (front ++ octet ∷ []) octets) noted
by_front count front octets octet noted true full is few of_front of_line =
    let kind = kind_of (front ++ octet ∷ []) in
    behind_by (is_indented kind) (count_with count kind) octets (with_line kind (front ++ octet ∷ []) noted) of_front
by_front count front octets octet noted false true is few of_front of_line =
    let three = eqb-true (length front) 3 is in
    let longer = one_longer front octet in
    of_line (count_with count (kind_of (front ++ octet ∷ []))) (front ++ octet ∷ []) (omega (arith, three, longer)) noted
by_front count front octets octet noted false false is few of_front of_line =
    let other : length front ≢ 3 = eqb-false (length front) 3 is in
    let longer = one_longer front octet in
    of_front count (front ++ octet ∷ []) (omega (arith, other, few, longer)) noted

-- a line goes on
on_by : (answer : Bool) (kind : Kind) (line octets : List ℕ) (noted : Noted) → (answer ≡ true → is_possible kind ≡ false)
    → with_rest kind octets (if answer then begun noted else with_rest kind line noted) ≡ (if answer then begun noted else with_rest kind (line ++ octets) noted)
on_by true kind line octets noted other = rw (other refl) refl
on_by false kind line octets noted other = rest_then kind line octets noted

not_both : (kind : Kind) → is_answer kind ≡ true → is_possible kind ≡ false
not_both kinds.Connection is = refl
not_both kinds.Yes is = refl
not_both kinds.No is = refl
not_both kinds.Unfinished is = refl
not_both kinds.NotJudged is = refl
not_both kinds.Possible is = absurd (false≢true is)
not_both kinds.Beside is = refl
not_both kinds.Whole is = refl
not_both kinds.Totals is = refl

on : (kind : Kind) (line octets : List ℕ) (noted : Noted) → with_rest kind octets (with_line kind line noted) ≡ with_line kind (line ++ octets) noted
on kind line octets noted = on_by (is_answer kind) kind line octets noted (not_both kind)

by_line : (count : ℕ) (line octets : List ℕ) (octet : ℕ) (noted : Noted) (last : Bool) → 4 ≤ length line → OfFront octets → OfLine octets
    → whole (if last then behind_line (kind_of line) count else Within (kind_of line) count) octets (with_rest (kind_of line) (octet ∷ []) (with_line (kind_of line) line noted))
    ≡ with_lines (if last then (line ++ octet ∷ []) ∷ lines_from [] octets else lines_from (line ++ octet ∷ []) octets) noted
by_line count line octets octet noted true some of_front of_line =
    behind_by (is_indented (kind_of line)) count octets (with_rest (kind_of line) (octet ∷ []) (with_line (kind_of line) line noted)) of_front
    ∙ ap (λ (n : Noted). with_lines (lines_from [] octets) n)
    (on (kind_of line) line (octet ∷ []) noted
    ∙ ap (λ (kind : Kind). with_line kind (line ++ octet ∷ []) noted) (sym (same_kind line (octet ∷ []) some)))
by_line count line octets octet noted false some of_front of_line =
    let longer = one_longer line octet in
    ap (λ (n : Noted). whole (Within (kind_of line) count) octets n) (on (kind_of line) line (octet ∷ []) noted)
    ∙ ap (λ (kind : Kind). whole (Within kind count) octets (with_line kind (line ++ octet ∷ []) noted)) (sym (same_kind line (octet ∷ []) some))
    ∙ of_line count (line ++ octet ∷ []) (omega (arith, some, longer)) noted

all_lines : (text : List ℕ) → OfFront text × OfLine text
all_lines [] = (λ count front few noted. refl, λ count line some noted. refl)
all_lines (octet ∷ octets) =
    let behind = all_lines octets in (
      λ count front few noted. by_front count front octets octet noted (octet == 10) (length front == 3) refl few behind.0 behind.1,
      λ count line some noted. by_line count line octets octet noted (octet == 10) some behind.0 behind.1,
    )

-- what is noted of a text, from its first octet to its end, if no memory was refused
pub noted_lines : {W : Type 0} {sink : sinks.Ghosts W} {Y : Type 0} (from to : Lines W sink) (element element' : Option Element) (front front' : List ℕ)
    (notes notes' notes'' : Notes Y) (text : List ℕ) → element ≡ None → front ≡ [] → noted_by notes ≡ nothing_noted
    → Puts from to element element' front front' notes notes' text → IsNotedBy notes' notes'' (end_notes (place_of element' front'))
    → IsFalse notes''.are_missing → noted_by notes'' ≡ noted_of text
noted_lines from to element element' front front' notes notes' notes'' text none empty nothing puts ends all =
    let first : place_of element front ≡ Front 0 [] = ap₂ (λ (e : Option Element) (f : List ℕ). place_of e f) none empty in
    let last = ends all in
    let later = puts.noted last.0 in
    last.1
    ∙ ap (λ (n : Noted). end_notes (place_of element' front') n) later.1
    ∙ ap (λ (p : Place). end_notes p (notes_from (place_of element front) text (noted_by notes))) puts.place
    ∙ ap (λ (p : Place). whole p text (noted_by notes)) first
    ∙ (all_lines text).0 0 [] (omega arith) (noted_by notes)
    ∙ ap (λ (n : Noted). with_lines (lines_from [] text) n) nothing

-- ---- line by line

further_by : (possible : Bool) (line rest : List ℕ) (noted : Noted)
    → (if possible then more line noted else noted).last ++ rest ≡ noted.last ++ ((if possible then line else []) ++ rest)
further_by true line rest noted = append_assoc noted.last line rest
further_by false line rest noted = refl

line_by : (answer : Bool) (kind : Kind) (line : List ℕ) (noted : Noted) → answer ≡ false
    → (if answer then begun noted else with_rest kind line noted) ≡ with_rest kind line noted
line_by true kind line noted is = absurd (false≢true (sym is))
line_by false kind line noted is = refl

further : (lines : List (List ℕ)) (noted : Noted) → are_answers lines ≡ false → (with_lines lines noted).last ≡ noted.last ++ possible_in lines
further [] noted none = sym (append-nil noted.last)
further (line ∷ lines) noted none =
    let both = neither (is_answer (kind_of line)) (are_answers lines) none in
    ap (λ (n : Noted). (with_lines lines n).last) (line_by (is_answer (kind_of line)) (kind_of line) line noted both.0)
    ∙ further lines (with_rest (kind_of line) line noted) both.1
    ∙ further_by (is_possible (kind_of line)) line (possible_in lines) noted

answered_by : (answer : Bool) (kind : Kind) (line : List ℕ) (noted : Noted) → answer ≡ true
    → (if answer then begun noted else with_rest kind line noted) ≡ begun noted
answered_by true kind line noted is = refl
answered_by false kind line noted is = absurd (false≢true is)

pub notes_are_lines : NotesAreLines
notes_are_lines [] lines answer noted is none =
    ap (λ (n : Noted). (with_lines lines n).last) (answered_by (is_answer (kind_of answer)) (kind_of answer) answer noted is)
    ∙ further lines (begun noted) none
notes_are_lines (one ∷ before) lines answer noted is none =
    notes_are_lines before lines answer (with_line (kind_of one) one noted) is none
