-- How a report is written while its text comes, octet by octet.
use Rattle.std.specs.Prelude.{◌≡◌, ◌==◌, ◌&&◌, ◌+◌, ◌++◌, ℕ, Bool, false, List, [], ◌∷◌}
use Rattle.std.specs.Prelude.{Option, None, Some, if◌then◌else◌, length, nat_lt, refl}
use Rattle.std.specs.List.{list_any}
use Rattle.std.proofs.Common.{◌∙◌, ap, append_assoc, subst}
use Rattle.mrt.specs.declared.sink.Sink as sinks
use Rattle.bgp_text.specs.declared.lines.Lines.{Lines}
use Rattle.bgp_text.specs.Lines.{Writes}
use Rattle.bgp_text.proofs.Pieces.{nothing_yet, and_then}
use Rattle.bgp_html.specs.Escaped.{escaped}
use Rattle.bgp_html.specs.Groups.{most_lines}
use Rattle.bgp_html.specs.Kinds.{is_indented, kind_of}
use Rattle.bgp_html.specs.Noted.{Noted, with_line, with_rest}
use Rattle.bgp_html.specs.Notes.{IsNotedBy, noted_by}
use Rattle.bgp_html.specs.Printed.{kind_end, kind_start}
use Rattle.bgp_html.specs.declared.notes.Notes.{Notes}
use Rattle.bgp_html.specs.declared.printed.Element.{Element}
use Rattle.bgp_html.specs.declared.printed.Element.TheVariants as elements
use Rattle.bgp_html.specs.declared.printed.Kind.{Kind}
use Rattle.bgp_html.specs.declared.printed.Kind.TheVariants as kinds

-- at the front of a line, of which these octets came, and nothing is written: behind `count` lines
-- of an element that is open, or behind none; or within a line of this kind, all of which is
-- written that came, the last of `count` in its element
pub data Place : Type 0 where
  Front : ℕ → List ℕ → Place
  Within : Kind → ℕ → Place

abbrev pub place_of : Option Element → List ℕ → Place
place_of None front = Front 0 front
place_of (Some (elements.Lines count)) front = Front count front
place_of (Some (elements.Line kind count)) front = Within kind count

-- whether a line of this kind stands in the element of the `count` lines before it
abbrev pub joins : ℕ → Kind → Bool
joins count kind = nat_lt 0 count && nat_lt count most_lines && is_indented kind

-- how many lines that element has then
abbrev pub count_with : ℕ → Kind → ℕ
count_with count kind = if joins count kind then count + 1 else 1

-- what ends an element of `count` lines that is open
abbrev pub open_end : ℕ → List ℕ
open_end count = if count == 0 then [] else kind_end kinds.Beside

-- what stands between these lines and one of this kind
abbrev pub between : ℕ → Kind → List ℕ
between count kind = if joins count kind then [] else open_end count ++ kind_start kind

-- of a line of this kind, of which this is the front, what stands before the rest
abbrev pub begun_html : ℕ → Kind → List ℕ → List ℕ
begun_html count kind front = between count kind ++ escaped front

-- what stands behind a line of this kind: more lines can stand with one that is indented
abbrev pub line_end : Kind → List ℕ
line_end kind = if is_indented kind then [] else kind_end kind

-- the element that is open there, if the line is the last of `count`
abbrev pub open_behind : Kind → ℕ → Option Element
open_behind kind count = if is_indented kind then Some (elements.Lines count) else None

abbrev pub behind_line : Kind → ℕ → Place
behind_line kind count = place_of (open_behind kind count) []

-- of a line of this kind, all of which came, behind `count` lines
abbrev pub line_html : ℕ → Kind → List ℕ → List ℕ
line_html count kind line = begun_html count kind line ++ line_end kind

-- what a line says is known by its first four octets, or by all of it
abbrev pub front_html : ℕ → List ℕ → ℕ → List ℕ
front_html count front octet =
    if octet == 10 then line_html count (kind_of (front ++ octet ∷ [])) (front ++ octet ∷ []) else
    if length front == 3 then
    begun_html count (kind_of (front ++ octet ∷ [])) (front ++ octet ∷ [])
    else []

abbrev pub begun_place : ℕ → Kind → Place
begun_place count kind = Within kind (count_with count kind)

abbrev pub line_place : ℕ → Kind → Place
line_place count kind = behind_line kind (count_with count kind)

abbrev pub behind_front : ℕ → List ℕ → ℕ → Place
behind_front count front octet =
    if octet == 10 then line_place count (kind_of (front ++ octet ∷ [])) else
    if length front == 3 then begun_place count (kind_of (front ++ octet ∷ [])) else
    Front count (front ++ octet ∷ [])

-- what is written when an octet comes, and where the text is then
abbrev pub html_at : Place → ℕ → List ℕ
html_at (Front count front) octet = front_html count front octet
html_at (Within kind count) octet =
    escaped (octet ∷ []) ++ (if octet == 10 then line_end kind else [])

abbrev pub place_behind : Place → ℕ → Place
place_behind (Front count front) octet = behind_front count front octet
place_behind (Within kind count) octet =
    if octet == 10 then behind_line kind count else Within kind count

-- the same of octets
abbrev pub html_from : Place → List ℕ → List ℕ
html_from place [] = []
html_from place (octet ∷ octets) =
    html_at place octet ++ html_from (place_behind place octet) octets

abbrev pub place_after : Place → List ℕ → Place
place_after place [] = place
place_after place (octet ∷ octets) = place_after (place_behind place octet) octets

-- what is written at the end of the text
abbrev pub end_html : Place → List ℕ
end_html (Front count []) = open_end count
end_html (Front count (octet ∷ front)) =
    begun_html count (kind_of (octet ∷ front)) (octet ∷ front)
    ++ kind_end (kind_of (octet ∷ front))
end_html (Within kind count) = kind_end kind

-- what is noted when an octet comes: a line counts as soon as it is known what it says
abbrev pub front_notes : List ℕ → ℕ → Noted → Noted
front_notes front octet noted =
    if octet == 10 then with_line (kind_of (front ++ octet ∷ [])) (front ++ octet ∷ []) noted else
    if length front == 3 then with_line (kind_of (front ++ octet ∷ [])) (front ++ octet ∷ []) noted
    else noted

abbrev pub notes_at : Place → ℕ → Noted → Noted
notes_at (Front count front) octet noted = front_notes front octet noted
notes_at (Within kind count) octet noted = with_rest kind (octet ∷ []) noted

abbrev pub notes_from : Place → List ℕ → Noted → Noted
notes_from place [] noted = noted
notes_from place (octet ∷ octets) noted =
    notes_from (place_behind place octet) octets (notes_at place octet noted)

-- and at the end of the text
abbrev pub end_notes : Place → Noted → Noted
end_notes (Front count front) noted = with_line (kind_of front) front noted
end_notes (Within kind count) noted = noted

-- ---- where a line ends

-- where the first line feed stands, or how many octets there are
abbrev pub first_end : List ℕ → ℕ
first_end [] = 0
first_end (octet ∷ octets) = if octet == 10 then 0 else first_end octets + 1

abbrev pub HasNoEnd : List ℕ → Type 0
HasNoEnd octets = list_any (λ octet. octet == 10) octets ≡ false

-- ---- what came

-- these octets came, and were put into the lines and noted
pub record Puts {W : Type 0} {sink : sinks.Ghosts W} {Y : Type 0} (old new : Lines W sink)
    (element element' : Option Element) (front front' : List ℕ) (notes notes' : Notes Y)
    (octets : List ℕ) : Type 0 where
  pub place : place_of element' front' ≡ place_after (place_of element front) octets
  pub writes : Writes old new (html_from (place_of element front) octets)
  pub noted : IsNotedBy notes notes' (notes_from (place_of element front) octets)

-- ---- nothing, and one behind another

pub puts_nothing : {W : Type 0} {sink : sinks.Ghosts W} {Y : Type 0}
    → ((a : W) → sink.takes a a []) → (a : Lines W sink) (element : Option Element) (front : List ℕ)
    (notes : Notes Y) → Puts a a element element front front notes notes []
puts_nothing {W} {sink} nothing a element front notes = record {
  place = refl;
  writes = nothing_yet sink nothing a.outlet a.held.items;
  noted = λ all. (all, refl);
}

html_in_turn : (place : Place) (xs ys : List ℕ)
    → html_from place xs ++ html_from (place_after place xs) ys ≡ html_from place (xs ++ ys)
html_in_turn place [] ys = refl
html_in_turn place (x ∷ xs) ys =
    append_assoc (html_at place x) (html_from (place_behind place x) xs)
    (html_from (place_after (place_behind place x) xs) ys)
    ∙ ap (λ (os : List ℕ). html_at place x ++ os) (html_in_turn (place_behind place x) xs ys)

place_in_turn : (place : Place) (xs ys : List ℕ)
    → place_after (place_after place xs) ys ≡ place_after place (xs ++ ys)
place_in_turn place [] ys = refl
place_in_turn place (x ∷ xs) ys = place_in_turn (place_behind place x) xs ys

notes_in_turn : (place : Place) (xs ys : List ℕ) (noted : Noted)
    → notes_from (place_after place xs) ys (notes_from place xs noted)
    ≡ notes_from place (xs ++ ys) noted
notes_in_turn place [] ys noted = refl
notes_in_turn place (x ∷ xs) ys noted =
    notes_in_turn (place_behind place x) xs ys (notes_at place x noted)

pub puts_joined : {W : Type 0} {sink : sinks.Ghosts W} {Y : Type 0}
    → ((a b c : W) (xs ys : List ℕ) → sink.takes a b xs → sink.takes b c ys
    → sink.takes a c (xs ++ ys))
    → (a b c : Lines W sink) (element element' element'' : Option Element)
    (front front' front'' : List ℕ) (notes notes' notes'' : Notes Y) (xs ys : List ℕ)
    → Puts a b element element' front front' notes notes' xs
    → Puts b c element' element'' front' front'' notes' notes'' ys
    → Puts a c element element'' front front'' notes notes'' (xs ++ ys)
puts_joined {W} {sink} joined a b c element element' element'' front front' front'' notes notes'
    notes'' xs ys first second = record {
      place = second.place ∙ ap (λ (p : Place). place_after p ys) first.place
          ∙ place_in_turn (place_of element front) xs ys;
      writes = subst (λ (text : List ℕ). Writes a c text)
          (html_in_turn (place_of element front) xs ys)
          (subst (λ (p : Place). Writes a c
          (html_from (place_of element front) xs ++ html_from p ys)) first.place
          (and_then (record { joined = joined }) first.writes second.writes));
      noted = λ all. let later = second.noted all in let before = first.noted later.0 in (
        before.0,
        later.1 ∙ ap (λ (n : Noted). notes_from (place_of element' front') ys n) before.1
            ∙ ap (λ (p : Place). notes_from p ys (notes_from (place_of element front) xs
            (noted_by notes))) first.place
            ∙ notes_in_turn (place_of element front) xs ys (noted_by notes),
      );
    }
