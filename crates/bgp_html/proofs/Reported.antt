-- What is written octet by octet is a report, and says what is printed.
use Rattle.std.proofs.Common.{◌≡◌, ◌∙◌, ◌++◌, ◌==◌, ◌&&◌, ◌⊎◌, ◌≤◌, ◌<◌, ◌+◌, ◌≢◌, ℕ, Bool, true, false, List, [], ◌∷◌, length, map, nat_lt, if◌then◌else◌, refl, sym, ap, append_assoc, append-nil, arith, ap₂, subst, inl, inr, Option, None, Some}
use Rattle.std.proofs.Math.Bool.{and-false, and-true}
use Rattle.std.proofs.lemmas.Bool.{and_parts, eqb-false, eqb-true, false≢true, lt-ltb, ne_eqb}
use Rattle.std.proofs.lemmas.Grind.{flat_map-append}
use Rattle.std.proofs.lemmas.List.{length-append}
use Rattle.std.proofs.lemmas.List.Folds.{list_all-append}
use Rattle.std.specs.List.{flat_map}
use Rattle.mrt.specs.declared.sink.Sink as sinks
use Rattle.bgp_text.specs.Lines.{Writes}
use Rattle.bgp_text.specs.declared.lines.Lines.{Lines}
use Rattle.bgp_text.proofs.Pieces.{Joins, and_then}
use Rattle.bgp_html.proofs.Grouped.{all_lines as grouped}
use Rattle.bgp_html.proofs.Seen.{lines_are_printed}
use Rattle.bgp_html.specs.Escaped.{escape_octet, escaped}
use Rattle.bgp_html.specs.Groups.{are_indented, goes_with, group_piece, groups_from, groups_of, most_lines, text_of}
use Rattle.bgp_html.specs.Kinds.{is_indented, kind_of}
use Rattle.bgp_html.specs.Pieces.{Piece, Printed, html_of, piece_html, piece_lines, printed_of}
use Rattle.bgp_html.specs.Printed.{kind_end, kind_start, printed_html}
use Rattle.bgp_html.specs.Report.{ReportsSayTheSame, head_pieces, line_pieces, lines_from, lines_html, report_html, report_pieces}
use Rattle.bgp_html.specs.Taking.{Front, Place, Puts, Within, begun_html, begun_place, behind_line, count_with, end_html, html_at, html_from, joins, line_end, line_html, line_place, open_end, place_after, place_behind, place_of}
use Rattle.bgp_html.specs.declared.notes.Notes.{Notes}
use Rattle.bgp_html.specs.declared.printed.Element.{Element}
use Rattle.bgp_html.specs.declared.printed.Element.TheVariants as elements
use Rattle.bgp_html.specs.declared.printed.Kind.{Kind}
use Rattle.bgp_html.specs.declared.printed.Kind.TheVariants as kinds

-- ---- what a line says is known by four octets

pub same_kind : (line rest : List ℕ) → 4 ≤ length line → kind_of (line ++ rest) ≡ kind_of line
same_kind [] rest some = absurd (omega (arith, some))
same_kind (a ∷ []) rest some = absurd (omega (arith, some))
same_kind (a ∷ b ∷ []) rest some = absurd (omega (arith, some))
same_kind (a ∷ b ∷ c ∷ []) rest some = absurd (omega (arith, some))
same_kind (a ∷ b ∷ c ∷ d ∷ line) rest some = refl

pub one_longer : (line : List ℕ) (octet : ℕ) → length (line ++ octet ∷ []) ≡ length line + 1
one_longer [] octet = refl
one_longer (x ∷ line) octet = let rest = one_longer line octet in omega (arith, rest)

-- ---- the first line of a text, of which this is the front

abbrev first_line : List ℕ → List ℕ → List ℕ
first_line line [] = line
first_line line (octet ∷ octets) = if octet == 10 then line ++ octet ∷ [] else first_line (line ++ octet ∷ []) octets

abbrev other_lines : List ℕ → List (List ℕ)
other_lines [] = []
other_lines (octet ∷ octets) = if octet == 10 then lines_from [] octets else other_lines octets

split_by : (line octets : List ℕ) (octet : ℕ) (last : Bool) → lines_from (line ++ octet ∷ []) octets ≡ first_line (line ++ octet ∷ []) octets ∷ other_lines octets
    → (if last then (line ++ octet ∷ []) ∷ lines_from [] octets else lines_from (line ++ octet ∷ []) octets)
    ≡ (if last then line ++ octet ∷ [] else first_line (line ++ octet ∷ []) octets) ∷ (if last then lines_from [] octets else other_lines octets)
split_by line octets octet true rest = refl
split_by line octets octet false rest = rest

split : (text line : List ℕ) → lines_from line text ≡ first_line line text ∷ other_lines text
split [] line = refl
split (octet ∷ octets) line = split_by line octets octet (octet == 10) (split octets (line ++ octet ∷ []))

first_by : (line octets : List ℕ) (octet : ℕ) (last : Bool) → 4 ≤ length line → kind_of (first_line (line ++ octet ∷ []) octets) ≡ kind_of (line ++ octet ∷ [])
    → kind_of (if last then line ++ octet ∷ [] else first_line (line ++ octet ∷ []) octets) ≡ kind_of line
first_by line octets octet true some rest = same_kind line (octet ∷ []) some
first_by line octets octet false some rest = rest ∙ same_kind line (octet ∷ []) some

first_kind : (text line : List ℕ) → 4 ≤ length line → kind_of (first_line line text) ≡ kind_of line
first_kind [] line some = refl
first_kind (octet ∷ octets) line some =
    let longer = one_longer line octet in
    first_by line octets octet (octet == 10) some (first_kind octets (line ++ octet ∷ []) (omega (arith, some, longer)))

-- ---- an element

-- its start and its text
abbrev begun : Kind → List ℕ → List ℕ
begun kind text = kind_start kind ++ escaped text

grown : (kind : Kind) (text more rest : List ℕ) → begun kind text ++ (escaped more ++ rest) ≡ begun kind (text ++ more) ++ rest
grown kind text more rest =
    sym (append_assoc (kind_start kind ++ escaped text) (escaped more) rest)
    ∙ ap (λ (o : List ℕ). o ++ rest)
    (append_assoc (kind_start kind) (escaped text) (escaped more)
    ∙ ap (λ (o : List ℕ). kind_start kind ++ o) (sym (flat_map-append escape_octet text more)))

-- of a group that is begun
abbrev opened : List (List ℕ) → List ℕ
opened [] = []
opened (line ∷ lines) = begun (kind_of line) (text_of (line ∷ lines))

-- what the first line says of a group with a line that says this
abbrev first_says : List (List ℕ) → Kind → Kind
first_says [] kind = kind
first_says (line ∷ lines) kind = kind_of line

text_with : (group : List (List ℕ)) (line : List ℕ) → text_of (group ++ line ∷ []) ≡ text_of group ++ line
text_with group line =
    flat_map-append (λ (l : List ℕ). l) group (line ∷ []) ∙ ap (λ (o : List ℕ). text_of group ++ o) (append-nil line)

opened_with : (group : List (List ℕ)) (line : List ℕ) → opened (group ++ line ∷ []) ≡ begun (first_says group (kind_of line)) (text_of group ++ line)
opened_with [] line = ap (λ (o : List ℕ). begun (kind_of line) o) (append-nil line)
opened_with (first ∷ group) line = ap (λ (o : List ℕ). begun (kind_of first) o) (text_with (first ∷ group) line)

piece_with : (group : List (List ℕ)) (line : List ℕ) → group_piece (group ++ line ∷ []) ≡ Printed (first_says group (kind_of line)) (text_of group ++ line)
piece_with [] line = ap (λ (o : List ℕ). Printed (kind_of line) o) (append-nil line)
piece_with (first ∷ group) line = ap (λ (o : List ℕ). Printed (kind_of first) o) (text_with (first ∷ group) line)

-- some text in it
printed_some : (kind : Kind) (text : List ℕ) → false ≡ (length text == 0) → printed_html kind text ≡ begun kind text ++ kind_end kind
printed_some kind [] e = absurd (false≢true e)
printed_some kind (x ∷ text) e = sym (append_assoc (kind_start kind) (escaped (x ∷ text)) (kind_end kind))

some_with : (text line : List ℕ) → 1 ≤ length line → false ≡ (length (text ++ line) == 0)
some_with text line some = let both = length-append text line in sym (ne_eqb (length (text ++ line)) 0 (λ e. omega (arith, some, both, e)))

-- all indented lines end alike
indented_end : (kind : Kind) → is_indented kind ≡ true → kind_end kind ≡ kind_end kinds.Beside
indented_end kinds.Connection is = absurd (false≢true is)
indented_end kinds.Yes is = absurd (false≢true is)
indented_end kinds.No is = absurd (false≢true is)
indented_end kinds.Unfinished is = absurd (false≢true is)
indented_end kinds.NotJudged is = absurd (false≢true is)
indented_end kinds.Possible is = refl
indented_end kinds.Beside is = refl
indented_end kinds.Whole is = absurd (false≢true is)
indented_end kinds.Totals is = absurd (false≢true is)

-- ---- groups

abbrev groups_html : List (List (List ℕ)) → List ℕ
groups_html groups = html_of (map group_piece groups)

-- a line that says this can stand with these
abbrev Fits : List (List ℕ) → Kind → Type 0
Fits group kind = (are_indented group ≡ true) × ((group ≡ []) ⊎ (is_indented kind ≡ true))

indented_with : (group : List (List ℕ)) (line : List ℕ) → are_indented group ≡ true → are_indented (group ++ line ∷ []) ≡ is_indented (kind_of line)
indented_with group line all =
    list_all-append (λ (l : List ℕ). is_indented (kind_of l)) group (line ∷ []) ∙ rw all (and-true (is_indented (kind_of line)))

goes_by : (group : List (List ℕ)) (line : List ℕ) → are_indented group ≡ true → goes_with group line ≡ (nat_lt (length group) most_lines && is_indented (kind_of line))
goes_by group line all = ap (λ (b : Bool). nat_lt (length group) most_lines && b) (indented_with group line all)

nothing_first : (goes : Bool) (groups : List (List (List ℕ))) → groups_html (if goes then groups else [] ∷ groups) ≡ groups_html groups
nothing_first true groups = refl
nothing_first false groups = refl

of_lines : (lines : List (List ℕ)) → groups_html (groups_from [] lines) ≡ groups_html (groups_of lines)
of_lines [] = refl
of_lines (line ∷ lines) = nothing_first (goes_with [] line) (groups_from (line ∷ []) lines)

-- one that isn't indented stands alone
alone_by : (line next : List ℕ) (lines : List (List ℕ)) (indented : Bool) → indented ≡ false
    → groups_html (if indented && (is_indented (kind_of next) && true) then groups_from (line ∷ next ∷ []) lines else (line ∷ []) ∷ groups_from (next ∷ []) lines)
    ≡ piece_html (group_piece (line ∷ [])) ++ groups_html (groups_from (next ∷ []) lines)
alone_by line next lines true is = absurd (false≢true (sym is))
alone_by line next lines false is = refl

alone : (line : List ℕ) (lines : List (List ℕ)) → is_indented (kind_of line) ≡ false
    → groups_html (groups_from (line ∷ []) lines) ≡ piece_html (group_piece (line ∷ [])) ++ groups_html (groups_from [] lines)
alone line [] is = refl
alone line (next ∷ lines) is =
    alone_by line next lines (is_indented (kind_of line)) is
    ∙ ap (λ (o : List ℕ). piece_html (group_piece (line ∷ [])) ++ o) (sym (of_lines (next ∷ lines)))

-- the end of a group
first_indented : (first : List ℕ) (group : List (List ℕ)) → are_indented (first ∷ group) ≡ true → is_indented (kind_of first) ≡ true
first_indented first group all = (and_parts (is_indented (kind_of first)) (are_indented group) all).0

is_some : (line : List ℕ) → is_indented (kind_of line) ≡ true → 1 ≤ length line
is_some [] is = absurd (false≢true is)
is_some (x ∷ line) is = omega arith

ends_open : (first : List ℕ) (group : List (List ℕ)) → are_indented (first ∷ group) ≡ true
    → piece_html (group_piece (first ∷ group)) ≡ opened (first ∷ group) ++ kind_end kinds.Beside
ends_open first group all =
    let is = first_indented first group all in
    let some = is_some first is in
    let both = length-append first (text_of group) in
    printed_some (kind_of first) (text_of (first ∷ group)) (sym (ne_eqb (length (first ++ text_of group)) 0 (λ e. omega (arith, some, both, e))))
    ∙ ap (λ (o : List ℕ). opened (first ∷ group) ++ o) (indented_end (kind_of first) is)

abbrev is_any : List (List ℕ) → Bool
is_any [] = true
is_any (line ∷ lines) = false

open_some : (count : ℕ) → 1 ≤ count → open_end count ≡ kind_end kinds.Beside
open_some count some = rw (ne_eqb count 0 (λ e. omega (arith, some, e))) refl

joins_some : (count : ℕ) (kind : Kind) → 1 ≤ count → joins count kind ≡ (nat_lt count most_lines && is_indented kind)
joins_some count kind some = let above : 0 < count = omega (arith, some) in rw (lt-ltb 0 count above) refl

end_says : (group : List (List ℕ)) (kind : Kind) → Fits group kind → kind_end (first_says group kind) ≡ kind_end kind
end_says [] kind fits = refl
end_says (first ∷ group) kind (all, inl none) = absurd (false≢true (ap is_any none))
end_says (first ∷ group) kind (all, inr indented) =
    indented_end (kind_of first) (first_indented first group all) ∙ sym (indented_end kind indented)

-- at the end of the text
closes : (group : List (List ℕ)) (line : List ℕ) → Fits group (kind_of line) → 1 ≤ length line
    → begun (first_says group (kind_of line)) (text_of group ++ line) ++ kind_end (kind_of line) ≡ groups_html (groups_from (group ++ line ∷ []) [])
closes group line fits some =
    ap (λ (o : List ℕ). begun (first_says group (kind_of line)) (text_of group ++ line) ++ o) (sym (end_says group (kind_of line) fits))
    ∙ sym (printed_some (first_says group (kind_of line)) (text_of group ++ line) (some_with (text_of group) line some))
    ∙ ap piece_html (sym (piece_with group line))
    ∙ sym (append-nil (piece_html (group_piece (group ++ line ∷ []))))

-- ---- octet by octet

-- what is written from a place on
abbrev whole : Place → List ℕ → List ℕ
whole place text = html_from place text ++ end_html (place_after place text)

step : (place : Place) (octet : ℕ) (octets : List ℕ) → whole place (octet ∷ octets) ≡ html_at place octet ++ whole (place_behind place octet) octets
step place octet octets =
    append_assoc (html_at place octet) (html_from (place_behind place octet) octets) (end_html (place_after (place_behind place octet) octets))

abbrev OfFront : List ℕ → Type 0
OfFront text =
    (group : List (List ℕ)) → are_indented group ≡ true → (front : List ℕ) → length front ≤ 3
    → opened group ++ whole (Front (length group) front) text ≡ groups_html (groups_from group (lines_from front text))

abbrev OfLine : List ℕ → Type 0
OfLine text =
    (group : List (List ℕ)) (line : List ℕ) → Fits group (kind_of line) → 4 ≤ length line
    → begun (first_says group (kind_of line)) (text_of group ++ line) ++ whole (Within (kind_of line) (length group + 1)) text
    ≡ groups_html (groups_from (group ++ first_line line text ∷ []) (other_lines text))

-- a line begins
spread : (a b c d rest : List ℕ) → a ++ (((b ++ c) ++ d) ++ rest) ≡ (a ++ b) ++ ((c ++ d) ++ rest)
spread a b c d rest =
    ap (λ (o : List ℕ). a ++ o) (ap (λ (o : List ℕ). o ++ rest) (append_assoc b c d) ∙ append_assoc b (c ++ d) rest)
    ∙ sym (append_assoc a b ((c ++ d) ++ rest))

module _ (front first : List ℕ) (rest : List (List ℕ)) (behind : ℕ → List ℕ) where
  abbrev Goes : Type 0
  Goes =
      (group : List (List ℕ)) → Fits group (kind_of front)
      → begun (first_says group (kind_of front)) (text_of group ++ front) ++ behind (length group + 1) ≡ groups_html (groups_from (group ++ first ∷ []) rest)

  joins_by : (one : List ℕ) (group : List (List ℕ)) (goes : Bool) → are_indented (one ∷ group) ≡ true → (goes ≡ true → is_indented (kind_of front) ≡ true) → Goes
      → opened (one ∷ group)
      ++ (((if goes then [] else kind_end kinds.Beside ++ kind_start (kind_of front)) ++ escaped front)
      ++ behind (if goes then length (one ∷ group) + 1 else 1))
      ≡ groups_html (if goes then groups_from ((one ∷ group) ++ first ∷ []) rest else (one ∷ group) ∷ groups_from (first ∷ []) rest)
  joins_by one group true all indented goes =
      grown (kind_of one) (text_of (one ∷ group)) front (behind (length (one ∷ group) + 1)) ∙ goes (one ∷ group) (all, inr (indented refl))
  joins_by one group false all indented goes =
      spread (opened (one ∷ group)) (kind_end kinds.Beside) (kind_start (kind_of front)) (escaped front) (behind 1)
      ∙ ap (λ (o : List ℕ). o ++ (begun (kind_of front) front ++ behind 1)) (sym (ends_open one group all))
      ∙ ap (λ (o : List ℕ). piece_html (group_piece (one ∷ group)) ++ o) (goes [] (refl, inl refl))

  begins_line : (group : List (List ℕ)) → are_indented group ≡ true → kind_of first ≡ kind_of front → Goes
      → opened group ++ (begun_html (length group) (kind_of front) front ++ behind (count_with (length group) (kind_of front)))
      ≡ groups_html (groups_from group (first ∷ rest))
  begins_line [] all same goes = goes [] (refl, inl refl) ∙ sym (nothing_first (goes_with [] first) (groups_from (first ∷ []) rest))
  begins_line (one ∷ group) all same goes =
      let kind = kind_of front in
      let count = length (one ∷ group) in
      let some : 1 ≤ count = omega arith in
      let joined = nat_lt (length (one ∷ group)) most_lines && is_indented kind in
      ap (λ (j : Bool). opened (one ∷ group) ++ (((if j then [] else open_end count ++ kind_start kind) ++ escaped front) ++ behind (if j then count + 1 else 1)))
      (joins_some count kind some)
      ∙ ap (λ (o : List ℕ). opened (one ∷ group) ++ (((if joined then [] else o ++ kind_start kind) ++ escaped front) ++ behind (if joined then count + 1 else 1)))
      (open_some count some)
      ∙ joins_by one group joined all (λ is. (and_parts (nat_lt (length (one ∷ group)) most_lines) (is_indented kind) is).1) goes
      ∙ ap (λ (b : Bool). groups_html (if b then groups_from ((one ∷ group) ++ first ∷ []) rest else (one ∷ group) ∷ groups_from (first ∷ []) rest))
      (sym (goes_by (one ∷ group) first all ∙ ap (λ (k : Kind). nat_lt (length (one ∷ group)) most_lines && is_indented k) same))

-- and ends
ended_by : (group : List (List ℕ)) (line octets : List ℕ) (indented : Bool) → is_indented (kind_of line) ≡ indented → OfFront octets → Fits group (kind_of line) → 1 ≤ length line
    → begun (first_says group (kind_of line)) (text_of group ++ line)
    ++ ((if indented then [] else kind_end (kind_of line))
    ++ whole (place_of (if indented then Some (elements.Lines (length group + 1)) else None) []) octets)
    ≡ groups_html (groups_from (group ++ line ∷ []) (lines_from [] octets))
ended_by group line octets true is of_front fits some =
    let longer : length (group ++ line ∷ []) ≡ length group + 1 = length-append group (line ∷ []) in
    ap (λ (o : List ℕ). o ++ whole (Front (length group + 1) []) octets) (sym (opened_with group line))
    ∙ ap (λ (n : ℕ). opened (group ++ line ∷ []) ++ whole (Front n []) octets) (sym longer)
    ∙ of_front (group ++ line ∷ []) (indented_with group line fits.0 ∙ is) [] (omega arith)
ended_by [] line octets false is of_front fits some =
    sym (append_assoc (begun (kind_of line) line) (kind_end (kind_of line)) (whole (Front 0 []) octets))
    ∙ ap (λ (o : List ℕ). o ++ whole (Front 0 []) octets)
    (sym (printed_some (kind_of line) line (some_with [] line some)) ∙ ap piece_html (sym (piece_with [] line)))
    ∙ ap (λ (o : List ℕ). piece_html (group_piece (line ∷ [])) ++ o) (of_front [] refl [] (omega arith))
    ∙ sym (alone line (lines_from [] octets) is)
ended_by (first ∷ group) line octets false is of_front (all, inl none) some = absurd (false≢true (ap is_any none))
ended_by (first ∷ group) line octets false is of_front (all, inr indented) some = absurd (false≢true (sym is ∙ indented))

ended : (group : List (List ℕ)) (line octets : List ℕ) → OfFront octets → Fits group (kind_of line) → 1 ≤ length line
    → begun (first_says group (kind_of line)) (text_of group ++ line) ++ (line_end (kind_of line) ++ whole (behind_line (kind_of line) (length group + 1)) octets)
    ≡ groups_html (groups_from (group ++ line ∷ []) (lines_from [] octets))
ended group line octets of_front fits some = ended_by group line octets (is_indented (kind_of line)) refl of_front fits some

-- at its front
front_by : (group : List (List ℕ)) (front octets : List ℕ) (octet : ℕ) (last full : Bool) → (length front == 3) ≡ full → are_indented group ≡ true → length front ≤ 3
    → OfFront octets → OfLine octets
    → opened group
    ++ ((if last then line_html (length group) (kind_of (front ++ octet ∷ [])) (front ++ octet ∷ []) else
    if full then begun_html (length group) (kind_of (front ++ octet ∷ [])) (front ++ octet ∷ [])
    else [])
    ++ whole (if last then line_place (length group) (kind_of (front ++ octet ∷ [])) else
    if full then begun_place (length group) (kind_of (front ++ octet ∷ [])) else
    Front (length group) (front ++ octet ∷ [])) octets)
    ≡ groups_html (groups_from group (if last then (front ++ octet ∷ []) ∷ lines_from [] octets else lines_from (front ++ octet ∷ []) octets))
front_by group front octets octet true full is all few of_front of_line =
    let line = front ++ octet ∷ [] in
    let kind = kind_of line in
    let longer = one_longer front octet in
    ap (λ (o : List ℕ). opened group ++ o)
    (append_assoc (begun_html (length group) kind line) (line_end kind) (whole (line_place (length group) kind) octets))
    ∙ begins_line line line (lines_from [] octets) (λ count. line_end kind ++ whole (behind_line kind count) octets) group all refl
    (λ g fits. ended g line octets of_front fits (omega (arith, longer)))
front_by group front octets octet false true is all few of_front of_line =
    let line = front ++ octet ∷ [] in
    let three = eqb-true (length front) 3 is in
    let longer = one_longer front octet in
    let four : 4 ≤ length line = omega (arith, three, longer) in
    begins_line line (first_line line octets) (other_lines octets) (λ count. whole (Within (kind_of line) count) octets) group all (first_kind octets line four)
    (λ g fits. of_line g line fits four)
    ∙ ap (λ (ls : List (List ℕ)). groups_html (groups_from group ls)) (sym (split octets line))
front_by group front octets octet false false is all few of_front of_line =
    let other : length front ≢ 3 = eqb-false (length front) 3 is in
    let longer = one_longer front octet in
    of_front group all (front ++ octet ∷ []) (omega (arith, other, few, longer))

-- within it
line_by : (group : List (List ℕ)) (line octets : List ℕ) (octet : ℕ) (last : Bool) → Fits group (kind_of line) → 4 ≤ length line → OfFront octets → OfLine octets
    → begun (first_says group (kind_of line)) (text_of group ++ line)
    ++ ((escaped (octet ∷ []) ++ (if last then line_end (kind_of line) else []))
    ++ whole (if last then behind_line (kind_of line) (length group + 1) else Within (kind_of line) (length group + 1)) octets)
    ≡ groups_html (groups_from (group ++ (if last then line ++ octet ∷ [] else first_line (line ++ octet ∷ []) octets) ∷ [])
    (if last then lines_from [] octets else other_lines octets))
line_by group line octets octet true fits some of_front of_line =
    let longer = one_longer line octet in
    let same = same_kind line (octet ∷ []) some in
    let says = first_says group (kind_of line) in
    let rest = whole (behind_line (kind_of line) (length group + 1)) octets in
    ap (λ (o : List ℕ). begun says (text_of group ++ line) ++ o) (append_assoc (escaped (octet ∷ [])) (line_end (kind_of line)) rest)
    ∙ grown says (text_of group ++ line) (octet ∷ []) (line_end (kind_of line) ++ rest)
    ∙ ap (λ (o : List ℕ). begun says o ++ (line_end (kind_of line) ++ rest)) (append_assoc (text_of group) line (octet ∷ []))
    ∙ ap (λ (k : Kind). begun (first_says group k) (text_of group ++ (line ++ octet ∷ [])) ++ (line_end k ++ whole (behind_line k (length group + 1)) octets)) (sym same)
    ∙ ended group (line ++ octet ∷ []) octets of_front (subst (λ (k : Kind). Fits group k) (sym same) fits) (omega (arith, longer))
line_by group line octets octet false fits some of_front of_line =
    let longer = one_longer line octet in
    let same = same_kind line (octet ∷ []) some in
    let says = first_says group (kind_of line) in
    let rest = whole (Within (kind_of line) (length group + 1)) octets in
    ap (λ (o : List ℕ). begun says (text_of group ++ line) ++ (o ++ rest)) (append-nil (escaped (octet ∷ [])))
    ∙ grown says (text_of group ++ line) (octet ∷ []) rest
    ∙ ap (λ (o : List ℕ). begun says o ++ rest) (append_assoc (text_of group) line (octet ∷ []))
    ∙ ap (λ (k : Kind). begun (first_says group k) (text_of group ++ (line ++ octet ∷ [])) ++ whole (Within k (length group + 1)) octets) (sym same)
    ∙ of_line group (line ++ octet ∷ []) (subst (λ (k : Kind). Fits group k) (sym same) fits) (omega (arith, some, longer))

-- at the end of the text
front_end : (group : List (List ℕ)) (front : List ℕ) → are_indented group ≡ true
    → opened group ++ end_html (Front (length group) front) ≡ groups_html (groups_from group (front ∷ []))
front_end [] [] all = refl
front_end (one ∷ group) [] all =
    let other : goes_with (one ∷ group) [] ≡ false = goes_by (one ∷ group) [] all ∙ and-false (nat_lt (length (one ∷ group)) most_lines) in
    let some : 1 ≤ length (one ∷ group) = omega arith in
    ap (λ (o : List ℕ). opened (one ∷ group) ++ o) (open_some (length (one ∷ group)) some)
    ∙ sym (ends_open one group all) ∙ sym (append-nil (piece_html (group_piece (one ∷ group))))
    ∙ ap (λ (b : Bool). groups_html (if b then groups_from ((one ∷ group) ++ [] ∷ []) [] else (one ∷ group) ∷ groups_from ([] ∷ []) [])) (sym other)
front_end group (x ∷ front) all =
    begins_line (x ∷ front) (x ∷ front) [] (λ count. kind_end (kind_of (x ∷ front))) group all refl (λ g fits. closes g (x ∷ front) fits (omega arith))

of_text : (text : List ℕ) → OfFront text × OfLine text
of_text [] = (
  λ group all front few. front_end group front all,
  λ group line fits some. closes group line fits (omega (arith, some)),
)
of_text (octet ∷ octets) =
    let behind = of_text octets in (
      λ group all front few. ap (λ (o : List ℕ). opened group ++ o) (step (Front (length group) front) octet octets)
          ∙ front_by group front octets octet (octet == 10) (length front == 3) refl all few behind.0 behind.1,
      λ group line fits some. ap (λ (o : List ℕ). begun (first_says group (kind_of line)) (text_of group ++ line) ++ o)
          (step (Within (kind_of line) (length group + 1)) octet octets)
          ∙ line_by group line octets octet (octet == 10) fits some behind.0 behind.1,
    )

pub all_html : (text : List ℕ) → whole (Front 0 []) text ≡ lines_html text
all_html text = (of_text text).0 [] refl [] (omega arith) ∙ of_lines (lines_from [] text)

-- what is written of a text, from its first octet to its end
pub put_lines : {W : Type 0} {sink : sinks.Ghosts W} {Y : Type 0} → Joins sink → (from to after : Lines W sink) (element element' : Option Element) (front front' : List ℕ)
    (notes notes' : Notes Y) (text : List ℕ) → element ≡ None → front ≡ [] → Puts from to element element' front front' notes notes' text
    → Writes to after (end_html (place_of element' front')) → Writes from after (lines_html text)
put_lines law from to after element element' front front' notes notes' text none empty puts ends =
    let first : place_of element front ≡ Front 0 [] = ap₂ (λ (e : Option Element) (f : List ℕ). place_of e f) none empty in
    let start : Writes from to (html_from (Front 0 []) text) =
    subst (λ (p : Place). Writes from to (html_from p text)) first puts.writes in
    let end : Writes to after (end_html (place_after (Front 0 []) text)) =
    subst (λ (p : Place). Writes to after (end_html p)) (puts.place ∙ ap (λ (p : Place). place_after p text) first) ends in
    subst (λ (t : List ℕ). Writes from after t) (all_html text) (and_then law start end)

-- the head, then the lines, and then what stands behind them
pub reported : (name text : List ℕ) (behind : List Piece) → (html_of (head_pieces name) ++ lines_html text) ++ html_of behind ≡ report_html name text behind
reported name text behind =
    ap (λ (o : List ℕ). o ++ html_of behind) (sym (flat_map-append piece_html (head_pieces name) (line_pieces (lines_from [] text))))
    ∙ sym (flat_map-append piece_html (report_pieces name text) behind)

-- ---- what it says

said_by : (front octets : List ℕ) (octet : ℕ) (last : Bool) → ((line : List ℕ) → text_of (lines_from line octets) ≡ line ++ octets)
    → text_of (if last then (front ++ octet ∷ []) ∷ lines_from [] octets else lines_from (front ++ octet ∷ []) octets) ≡ front ++ octet ∷ octets
said_by front octets octet true behind =
    ap (λ (o : List ℕ). (front ++ octet ∷ []) ++ o) (behind []) ∙ append_assoc front (octet ∷ []) octets
said_by front octets octet false behind = behind (front ++ octet ∷ []) ∙ append_assoc front (octet ∷ []) octets

said_lines : (text front : List ℕ) → text_of (lines_from front text) ≡ front ++ text
said_lines [] front = refl
said_lines (octet ∷ octets) front = said_by front octets octet (octet == 10) (λ line. said_lines octets line)

said_group : (group : List (List ℕ)) → piece_lines (group_piece group) ≡ text_of group
said_group [] = refl
said_group (line ∷ lines) = refl

said_groups : (groups : List (List (List ℕ))) → printed_of (map group_piece groups) ≡ text_of (flat_map (λ group. group) groups)
said_groups [] = refl
said_groups (group ∷ groups) =
    ap₂ (λ (a b : List ℕ). a ++ b) (said_group group) (said_groups groups)
    ∙ sym (flat_map-append (λ (l : List ℕ). l) group (flat_map (λ group. group) groups))

said : (text : List ℕ) → printed_of (line_pieces (lines_from [] text)) ≡ text
said text = said_groups (groups_of (lines_from [] text)) ∙ ap text_of (grouped (lines_from [] text)) ∙ said_lines text []

pub say_the_same : ReportsSayTheSame
say_the_same name text behind none =
    lines_are_printed (report_pieces name text ++ behind)
    ∙ flat_map-append piece_lines (report_pieces name text) behind
    ∙ ap (λ (o : List ℕ). printed_of (report_pieces name text) ++ o) none
    ∙ append-nil (printed_of (report_pieces name text))
    ∙ flat_map-append piece_lines (head_pieces name) (line_pieces (lines_from [] text))
    ∙ said text
