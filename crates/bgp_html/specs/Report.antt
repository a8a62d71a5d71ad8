-- What `bgp check` prints of a file, as a report in HTML.
use Rattle.std.specs.Prelude.{◌≡◌, ◌==◌, ◌||◌, ◌++◌, ℕ, List, [], ◌∷◌, map, nat_lt}
use Rattle.std.specs.Prelude.{if◌then◌else◌}
use Rattle.std.specs.List.{flat_map}
use Rattle.bgp_html.specs.Groups.{group_piece, groups_of}
use Rattle.bgp_html.specs.Pieces.{Markup, Piece, Words, html_of, printed_of}
use Rattle.bgp_html.specs.Reading.{printed}
use Rattle.bgp_html.specs.declared.tag.Tag.TheVariants.{AfterName, AfterTitle, Page}

-- ---- the head

-- An octet of a file's name: a control character is shown as U+FFFD, as a name may hold some and
-- HTML may not (the HTML standard, 13.2.3.5).
unfoldable pub name_octet : ℕ → List ℕ
name_octet octet =
    if nat_lt octet 32 || octet == 127 then 239 ∷ 191 ∷ 189 ∷ [] else
    octet ∷ []

abbrev pub shown_name : List ℕ → List ℕ
shown_name name = flat_map name_octet name

abbrev pub head_pieces : List ℕ → List Piece
head_pieces name =
    Markup Page ∷ Words (shown_name name) ∷ Markup AfterTitle ∷ Words (shown_name name)
    ∷ Markup AfterName ∷ []

-- ---- the lines

-- Those of a text of which this is the front of the first: each ends with its line feed, and what
-- is behind the last line feed is a line, too.
abbrev pub lines_from : List ℕ → List ℕ → List (List ℕ)
lines_from front [] = front ∷ []
lines_from front (octet ∷ octets) =
    if octet == 10 then (front ++ octet ∷ []) ∷ lines_from [] octets
    else lines_from (front ++ octet ∷ []) octets

-- their elements
abbrev pub line_pieces : List (List ℕ) → List Piece
line_pieces lines = map group_piece (groups_of lines)

-- what is written of them
abbrev pub lines_html : List ℕ → List ℕ
lines_html text = html_of (line_pieces (lines_from [] text))

-- ---- the report

abbrev pub report_pieces : List ℕ → List ℕ → List Piece
report_pieces name text = head_pieces name ++ line_pieces (lines_from [] text)

-- of a file with this name, of which this text is printed; these pieces stand after the text
abbrev pub report_html : List ℕ → List ℕ → List Piece → List ℕ
report_html name text behind = html_of (report_pieces name text ++ behind)

-- Whoever reads what stands in the elements of a report that are called samp gets the text, word
-- for word, and nothing else, if no line is among the pieces after the text.
abbrev pub ReportsSayTheSame : Type 0
ReportsSayTheSame = (name text : List ℕ) (behind : List Piece) → printed_of behind ≡ []
    → printed (report_html name text behind) ≡ text
