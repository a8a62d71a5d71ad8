-- The tags in HTML are those of its markup.
use Rattle.std.proofs.Common.{◌≡◌, ◌∙◌, ◌++◌, ◌==◌, ℕ, Bool, true, false, List, [], ◌∷◌, refl, ap, append_assoc, sym}
use Rattle.bgp_html.proofs.Octets.{by_tests}
use Rattle.bgp_html.specs.Escaped.{escape_octet, escaped}
use Rattle.bgp_html.specs.Pieces.{Markup, Printed, Words, html_of}
use Rattle.bgp_html.specs.Printed.{kind_end, kind_start}
use Rattle.bgp_html.specs.Reading.{Between, WordsAreNoTags, tags_from, tags_of}
use Rattle.bgp_html.specs.Tags.{row_text, tag_text}
use Rattle.bgp_html.specs.declared.printed.Kind.{Kind}
use Rattle.bgp_html.specs.declared.printed.Kind.TheVariants as kinds
use Rattle.bgp_html.specs.declared.tag.Column.TheVariants.{Left, Right}
use Rattle.bgp_html.specs.declared.tag.Mark.{Mark}
use Rattle.bgp_html.specs.declared.tag.Mark.TheVariants.{Plain, No, Behind, Possible}
use Rattle.bgp_html.specs.declared.tag.Tag.{Tag}
use Rattle.bgp_html.specs.declared.tag.Tag.TheVariants.{Ladder, CaptionEnd, Head, HeadEnd, Row, Cell, Message, MessageEnd, Change, ChangeEnd, LadderEnd, Page, AfterTitle, AfterName, Ladders, Stretches, SectionEnd, Details, DetailsOpen, SummaryEnd, DetailsEnd}
use Rattle.bgp_html.specs.declared.tag.What.{What}
use Rattle.bgp_html.specs.declared.tag.What.TheVariants.{Sent, Received, Changed, Run}

-- ---- words

by_octet : (octet : ℕ) (rest : List ℕ) (a b c d e : Bool) → (octet == 60) ≡ b → tags_from Between (by_tests octet a b c d e ++ rest) ≡ tags_from Between rest
by_octet octet rest true b c d e p = refl
by_octet octet rest false true c d e p = refl
by_octet octet rest false false true d e p = refl
by_octet octet rest false false false true e p = refl
by_octet octet rest false false false false true p = refl
by_octet octet rest false false false false false p = rw p refl

of_octet : (octet : ℕ) (rest : List ℕ) → tags_from Between (escape_octet octet ++ rest) ≡ tags_from Between rest
unfolding escape_octet
of_octet octet rest = by_octet octet rest (octet == 38) (octet == 60) (octet == 62) (octet == 34) (octet == 39) refl

of_words : (words rest : List ℕ) → tags_from Between (escaped words ++ rest) ≡ tags_from Between rest
of_words [] rest = refl
of_words (octet ∷ words) rest =
    ap (tags_from Between) (append_assoc (escape_octet octet) (escaped words) rest) ∙ of_octet octet (escaped words ++ rest) ∙ of_words words rest

-- ---- markup

of_row : (what : What) (mark : Mark) (rest : List ℕ) → tags_from Between (row_text what mark ++ rest) ≡ tags_of (row_text what mark) ++ tags_from Between rest
of_row (Sent Left) Plain rest = refl
of_row (Sent Left) No rest = refl
of_row (Sent Left) Behind rest = refl
of_row (Sent Left) Possible rest = refl
of_row (Sent Right) Plain rest = refl
of_row (Sent Right) No rest = refl
of_row (Sent Right) Behind rest = refl
of_row (Sent Right) Possible rest = refl
of_row (Received Left) Plain rest = refl
of_row (Received Left) No rest = refl
of_row (Received Left) Behind rest = refl
of_row (Received Left) Possible rest = refl
of_row (Received Right) Plain rest = refl
of_row (Received Right) No rest = refl
of_row (Received Right) Behind rest = refl
of_row (Received Right) Possible rest = refl
of_row Changed Plain rest = refl
of_row Changed No rest = refl
of_row Changed Behind rest = refl
of_row Changed Possible rest = refl
of_row Run Plain rest = refl
of_row Run No rest = refl
of_row Run Behind rest = refl
of_row Run Possible rest = refl

of_tag : (tag : Tag) (rest : List ℕ) → tags_from Between (tag_text tag ++ rest) ≡ tags_of (tag_text tag) ++ tags_from Between rest
unfolding tag_text
of_tag (Ladder Left) rest = refl
of_tag (Ladder Right) rest = refl
of_tag CaptionEnd rest = refl
of_tag Head rest = refl
of_tag HeadEnd rest = refl
of_tag (Row what mark) rest = of_row what mark rest
of_tag Cell rest = refl
of_tag Message rest = refl
of_tag MessageEnd rest = refl
of_tag (Change Left) rest = refl
of_tag (Change Right) rest = refl
of_tag (ChangeEnd Left) rest = refl
of_tag (ChangeEnd Right) rest = refl
of_tag LadderEnd rest = refl
of_tag Page rest = refl
of_tag AfterTitle rest = refl
of_tag AfterName rest = refl
of_tag Ladders rest = refl
of_tag Stretches rest = refl
of_tag SectionEnd rest = refl
of_tag Details rest = refl
of_tag DetailsOpen rest = refl
of_tag SummaryEnd rest = refl
of_tag DetailsEnd rest = refl

-- ---- lines

of_start : (kind : Kind) (rest : List ℕ) → tags_from Between (kind_start kind ++ rest) ≡ tags_of (kind_start kind) ++ tags_from Between rest
of_start kinds.Connection rest = refl
of_start kinds.Yes rest = refl
of_start kinds.No rest = refl
of_start kinds.Unfinished rest = refl
of_start kinds.NotJudged rest = refl
of_start kinds.Possible rest = refl
of_start kinds.Beside rest = refl
of_start kinds.Whole rest = refl
of_start kinds.Totals rest = refl

of_end : (kind : Kind) (rest : List ℕ) → tags_from Between (kind_end kind ++ rest) ≡ tags_of (kind_end kind) ++ tags_from Between rest
of_end kinds.Connection rest = refl
of_end kinds.Yes rest = refl
of_end kinds.No rest = refl
of_end kinds.Unfinished rest = refl
of_end kinds.NotJudged rest = refl
of_end kinds.Possible rest = refl
of_end kinds.Beside rest = refl
of_end kinds.Whole rest = refl
of_end kinds.Totals rest = refl

of_lines : (kind : Kind) (text rest : List ℕ)
    → tags_from Between ((kind_start kind ++ (escaped text ++ kind_end kind)) ++ rest) ≡ (tags_of (kind_start kind) ++ tags_of (kind_end kind)) ++ tags_from Between rest
of_lines kind text rest =
    ap (tags_from Between) (append_assoc (kind_start kind) (escaped text ++ kind_end kind) rest ∙ ap (λ (o : List ℕ). kind_start kind ++ o) (append_assoc (escaped text) (kind_end kind) rest))
    ∙ of_start kind (escaped text ++ (kind_end kind ++ rest))
    ∙ ap (λ (ts : List (List ℕ)). tags_of (kind_start kind) ++ ts) (of_words text (kind_end kind ++ rest) ∙ of_end kind rest)
    ∙ sym (append_assoc (tags_of (kind_start kind)) (tags_of (kind_end kind)) (tags_from Between rest))

-- ---- pieces

pub words_are_no_tags : WordsAreNoTags
words_are_no_tags [] = refl
words_are_no_tags (Markup tag ∷ pieces) =
    of_tag tag (html_of pieces) ∙ ap (λ (ts : List (List ℕ)). tags_of (tag_text tag) ++ ts) (words_are_no_tags pieces)
words_are_no_tags (Words words ∷ pieces) = of_words words (html_of pieces) ∙ words_are_no_tags pieces
words_are_no_tags (Printed kind [] ∷ pieces) = words_are_no_tags pieces
words_are_no_tags (Printed kind (octet ∷ text) ∷ pieces) =
    of_lines kind (octet ∷ text) (html_of pieces)
    ∙ ap (λ (ts : List (List ℕ)). (tags_of (kind_start kind) ++ tags_of (kind_end kind)) ++ ts) (words_are_no_tags pieces)
