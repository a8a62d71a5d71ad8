-- What is seen of pieces are their words, and what is printed are their lines.
use Rattle.std.proofs.Common.{◌≡◌, ◌∙◌, ◌++◌, ◌==◌, ℕ, Bool, true, false, List, [], ◌∷◌, codes, if◌then◌else◌, refl, sym, ap, append_assoc}
use Rattle.std.proofs.lemmas.Bool.{eqb-true}
use Rattle.bgp_html.proofs.Octets.{by_tests}
use Rattle.bgp_html.specs.Escaped.{escape_octet, escaped}
use Rattle.bgp_html.specs.Pieces.{Markup, Printed, Words, html_of, words_of}
use Rattle.bgp_html.specs.Printed.{kind_end, kind_start}
use Rattle.bgp_html.specs.Reading.{LinesArePrinted, Text, WordsAreSeen, is_printed, is_seen, read}
use Rattle.bgp_html.specs.Tags.{row_text, tag_text, tag_words}
use Rattle.bgp_html.specs.declared.printed.Kind.{Kind}
use Rattle.bgp_html.specs.declared.printed.Kind.TheVariants as kinds
use Rattle.bgp_html.specs.declared.tag.Column.TheVariants.{Left, Right}
use Rattle.bgp_html.specs.declared.tag.Mark.{Mark}
use Rattle.bgp_html.specs.declared.tag.Mark.TheVariants.{Plain, No, Behind, Possible}
use Rattle.bgp_html.specs.declared.tag.Tag.{Tag}
use Rattle.bgp_html.specs.declared.tag.Tag.TheVariants.{Ladder, CaptionEnd, Head, HeadEnd, Row, Cell, Message, MessageEnd, Change, ChangeEnd, LadderEnd, Page, AfterTitle, AfterName, Ladders, Stretches, SectionEnd, Details, DetailsOpen, SummaryEnd, DetailsEnd}
use Rattle.bgp_html.specs.declared.tag.What.{What}
use Rattle.bgp_html.specs.declared.tag.What.TheVariants.{Sent, Received, Changed, Run}

-- ---- words

module _ (takes : List ℕ → Bool) where
  by_octet : (octet : ℕ) (rest : List ℕ) (taken a b c d e : Bool)
      → (octet == 38) ≡ a → (octet == 60) ≡ b → (octet == 62) ≡ c → (octet == 34) ≡ d → (octet == 39) ≡ e
      → read takes (Text taken) (by_tests octet a b c d e ++ rest) ≡ (if taken then octet ∷ [] else []) ++ read takes (Text taken) rest
  by_octet octet rest taken true b c d e o p q r s = ap (λ (x : ℕ). (if taken then x ∷ [] else []) ++ read takes (Text taken) rest) (sym (eqb-true octet 38 o))
  by_octet octet rest taken false true c d e o p q r s = ap (λ (x : ℕ). (if taken then x ∷ [] else []) ++ read takes (Text taken) rest) (sym (eqb-true octet 60 p))
  by_octet octet rest taken false false true d e o p q r s = ap (λ (x : ℕ). (if taken then x ∷ [] else []) ++ read takes (Text taken) rest) (sym (eqb-true octet 62 q))
  by_octet octet rest taken false false false true e o p q r s = ap (λ (x : ℕ). (if taken then x ∷ [] else []) ++ read takes (Text taken) rest) (sym (eqb-true octet 34 r))
  by_octet octet rest taken false false false false true o p q r s = ap (λ (x : ℕ). (if taken then x ∷ [] else []) ++ read takes (Text taken) rest) (sym (eqb-true octet 39 s))
  by_octet octet rest taken false false false false false o p q r s = rw p (rw o refl)

  of_octet : (octet : ℕ) (rest : List ℕ) (taken : Bool) → read takes (Text taken) (escape_octet octet ++ rest) ≡ (if taken then octet ∷ [] else []) ++ read takes (Text taken) rest
  unfolding escape_octet
  of_octet octet rest taken =
      by_octet octet rest taken (octet == 38) (octet == 60) (octet == 62) (octet == 34) (octet == 39) refl refl refl refl refl

  taken_words : (words rest : List ℕ) → read takes (Text true) (escaped words ++ rest) ≡ words ++ read takes (Text true) rest
  taken_words [] rest = refl
  taken_words (octet ∷ words) rest =
      ap (λ (o : List ℕ). read takes (Text true) o) (append_assoc (escape_octet octet) (escaped words) rest)
      ∙ of_octet octet (escaped words ++ rest) true ∙ ap (λ (o : List ℕ). octet ∷ o) (taken_words words rest)

  left_words : (words rest : List ℕ) → read takes (Text false) (escaped words ++ rest) ≡ read takes (Text false) rest
  left_words [] rest = refl
  left_words (octet ∷ words) rest =
      ap (λ (o : List ℕ). read takes (Text false) o) (append_assoc (escape_octet octet) (escaped words) rest)
      ∙ of_octet octet (escaped words ++ rest) false ∙ left_words words rest

-- ---- markup

of_row : (what : What) (mark : Mark) (rest : List ℕ)
    → (read is_seen (Text true) (row_text what mark ++ rest) ≡ read is_seen (Text true) rest)
    × (read is_printed (Text false) (row_text what mark ++ rest) ≡ read is_printed (Text false) rest)
of_row (Sent Left) Plain rest = (refl, refl)
of_row (Sent Left) No rest = (refl, refl)
of_row (Sent Left) Behind rest = (refl, refl)
of_row (Sent Left) Possible rest = (refl, refl)
of_row (Sent Right) Plain rest = (refl, refl)
of_row (Sent Right) No rest = (refl, refl)
of_row (Sent Right) Behind rest = (refl, refl)
of_row (Sent Right) Possible rest = (refl, refl)
of_row (Received Left) Plain rest = (refl, refl)
of_row (Received Left) No rest = (refl, refl)
of_row (Received Left) Behind rest = (refl, refl)
of_row (Received Left) Possible rest = (refl, refl)
of_row (Received Right) Plain rest = (refl, refl)
of_row (Received Right) No rest = (refl, refl)
of_row (Received Right) Behind rest = (refl, refl)
of_row (Received Right) Possible rest = (refl, refl)
of_row Changed Plain rest = (refl, refl)
of_row Changed No rest = (refl, refl)
of_row Changed Behind rest = (refl, refl)
of_row Changed Possible rest = (refl, refl)
of_row Run Plain rest = (refl, refl)
of_row Run No rest = (refl, refl)
of_row Run Behind rest = (refl, refl)
of_row Run Possible rest = (refl, refl)

seen_tag : (tag : Tag) (rest : List ℕ) → read is_seen (Text true) (tag_text tag ++ rest) ≡ tag_words tag ++ read is_seen (Text true) rest
unfolding tag_text
seen_tag (Ladder Left) rest = refl
seen_tag (Ladder Right) rest = refl
seen_tag CaptionEnd rest = refl
seen_tag Head rest = refl
seen_tag HeadEnd rest = refl
seen_tag (Row what mark) rest = (of_row what mark rest).0
seen_tag Cell rest = refl
seen_tag Message rest = refl
seen_tag MessageEnd rest = refl
seen_tag (Change Left) rest = refl
seen_tag (Change Right) rest = refl
seen_tag (ChangeEnd Left) rest = refl
seen_tag (ChangeEnd Right) rest = refl
seen_tag LadderEnd rest = refl
seen_tag Page rest = refl
seen_tag AfterTitle rest = refl
seen_tag AfterName rest = refl
seen_tag Ladders rest = refl
seen_tag Stretches rest = refl
seen_tag SectionEnd rest = refl
seen_tag Details rest = refl
seen_tag DetailsOpen rest = refl
seen_tag SummaryEnd rest = refl
seen_tag DetailsEnd rest = refl

printed_tag : (tag : Tag) (rest : List ℕ) → read is_printed (Text false) (tag_text tag ++ rest) ≡ read is_printed (Text false) rest
unfolding tag_text
printed_tag (Ladder Left) rest = refl
printed_tag (Ladder Right) rest = refl
printed_tag CaptionEnd rest = refl
printed_tag Head rest = refl
printed_tag HeadEnd rest = refl
printed_tag (Row what mark) rest = (of_row what mark rest).1
printed_tag Cell rest = refl
printed_tag Message rest = refl
printed_tag MessageEnd rest = refl
printed_tag (Change Left) rest = refl
printed_tag (Change Right) rest = refl
printed_tag (ChangeEnd Left) rest = refl
printed_tag (ChangeEnd Right) rest = refl
printed_tag LadderEnd rest = refl
printed_tag Page rest = refl
printed_tag AfterTitle rest = refl
printed_tag AfterName rest = refl
printed_tag Ladders rest = refl
printed_tag Stretches rest = refl
printed_tag SectionEnd rest = refl
printed_tag Details rest = refl
printed_tag DetailsOpen rest = refl
printed_tag SummaryEnd rest = refl
printed_tag DetailsEnd rest = refl

-- ---- lines

seen_start : (kind : Kind) (rest : List ℕ) → read is_seen (Text true) (kind_start kind ++ rest) ≡ read is_seen (Text true) rest
seen_start kinds.Connection rest = refl
seen_start kinds.Yes rest = refl
seen_start kinds.No rest = refl
seen_start kinds.Unfinished rest = refl
seen_start kinds.NotJudged rest = refl
seen_start kinds.Possible rest = refl
seen_start kinds.Beside rest = refl
seen_start kinds.Whole rest = refl
seen_start kinds.Totals rest = refl

seen_end : (kind : Kind) (rest : List ℕ) → read is_seen (Text true) (kind_end kind ++ rest) ≡ codes "\n" ++ read is_seen (Text true) rest
seen_end kinds.Connection rest = refl
seen_end kinds.Yes rest = refl
seen_end kinds.No rest = refl
seen_end kinds.Unfinished rest = refl
seen_end kinds.NotJudged rest = refl
seen_end kinds.Possible rest = refl
seen_end kinds.Beside rest = refl
seen_end kinds.Whole rest = refl
seen_end kinds.Totals rest = refl

printed_start : (kind : Kind) (rest : List ℕ) → read is_printed (Text false) (kind_start kind ++ rest) ≡ read is_printed (Text true) rest
printed_start kinds.Connection rest = refl
printed_start kinds.Yes rest = refl
printed_start kinds.No rest = refl
printed_start kinds.Unfinished rest = refl
printed_start kinds.NotJudged rest = refl
printed_start kinds.Possible rest = refl
printed_start kinds.Beside rest = refl
printed_start kinds.Whole rest = refl
printed_start kinds.Totals rest = refl

printed_end : (kind : Kind) (rest : List ℕ) → read is_printed (Text true) (kind_end kind ++ rest) ≡ read is_printed (Text false) rest
printed_end kinds.Connection rest = refl
printed_end kinds.Yes rest = refl
printed_end kinds.No rest = refl
printed_end kinds.Unfinished rest = refl
printed_end kinds.NotJudged rest = refl
printed_end kinds.Possible rest = refl
printed_end kinds.Beside rest = refl
printed_end kinds.Whole rest = refl
printed_end kinds.Totals rest = refl

-- the text and the end of its element
apart : (kind : Kind) (text rest : List ℕ) → (kind_start kind ++ (escaped text ++ kind_end kind)) ++ rest ≡ kind_start kind ++ (escaped text ++ (kind_end kind ++ rest))
apart kind text rest =
    append_assoc (kind_start kind) (escaped text ++ kind_end kind) rest
    ∙ ap (λ (o : List ℕ). kind_start kind ++ o) (append_assoc (escaped text) (kind_end kind) rest)

seen_lines : (kind : Kind) (text rest : List ℕ)
    → read is_seen (Text true) ((kind_start kind ++ (escaped text ++ kind_end kind)) ++ rest) ≡ text ++ (codes "\n" ++ read is_seen (Text true) rest)
seen_lines kind text rest =
    ap (λ (o : List ℕ). read is_seen (Text true) o) (apart kind text rest)
    ∙ seen_start kind (escaped text ++ (kind_end kind ++ rest)) ∙ taken_words is_seen text (kind_end kind ++ rest)
    ∙ ap (λ (o : List ℕ). text ++ o) (seen_end kind rest)

printed_lines : (kind : Kind) (text rest : List ℕ)
    → read is_printed (Text false) ((kind_start kind ++ (escaped text ++ kind_end kind)) ++ rest) ≡ text ++ read is_printed (Text false) rest
printed_lines kind text rest =
    ap (λ (o : List ℕ). read is_printed (Text false) o) (apart kind text rest)
    ∙ printed_start kind (escaped text ++ (kind_end kind ++ rest)) ∙ taken_words is_printed text (kind_end kind ++ rest)
    ∙ ap (λ (o : List ℕ). text ++ o) (printed_end kind rest)

-- ---- pieces

pub words_are_seen : WordsAreSeen
words_are_seen [] = refl
words_are_seen (Markup tag ∷ pieces) =
    seen_tag tag (html_of pieces) ∙ ap (λ (o : List ℕ). tag_words tag ++ o) (words_are_seen pieces)
words_are_seen (Words words ∷ pieces) =
    taken_words is_seen words (html_of pieces) ∙ ap (λ (o : List ℕ). words ++ o) (words_are_seen pieces)
words_are_seen (Printed kind [] ∷ pieces) = words_are_seen pieces
words_are_seen (Printed kind (octet ∷ text) ∷ pieces) =
    seen_lines kind (octet ∷ text) (html_of pieces)
    ∙ ap (λ (o : List ℕ). (octet ∷ text) ++ (codes "\n" ++ o)) (words_are_seen pieces)
    ∙ sym (append_assoc (octet ∷ text) (codes "\n") (words_of pieces))

pub lines_are_printed : LinesArePrinted
lines_are_printed [] = refl
lines_are_printed (Markup tag ∷ pieces) = printed_tag tag (html_of pieces) ∙ lines_are_printed pieces
lines_are_printed (Words words ∷ pieces) = left_words is_printed words (html_of pieces) ∙ lines_are_printed pieces
lines_are_printed (Printed kind [] ∷ pieces) = lines_are_printed pieces
lines_are_printed (Printed kind (octet ∷ text) ∷ pieces) =
    printed_lines kind (octet ∷ text) (html_of pieces) ∙ ap (λ (o : List ℕ). (octet ∷ text) ++ o) (lines_are_printed pieces)
