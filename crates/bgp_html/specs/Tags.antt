-- The markup of a report (the HTML standard, 13.1.2): rows and cells end where the next begins.
use Rattle.std.specs.Prelude.{◌++◌, ℕ, List, [], codes}
use Rattle.bgp_html.specs.Page.{about_text, after_name, after_title, ladders_start, ladders_text}
use Rattle.bgp_html.specs.Page.{page_start, stretches_start, stretches_text, words_text}
use Rattle.bgp_html.specs.declared.tag.Column.TheVariants.{Left, Right}
use Rattle.bgp_html.specs.declared.tag.Mark.{Mark}
use Rattle.bgp_html.specs.declared.tag.Mark.TheVariants.{Plain, No, Behind, Possible}
use Rattle.bgp_html.specs.declared.tag.Tag.{Tag}
use Rattle.bgp_html.specs.declared.tag.Tag.TheVariants.{Ladder, CaptionEnd, Head, HeadEnd, Row}
use Rattle.bgp_html.specs.declared.tag.Tag.TheVariants.{Cell, Message, MessageEnd, Change}
use Rattle.bgp_html.specs.declared.tag.Tag.TheVariants.{ChangeEnd, LadderEnd}
use Rattle.bgp_html.specs.declared.tag.Tag.TheVariants.{Page, AfterTitle, AfterName, Ladders}
use Rattle.bgp_html.specs.declared.tag.Tag.TheVariants.{Stretches, SectionEnd, Details}
use Rattle.bgp_html.specs.declared.tag.Tag.TheVariants.{DetailsOpen, SummaryEnd, DetailsEnd}
use Rattle.bgp_html.specs.declared.tag.What.{What}
use Rattle.bgp_html.specs.declared.tag.What.TheVariants.{Sent, Received, Changed, Run}

-- the class of a row: its arrow points to the right (`to`) or to the left (`fro`)
abbrev pub what_class : What → List ℕ
what_class (Sent Left) = codes "m s to"
what_class (Sent Right) = codes "m s fro"
what_class (Received Left) = codes "m r fro"
what_class (Received Right) = codes "m r to"
what_class Changed = codes "c"
what_class Run = codes "run"

abbrev pub mark_class : Mark → List ℕ
mark_class Plain = []
mark_class No = codes " no"
mark_class Behind = codes " late"
mark_class Possible = codes " could"

abbrev pub row_text : What → Mark → List ℕ
row_text what mark =
    codes "<tr class=\"" ++ (what_class what ++ (mark_class mark ++ codes "\"><td>"))

unfoldable pub tag_text : Tag → List ℕ
tag_text (Ladder Left) = codes "<table class=\"ladder a\"><caption>"
tag_text (Ladder Right) = codes "<table class=\"ladder b\"><caption>"
tag_text CaptionEnd = codes "</caption><thead><tr><th>"
tag_text Head = codes "<th>"
tag_text HeadEnd = codes "<tbody>\n"
tag_text (Row what mark) = row_text what mark
tag_text Cell = codes "<td>"
tag_text Message = codes "<td><td><div>"
tag_text MessageEnd = codes "</div><td>\n"
tag_text (Change Left) = codes "<td><span>"
tag_text (Change Right) = codes "<td><td><td><span>"
tag_text (ChangeEnd Left) = codes "</span><td><td>\n"
tag_text (ChangeEnd Right) = codes "</span>\n"
tag_text LadderEnd = codes "</table>\n"
tag_text Page = page_start
tag_text AfterTitle = after_title
tag_text AfterName = after_name
tag_text Ladders = ladders_start
tag_text Stretches = stretches_start
tag_text SectionEnd = codes "</section>\n"
tag_text Details = codes "<details><summary>"
tag_text DetailsOpen = codes "<details open><summary>"
tag_text SummaryEnd = codes "</summary>\n"
tag_text DetailsEnd = codes "</details>\n"

-- those that end a line, and what a report says at its head
abbrev pub tag_words : Tag → List ℕ
tag_words (Ladder column) = []
tag_words CaptionEnd = []
tag_words Head = []
tag_words HeadEnd = codes "\n"
tag_words (Row what mark) = []
tag_words Cell = []
tag_words Message = []
tag_words MessageEnd = codes "\n"
tag_words (Change column) = []
tag_words (ChangeEnd column) = codes "\n"
tag_words LadderEnd = codes "\n"
tag_words Page = codes "\n\n\n\n\n"
tag_words AfterTitle = codes ": bgp check\n\n"
tag_words AfterName =
    codes "\n" ++ (about_text ++ (codes "\n" ++ (words_text ++ codes "\n")))
tag_words Ladders = codes "\nRecords\n" ++ (ladders_text ++ codes "\n")
tag_words Stretches = codes "\nRecords\n" ++ (stretches_text ++ codes "\n")
tag_words SectionEnd = codes "\n"
tag_words Details = []
tag_words DetailsOpen = []
tag_words SummaryEnd = codes "\n"
tag_words DetailsEnd = codes "\n"
