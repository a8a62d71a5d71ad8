-- HTML by its pieces: markup that the program wrote, words, and lines that are printed as text, too.
use Rattle.std.specs.Prelude.{◌++◌, ℕ, List, [], ◌∷◌, codes}
use Rattle.std.specs.List.{flat_map}
use Rattle.bgp_html.specs.Escaped.{escaped}
use Rattle.bgp_html.specs.Printed.{printed_html}
use Rattle.bgp_html.specs.Tags.{tag_text, tag_words}
use Rattle.bgp_html.specs.declared.printed.Kind.{Kind}
use Rattle.bgp_html.specs.declared.tag.Tag.{Tag}

pub data Piece : Type 0 where
  Markup : Tag → Piece
  Words : List ℕ → Piece
  Printed : Kind → List ℕ → Piece

abbrev pub piece_html : Piece → List ℕ
piece_html (Markup tag) = tag_text tag
piece_html (Words words) = escaped words
piece_html (Printed kind text) = printed_html kind text

-- what is written of them
abbrev pub html_of : List Piece → List ℕ
html_of = flat_map piece_html

-- what a reader sees of them: behind lines one more line ends
abbrev pub seen_lines : List ℕ → List ℕ
seen_lines [] = []
seen_lines (octet ∷ text) = octet ∷ (text ++ codes "\n")

abbrev pub piece_words : Piece → List ℕ
piece_words (Markup tag) = tag_words tag
piece_words (Words words) = words
piece_words (Printed kind text) = seen_lines text

abbrev pub words_of : List Piece → List ℕ
words_of = flat_map piece_words

-- the lines among them
abbrev pub piece_lines : Piece → List ℕ
piece_lines (Markup tag) = []
piece_lines (Words words) = []
piece_lines (Printed kind text) = text

abbrev pub printed_of : List Piece → List ℕ
printed_of = flat_map piece_lines
