-- What a reader of HTML sees: what stands between tags, with the characters that are referred to
-- (the HTML standard, 13.2.5, of what is written here).
use Rattle.std.specs.Prelude.{◌≡◌, ◌==◌, ◌++◌, ℕ, Bool, true, false, List, [], ◌∷◌, bytes_eq}
use Rattle.std.specs.Prelude.{codes, if◌then◌else◌, take}
use Rattle.std.specs.List.{flat_map}
use Rattle.bgp_html.specs.Pieces.{Markup, Piece, Printed, Words, html_of, printed_of, words_of}
use Rattle.bgp_html.specs.Printed.{kind_end, kind_start}
use Rattle.bgp_html.specs.Tags.{tag_text}

-- between tags, where it is taken or isn't; in a tag, behind these octets of it; or in a reference,
-- behind these octets of its name
pub data State : Type 0 where
  Text : Bool → State
  Inside : List ℕ → State
  Reference : Bool → List ℕ → State

-- the character that a name refers to
abbrev pub referred : List ℕ → List ℕ
referred name =
    if bytes_eq name (codes "amp") then codes "&" else
    if bytes_eq name (codes "lt") then codes "<" else
    if bytes_eq name (codes "gt") then codes ">" else
    if bytes_eq name (codes "quot") then codes "\"" else
    if bytes_eq name (codes "#39") then codes "'" else
    []

-- what is read of octets, if a tag decides whether what stands behind it is taken
module _ (takes : List ℕ → Bool) where
  abbrev pub read : State → List ℕ → List ℕ
  read state [] = []
  -- < begins a tag, & a reference
  read (Text taken) (octet ∷ octets) =
      if octet == 60 then read (Inside []) octets else
      if octet == 38 then read (Reference taken []) octets else
      (if taken then octet ∷ [] else []) ++ read (Text taken) octets
  -- > ends it
  read (Inside tag) (octet ∷ octets) =
      if octet == 62 then (if takes tag then read (Text true) octets else read (Text false) octets)
      else read (Inside (tag ++ octet ∷ [])) octets
  -- a semicolon ends it
  read (Reference taken name) (octet ∷ octets) =
      if octet == 59 then (if taken then referred name else []) ++ read (Text taken) octets
      else read (Reference taken (name ++ octet ∷ [])) octets

-- all but a style sheet is seen
abbrev pub is_seen : List ℕ → Bool
is_seen tag = if bytes_eq tag (codes "style") then false else true

abbrev pub seen : List ℕ → List ℕ
seen html = read is_seen (Text true) html

-- what stands in the elements that are called samp is printed
abbrev pub is_printed : List ℕ → Bool
is_printed tag = bytes_eq (take 4 tag) (codes "samp")

abbrev pub printed : List ℕ → List ℕ
printed html = read is_printed (Text false) html

-- ---- tags

-- between tags, or in one, behind these octets of it
pub data Place : Type 0 where
  Between : Place
  Within : List ℕ → Place

-- one that doesn't end is one, too
abbrev pub tags_from : Place → List ℕ → List (List ℕ)
tags_from Between [] = []
tags_from (Within tag) [] = tag ∷ []
tags_from Between (octet ∷ octets) =
    if octet == 60 then tags_from (Within []) octets else tags_from Between octets
tags_from (Within tag) (octet ∷ octets) =
    if octet == 62 then tag ∷ tags_from Between octets
    else tags_from (Within (tag ++ octet ∷ [])) octets

abbrev pub tags_of : List ℕ → List (List ℕ)
tags_of html = tags_from Between html

-- those of markup, whatever the words are
abbrev pub own_tags : Piece → List (List ℕ)
own_tags (Markup tag) = tags_of (tag_text tag)
own_tags (Words words) = []
own_tags (Printed kind []) = []
own_tags (Printed kind (octet ∷ text)) = tags_of (kind_start kind) ++ tags_of (kind_end kind)

-- ---- what holds of pieces

-- The tags in what is written of pieces are those of their markup: no words make or change one.
abbrev pub WordsAreNoTags : Type 0
WordsAreNoTags = (pieces : List Piece) → tags_of (html_of pieces) ≡ flat_map own_tags pieces

-- of what is written of pieces, their words and nothing else are seen
abbrev pub WordsAreSeen : Type 0
WordsAreSeen = (pieces : List Piece) → seen (html_of pieces) ≡ words_of pieces

-- and what is printed is their lines, and nothing else
abbrev pub LinesArePrinted : Type 0
LinesArePrinted = (pieces : List Piece) → printed (html_of pieces) ≡ printed_of pieces
