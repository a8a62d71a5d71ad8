-- Text in HTML.
use Rattle.std.specs.Prelude.{◌≡◌, ◌==◌, ◌||◌, ℕ, Bool, false, List, [], ◌∷◌, codes, if◌then◌else◌}
use Rattle.std.specs.List.{flat_map, list_any}

-- An octet of a text: those that could be read as markup stand as character references (the HTML
-- standard, 13.1.4), which begin with & and end with a semicolon.
unfoldable pub escape_octet : ℕ → List ℕ
escape_octet octet =
    if octet == 38 then codes "&amp;" else
    if octet == 60 then codes "&lt;" else
    if octet == 62 then codes "&gt;" else
    if octet == 34 then codes "&quot;" else
    if octet == 39 then codes "&#39;" else
    octet ∷ []

abbrev pub escaped : List ℕ → List ℕ
escaped = flat_map escape_octet

-- a bracket of a tag, or a quotation mark, which ends the value of an attribute
abbrev pub is_markup : ℕ → Bool
is_markup octet = (octet == 60) || (octet == 62) || (octet == 34) || (octet == 39)

-- No octet of a text can be read as markup.
abbrev pub EscapedTextIsNoMarkup : Type 0
EscapedTextIsNoMarkup = (text : List ℕ) → list_any is_markup (escaped text) ≡ false

-- Two texts that stand there in the same octets are one text.
abbrev pub EscapedTextIsThatTextAlone : Type 0
EscapedTextIsThatTextAlone = (one other : List ℕ) → escaped one ≡ escaped other → one ≡ other
