-- How a text from the wire is shown.
use Rattle.std.specs.Prelude.{ℕ, List}
use Rattle.json.specs.Print as print

-- a text between quotation marks, as a string of JSON (RFC 8259, 7) with the shortest escapes
abbrev pub quoted_text : List ℕ → List ℕ
quoted_text text = print.quoted text
