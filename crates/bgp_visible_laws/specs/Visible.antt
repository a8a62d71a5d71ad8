-- Text without a control character.
use Rattle.std.specs.Prelude.{◌≡◌, ◌||◌, ◌++◌, nat_lt, ℕ, Bool, false, List, All, IsUtf8, codes}
use Rattle.std.specs.List.{concat, list_any}
use Rattle.std.specs.Str.{chars}
use Rattle.bgp_values.specs.Readable.{is_hidden}

-- U+0000 to U+001F, DEL, and U+0080 to U+009F: those of Unicode (Cc), which a terminal may obey
abbrev pub is_control : ℕ → Bool
is_control c = nat_lt c 32 || is_hidden c

-- the text is UTF-8 (RFC 3629), and none of its characters is one of these
pub record IsVisible (text : List ℕ) : Type 0 where
  pub utf8 : IsUtf8 text
  pub shown : list_any is_control (chars text) ≡ false

-- a line: such a text, and a line feed at its end
abbrev pub IsVisibleLine : List ℕ → Type 0
IsVisibleLine line = (text : List ℕ) × (line ≡ text ++ codes "\n") × IsVisible text

-- such lines, one behind another
abbrev pub AreVisibleLines : List ℕ → Type 0
AreVisibleLines text =
    (lines : List (List ℕ)) × (text ≡ concat lines) × All IsVisibleLine lines
