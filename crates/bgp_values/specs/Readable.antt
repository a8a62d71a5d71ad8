-- Texts from the wire: which of them may be shown.
use Rattle.std.specs.Prelude.{◌==◌, ◌&&◌, ◌||◌, not, nat_le, ℕ, Bool, List, Option, None, Some}
use Rattle.std.specs.Prelude.{if◌then◌else◌}
use Rattle.std.specs.List.{list_any}
use Rattle.std.specs.Str.{chars, is_utf8}

-- DEL, and the control characters U+0080 to U+009F (ISO 6429), which a terminal may obey. Those
-- below U+0020 are escaped between quotation marks.
abbrev pub is_hidden : ℕ → Bool
is_hidden c = (c == 127) || (nat_le 128 c && nat_le c 159)

-- UTF-8 (RFC 3629) without these characters
abbrev pub is_readable : List ℕ → Bool
is_readable octets = is_utf8 octets && not (list_any is_hidden (chars octets))

-- the text that octets are, if it is readable
abbrev pub text_in : List ℕ → Option (List ℕ)
text_in octets = if is_readable octets then Some octets else None
