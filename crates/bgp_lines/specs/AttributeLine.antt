-- A path attribute in words (RFC 4271, 4.3 and 5).
use Rattle.std.specs.Prelude.{◌++◌, ◌==◌, ℕ, Bool, List, [], ◌∷◌, Option, None, Some}
use Rattle.std.specs.Prelude.{bit_and, codes, if◌then◌else◌}
use Rattle.std.specs.Fmt.{decimal}
use Rattle.bgp_prefix.specs.declared.address.Address.TheVariants.{V4}
use Rattle.bgp_prefix.specs.Text.{address_text}
use Rattle.bgp_attr.specs.Segments.{WireSegment}
use Rattle.bgp_names.specs.Attributes.{origin_names}
use Rattle.bgp_names.specs.Naming.{name_in, name_or}
use Rattle.bgp_text.specs.Text.{hex_text}
use Rattle.bgp_values.specs.Items.{items_of}
use Rattle.bgp_lines.specs.ItemText.{item_text}
use Rattle.bgp_lines.specs.Joined.{joined}
use Rattle.bgp_values.specs.AttributeValue.{AttributeValue, origin, path, address, number, atomic}
use Rattle.bgp_values.specs.AttributeValue.{aggregator, items, metric}
use Rattle.bgp_values.specs.declared.items.Item.{Item}
use Rattle.bgp_values.specs.declared.items.Item.TheVariants.{AsNumber2, AsNumber4}

-- ---- flags

-- the Optional (128) and Transitive (64) bits of each type: RFC 4271, 5; 1997; 4456, 8; 4760, 3 and
-- 4; 4360, 2; 6793, 3; 7311, 3; 8092, 3; 9234, 5
abbrev pub flag_rows : List (ℕ × ℕ)
flag_rows =
    (1, 64) ∷ (2, 64) ∷ (3, 64) ∷ (4, 128) ∷ (5, 64) ∷ (6, 64) ∷ (7, 192) ∷ (8, 192) ∷ (9, 128)
    ∷ (10, 128) ∷ (14, 128) ∷ (15, 128) ∷ (16, 192) ∷ (17, 192) ∷ (18, 192) ∷ (26, 128) ∷ (32, 192)
    ∷ (35, 192) ∷ []

-- what a table has for a number, if it has it
abbrev pub row_of : List (ℕ × ℕ) → ℕ → Option ℕ
row_of [] n = None
row_of (row ∷ rows) n = if n == row.0 then Some row.1 else row_of rows n

-- the bits that a type has, if it is known
abbrev pub bits_of_type : ℕ → Option ℕ
bits_of_type kind = row_of flag_rows kind

-- flags are those of the type, whatever Extended Length (16) is
abbrev pub are_right_flags : ℕ → ℕ → Bool
are_right_flags bits flags = bit_and flags 239 == bits

-- flags that aren't those of the type
abbrev pub flags_text : ℕ → ℕ → List ℕ
flags_text bits flags =
    if are_right_flags bits flags then [] else codes " flags " ++ decimal flags

-- ---- paths

-- what stands before the numbers of a segment, between them and behind them, by its type: a set
-- (1), a sequence (2), and both of a confederation (4 and 3)
abbrev pub opening : ℕ → List ℕ
opening kind =
    if kind == 1 then codes "{" else if kind == 3 then codes "(" else if kind == 4 then codes "["
    else []

abbrev pub between : ℕ → List ℕ
between kind = if (kind == 1) then codes "," else if kind == 4 then codes "," else codes " "

abbrev pub closing : ℕ → List ℕ
closing kind =
    if kind == 1 then codes "}" else if kind == 3 then codes ")" else if kind == 4 then codes "]"
    else []

-- an AS number of two octets or four
abbrev pub as_item : Bool → Item
as_item as4 = if as4 then AsNumber4 else AsNumber2

unfoldable pub segment_text : Bool → WireSegment → List ℕ
segment_text as4 s =
    opening s.kind ++ (joined (between s.kind) (item_text (as_item as4)) (items_of (as_item as4) s.numbers)
    ++ closing s.kind)

-- segments with blanks between them; a dash for none
unfoldable pub path_text : Bool → List WireSegment → List ℕ
path_text as4 [] = codes "-"
path_text as4 (s ∷ segments) = joined (codes " ") (segment_text as4) (s ∷ segments)

-- ---- values

-- the name of a value of ORIGIN
abbrev pub origin_text : ℕ → List ℕ
origin_text n = name_or [] (name_in origin_names n)

-- a value behind the word of its attribute
unfoldable pub attribute_value_text : AttributeValue → List ℕ
attribute_value_text (origin n) = codes " " ++ origin_text n
attribute_value_text (path as4 segments) = codes " " ++ path_text as4 segments
attribute_value_text (address n) = codes " " ++ address_text (V4 n)
attribute_value_text (number n) = codes " " ++ decimal n
attribute_value_text atomic = []
attribute_value_text (aggregator as_number router) =
    codes " " ++ (decimal as_number ++ (codes " " ++ address_text (V4 router)))
attribute_value_text (items kind values) = codes " " ++ joined (codes " ") (item_text kind) values
attribute_value_text (metric n) = codes " " ++ decimal n

-- octets without a value, in hexadecimal
abbrev pub octets_text : List ℕ → List ℕ
octets_text octets = codes " octets " ++ hex_text octets

unfoldable pub value_or_octets : Option AttributeValue → List ℕ → List ℕ
value_or_octets None octets = octets_text octets
value_or_octets (Some value) octets = attribute_value_text value

-- an attribute whose type isn't known: its flags and its octets, behind its number
abbrev pub unknown_text : ℕ → List ℕ → List ℕ
unknown_text flags octets = codes " flags " ++ (decimal flags ++ (codes " " ++ hex_text octets))
