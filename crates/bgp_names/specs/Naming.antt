-- Names of numbers, by tables, and what is printed of a number that a table doesn't have.
use Rattle.std.specs.Prelude.{◌≡◌, ◌<◌, ◌^◌, ◌++◌, ◌==◌, ◌&&◌, not, ℕ, Bool, true, List, [], ◌∷◌}
use Rattle.std.specs.Prelude.{Option, None, Some, if◌then◌else◌, nat_le}
use Rattle.std.specs.Fmt.{decimal}

-- the name that a table has for this number, if it has one
abbrev pub name_in : List (ℕ × List ℕ) → ℕ → Option (List ℕ)
name_in [] number = None
name_in (row ∷ rows) number = if number == row.0 then Some row.1 else name_in rows number

-- the name that a table has for these two numbers, if it has one
abbrev pub name_of_two_in : List (ℕ × ℕ × List ℕ) → ℕ → ℕ → Option (List ℕ)
name_of_two_in [] first second = None
name_of_two_in (row ∷ rows) first second =
    if (first == row.0) && (second == row.1) then Some row.2
    else name_of_two_in rows first second

-- a name, or this text if there is none
abbrev pub name_or : List ℕ → Option (List ℕ) → List ℕ
name_or text None = text
name_or text (Some name) = name

-- what is printed of a number: its name by a table, or a word and the number
abbrev pub named : List ℕ → List (ℕ × List ℕ) → ℕ → List ℕ
named word rows number = name_or (word ++ decimal number) (name_in rows number)

-- two different numbers have different names
abbrev pub NamesDiffer : (ℕ → List ℕ) → Type 0
NamesDiffer name = (m n : ℕ) → m < 2 ^ 64 → n < 2 ^ 64 → name m ≡ name n → m ≡ n

-- and so have different pairs of numbers
abbrev pub NamesOfTwoDiffer : (ℕ → ℕ → List ℕ) → Type 0
NamesOfTwoDiffer name =
    (k l m n : ℕ) → k < 2 ^ 64 → l < 2 ^ 64 → m < 2 ^ 64 → n < 2 ^ 64 → name k l ≡ name m n
    → (k ≡ m) × (l ≡ n)

-- an octet that stands in a line, and between quotation marks, as it is: one of ASCII from the blank
-- on, but for the quotation mark and the backslash
abbrev pub is_plain_octet : ℕ → Bool
is_plain_octet octet =
    (nat_le 32 octet && nat_le octet 126) && (not (octet == 34) && not (octet == 92))

abbrev pub is_plain : List ℕ → Bool
is_plain [] = true
is_plain (octet ∷ text) = is_plain_octet octet && is_plain text

-- each number's name is plain
abbrev pub NamesArePlain : (ℕ → List ℕ) → Type 0
NamesArePlain name = (n : ℕ) → n < 2 ^ 64 → is_plain (name n) ≡ true

abbrev pub NamesOfTwoArePlain : (ℕ → ℕ → List ℕ) → Type 0
NamesOfTwoArePlain name =
    (m n : ℕ) → m < 2 ^ 64 → n < 2 ^ 64 → is_plain (name m n) ≡ true
