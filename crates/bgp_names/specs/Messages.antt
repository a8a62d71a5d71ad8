-- The names of message types (RFC 4271, 4.1; RFC 2918, 3).
use Rattle.std.specs.Prelude.{◌++◌, ℕ, List, [], ◌∷◌, Option, None, Some, codes}
use Rattle.std.specs.Fmt.{decimal}
use Rattle.bgp_names.specs.Naming.{name_in}

abbrev pub type_names : List (ℕ × List ℕ)
type_names =
    (1, codes "OPEN") ∷ (2, codes "UPDATE") ∷ (3, codes "NOTIFICATION") ∷ (4, codes "KEEPALIVE")
    ∷ (5, codes "ROUTE-REFRESH") ∷ []

-- a name after a blank, if there is one
abbrev pub after_blank : Option (List ℕ) → List ℕ
after_blank None = []
after_blank (Some name) = codes " " ++ name

-- a message type: its number, and its name if it has one
abbrev pub type_text : ℕ → List ℕ
type_text number = decimal number ++ after_blank (name_in type_names number)
