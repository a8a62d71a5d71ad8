-- What an OPEN that was sent says that no configuration has, and its text.
use Rattle.std.specs.Prelude.{◌==◌, ◌++◌, ℕ, Bool, true, false, List, [], ◌∷◌, Option, None, Some}
use Rattle.std.specs.Prelude.{codes, if◌then◌else◌}
use Rattle.std.specs.Fmt.{decimal}
use Rattle.bgp_wire.specs.AsNumber.{two_octet_as}
use Rattle.bgp_why_parts.specs.declared.own_faults.OwnFaults.{OwnFaults}
use Rattle.bgp_why_parts.specs.Pieces.{separated}

-- an AS number of 0; or both, if My Autonomous System isn't what stands for the other
unfoldable pub as_text : ℕ → ℕ → List ℕ
as_text my_as number =
    if my_as == two_octet_as number then codes "AS " ++ decimal my_as
    else codes "My AS " ++ (decimal my_as ++ (codes " and four-octet AS " ++ decimal number))

abbrev pub as_piece : Option (ℕ × ℕ) → Option (List ℕ)
as_piece None = None
as_piece (Some told) = Some (as_text told.0 told.1)

abbrev pub id_piece : Bool → Option (List ℕ)
id_piece false = None
id_piece true = Some (codes "BGP Identifier 0.0.0.0")

abbrev pub hold_piece : Option ℕ → Option (List ℕ)
hold_piece None = None
hold_piece (Some hold) = Some (codes "Hold Time " ++ decimal hold)

-- one after another: this stands before the first, and `and` between them
abbrev pub own_faults_text : List ℕ → OwnFaults → List ℕ
own_faults_text before faults =
    separated (codes " and ") before
    (as_piece faults.as_numbers ∷ id_piece faults.id ∷ hold_piece faults.hold ∷ [])
