-- The OPEN among messages.
use Rattle.std.specs.Prelude.{◌≡◌, ◌⊎◌, ℕ, List, [], ◌∷◌, Option, None, Some}
use Rattle.bgp_open.specs.OpenFault.{IsWellFormed}
use Rattle.bgp_recording.specs.declared.message.Message.{Message}

-- the first of these messages that is a whole and well-formed OPEN
abbrev pub FirstOpen : List Message → Option (List ℕ) → Type 0
FirstOpen [] found = found ≡ None
FirstOpen (m ∷ later) found =
    (IsWellFormed m.octets.now × (found ≡ Some m.octets.now))
    ⊎ ((¬ IsWellFormed m.octets.now) × FirstOpen later found)
