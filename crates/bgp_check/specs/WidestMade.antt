-- Configurations with the widest settings of an end are its widest configurations.
use Rattle.std.specs.Prelude.{◌≡◌, ℕ, List, [], ◌∷◌, Option, None, Some, option_map}
use Rattle.bgp_prefix.specs.declared.session.Session.{Session}
use Rattle.bgp_open.specs.declared.config.Config.{Config}
use Rattle.bgp_open.specs.Open.{OpenFields, open_of}
use Rattle.bgp_open.specs.OpenFault.{IsWellFormed}
use Rattle.bgp_check.specs.declared.own_fault.OwnFault.{OwnFault}
use Rattle.bgp_check.specs.declared.widest.Widest.{Widest}
use Rattle.bgp_check.specs.Configurations.{own_faults}
use Rattle.bgp_check.specs.WidestOf.{AreTold, parts_of, widest_of}
use Rattle.bgp_check.specs.Without.{AreWidest}

-- the one, if there is one, and the other
abbrev pub both_of : Option Config → Config → List Config
both_of None another = another ∷ []
both_of (Some wanting) another = wanting ∷ another ∷ []

abbrev pub configurations_of : Widest → List Config
configurations_of widest = both_of widest.wanting widest.another

-- the OPEN that was sent, if one was, has no own fault
abbrev pub IsFaultless : Option (List ℕ) → Type 0
IsFaultless None = Unit {0}
IsFaultless (Some own) =
    IsWellFormed own × ((fault : OwnFault) → ¬ own_faults (open_of own) fault)

-- ---- the law

abbrev pub WidestAreMade : Type 0
WidestAreMade =
    (session : Session) (own peers : Option (List ℕ)) (told : Option OpenFields)
    (widest : Widest) → IsFaultless own → AreTold peers told
    → parts_of widest ≡ widest_of session (option_map open_of own) told
    → AreWidest session own peers (configurations_of widest)
