-- An OPEN with an own fault is no configuration's own, and no run shows it.
use Rattle.std.specs.Prelude.{◌↔◌, ℕ, List, Some}
use Rattle.bgp_prefix.specs.Shown.{ShownRecord}
use Rattle.bgp_prefix.specs.declared.session.Session.{Session}
use Rattle.bgp_open.specs.declared.config.Config.{Config}
use Rattle.bgp_open.specs.Families.{IsEmpty}
use Rattle.bgp_open.specs.Offer.{families_of}
use Rattle.bgp_open.specs.Open.{open_of}
use Rattle.bgp_open.specs.OpenFault.{IsWellFormed}
use Rattle.bgp_open.specs.OwnOpen.{IsOwnOpen}
use Rattle.bgp_machine.specs.Run.{Begins}
use Rattle.bgp_check.specs.declared.own_fault.OwnFault.{OwnFault}
use Rattle.bgp_check.specs.Configurations.{IsOf, own_faults}
use Rattle.bgp_parts.specs.Opens.{HasOwnOpen}
use Rattle.bgp_check.specs.Settings.{FitFields}

-- a well-formed OPEN that offers a family is some configuration's own exactly where it has none of
-- the faults
abbrev pub OwnFaultsAreAll : Type 0
OwnFaultsAreAll =
    (session : Session) (own : List ℕ) → FitFields (open_of own)
    → IsWellFormed own → ¬ IsEmpty (families_of (open_of own).capabilities)
    → ((config : Config) × IsOf session (Some own) config)
    ↔ ((fault : OwnFault) → ¬ own_faults (open_of own) fault)

-- the first OPEN that a run shows as sent is one that the local system may send: so records with
-- one that has such a fault begin none, under whichever configuration
abbrev pub SentOpenIsOwn : Type 0
SentOpenIsOwn =
    (config : Config) (records : List ShownRecord) (own : List ℕ) → Begins config records
    → HasOwnOpen records (Some own) → IsOwnOpen config own
