-- Where records can end under both widest configurations, they can end alike.
use Rattle.std.specs.Prelude.{◌↔◌, ℕ, List, Option, None, Some}
use Rattle.bgp_prefix.specs.Shown.{ShownRecord}
use Rattle.bgp_prefix.specs.declared.session.Session.{Session}
use Rattle.bgp_open.specs.declared.config.Config.{Config}
use Rattle.bgp_machine.specs.Lists.{Each}
use Rattle.bgp_machine.specs.Run.{End, IsComplete}
use Rattle.bgp_check.specs.Another.{WantsAnother}
use Rattle.bgp_check.specs.Configurations.{IsOf}
use Rattle.bgp_parts.specs.Opens.{HasPeersOpen, SendsNoOpen}
use Rattle.bgp_check.specs.Stretch.{IsStretch}
use Rattle.bgp_check.specs.Widest.{IsWidest}
use Rattle.bgp_check.specs.Without.{FaultsIt}

-- A stretch that can end under both has the same ends under both: so one yes is all of them, and
-- the second configuration needn't be asked.
abbrev pub SameEnds : Type 0
SameEnds =
    (session : Session) (own : List ℕ) (peers : Option (List ℕ)) (a b : Config)
    (records : List ShownRecord) (one other end : End) → IsOf session (Some own) a
    → IsOf session (Some own) b → IsWidest a → IsWidest b → WantsAnother b peers
    → IsStretch records → HasPeersOpen records peers
    → IsComplete a records one → IsComplete b records other
    → IsComplete a records end ↔ IsComplete b records end

-- and so where no OPEN is sent
abbrev pub SameEndsWithout : Type 0
SameEndsWithout =
    (session : Session) (peers : Option (List ℕ)) (a b : Config)
    (records : List ShownRecord) (one other end : End) → IsOf session None a
    → IsOf session None b → IsWidest a → IsWidest b → FaultsIt b peers
    → IsStretch records → Each SendsNoOpen records → HasPeersOpen records peers
    → IsComplete a records one → IsComplete b records other
    → IsComplete a records end ↔ IsComplete b records end
