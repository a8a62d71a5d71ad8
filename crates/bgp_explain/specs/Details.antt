-- What a reason says besides, as far as it takes memory.
use Rattle.std.specs.Prelude.{◌≡◌, ℕ, List, Option, None, Some, IsSome}
use Rattle.bgp_prefix.specs.Shown.{ShownRecord}
use Rattle.bgp_open.specs.declared.config.Config.{Config}
use Rattle.bgp_open.specs.declared.link.Link.{Link}
use Rattle.bgp_machine.specs.declared.fsm.Fsm.TheVariants.{Established}
use Rattle.bgp_machine.specs.Heard.{Announces}
use Rattle.bgp_reason.specs.declared.kinds.Possible.{Possible}
use Rattle.bgp_reason.specs.declared.told.Told.{Told}
use Rattle.bgp_why.specs.declared.applying.AskedUpdate.{AskedUpdate}
use Rattle.bgp_explain.specs.declared.details.Details.{Details}
use Rattle.bgp_explain.specs.declared.explained.Impossible.{Impossible}
use Rattle.bgp_explain.specs.declared.explained.Reason.{Reason}
use Rattle.bgp_explain.specs.Kept.{shown_by}
use Rattle.bgp_explain.specs.Lacked.{Lacked, Nothing, RecordLacks, lacked_of}
use Rattle.bgp_explain.specs.Updates.{Asking, Asks, asking_of}

-- what the next record lacks, where there is one, with its number
abbrev pub AreLacksOf : Config → Option Link → Possible → Option (ℕ × ShownRecord) → Lacked
    → Type 0
AreLacksOf config link possible None lacked = lacked ≡ Nothing
AreLacksOf config link possible (Some next) lacked =
    RecordLacks config link possible next.1 lacked

-- the message that was received last is an UPDATE in Established, on this link
pub record IsUpdateOn (config : Config) (told : Told) (link : Option Link) (octets : List ℕ)
    (on : Link) : Type 0 where
  pub state : told.state ≡ Established
  pub received : IsSome told.last_received
  pub announces : Announces config 2 octets
  pub is_link : link ≡ Some on

-- what it asks for then, and nothing where it isn't
abbrev pub IsAskedBy : Config → Told → Option Link → List ℕ → Option Asking → Type 0
IsAskedBy config told link octets None = (on : Link) → ¬ IsUpdateOn config told link octets on
IsAskedBy config told link octets (Some asking) =
    (on : Link) × IsUpdateOn config told link octets on × Asks on octets asking

-- ---- of a reason

abbrev pub next_in : {X : Type 0} → Option (Impossible X) → Option (ℕ × ShownRecord)
next_in None = None
next_in (Some impossible) = Some (impossible.number, shown_by impossible.«record»)

abbrev pub asking_in : {X : Type 0} → Option (AskedUpdate X) → Option Asking
asking_in None = None
asking_in (Some asked) = Some (asking_of asked)

pub record AreDetails {X Y : Type 0} (config : Config) (reason : Reason X) (details : Details Y)
    : Type 0 where
  pub lacks : AreLacksOf config reason.link reason.possible (next_in reason.impossible)
      (lacked_of details.lacks)
  pub update : IsAskedBy config reason.told reason.link reason.last_message.items
      (asking_in details.update)

-- of one that there may be; none where memory was refused for them
abbrev pub AreDetailsOf : {X Y : Type 0} → Config → Option (Reason X) → Option (Details Y) → Type 0
AreDetailsOf config None None = Unit {0}
AreDetailsOf config None (Some details) = ⊥
AreDetailsOf config (Some reason) None = Unit {0}
AreDetailsOf config (Some reason) (Some details) = AreDetails config reason details
