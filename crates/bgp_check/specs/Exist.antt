-- There are widest configurations, two at the most.
use Rattle.std.specs.Prelude.{◌<◌, ◌≤◌, ◌^◌, ℕ, List, Option, None, Some, length}
use Rattle.bgp_prefix.specs.declared.session.Session.{Session}
use Rattle.bgp_open.specs.declared.config.Config.{Config}
use Rattle.bgp_open.specs.Open.{open_of}
use Rattle.bgp_check.specs.Configurations.{IsOf}
use Rattle.bgp_check.specs.Widest.{AreWidestWith}
use Rattle.bgp_check.specs.Without.{AreWidestWithout}

-- of each OPEN that a configuration can have as its own
abbrev pub WidestExist : Type 0
WidestExist =
    (session : Session) (own : List ℕ) (peers : Option (List ℕ)) (config : Config)
    → IsOf session (Some own) config
    → (widest : List Config) × AreWidestWith session own peers widest × (length widest ≤ 2)

-- the identifier that the peer's OPEN has is one of four octets, as each that is read
abbrev pub HasIdentifier : Option (List ℕ) → Type 0
HasIdentifier None = Unit {0}
HasIdentifier (Some octets) = (open_of octets).id < 2 ^ 32

-- and of each end that sends none
abbrev pub WidestExistWithout : Type 0
WidestExistWithout =
    (session : Session) (peers : Option (List ℕ)) → HasIdentifier peers
    → (widest : List Config) × AreWidestWithout session peers widest × (length widest ≤ 2)
