-- The widest configurations of an OPEN: two at the most, under which whatever begins a run under
-- some configuration of that OPEN does.
use Rattle.std.specs.Prelude.{◌≡◌, ◌⊎◌, ◌↔◌, ℕ, List, Option, None, Some, IsTrue}
use Rattle.bgp_prefix.specs.Shown.{ShownRecord}
use Rattle.bgp_prefix.specs.declared.session.Session.{Session}
use Rattle.bgp_open.specs.declared.config.Config.{Config}
use Rattle.bgp_open.specs.Config.{is_internal}
use Rattle.bgp_open.specs.Open.{open_of}
use Rattle.bgp_open.specs.OpenFault.{IsReadable}
use Rattle.bgp_open.specs.OpenSubcodes.{peer_as_of}
use Rattle.bgp_machine.specs.Lists.{Has, Each}
use Rattle.bgp_machine.specs.Run.{Begins, End, IsComplete}
use Rattle.bgp_check.specs.Another.{CanBeTold, WantsAnother}
use Rattle.bgp_check.specs.Configurations.{IsOf}
use Rattle.bgp_parts.specs.Opens.{HasPeersOpen}
use Rattle.bgp_check.specs.Stretch.{IsStretch}

-- none is wider: the OPEN may be delayed, and the peer's is waited for a second
pub record IsWidest (config : Config) : Type 0 where
  pub delay : IsTrue config.parts.delay_open
  pub hold : config.parts.large_hold ≡ 1

-- the peer's OPEN has the AS number that is configured
abbrev pub WantsIt : Config → Option (List ℕ) → Type 0
WantsIt config None = ⊥
WantsIt config (Some octets) =
    IsReadable octets × (peer_as_of config (open_of octets) ≡ config.parts.peer_as)

-- the peer's OPEN has the local system's AS number
abbrev pub IsItsOwn : Config → Option (List ℕ) → Type 0
IsItsOwn config None = ⊥
IsItsOwn config (Some octets) =
    IsReadable octets × (peer_as_of config (open_of octets) ≡ config.parts.local_as)

-- Widest configurations of the OPEN: one that wants the peer's AS number, where one of that OPEN
-- can; and one that wants another, which is the local system's own unless the peer has that.
pub record AreWidestWith (session : Session) (own : List ℕ) (peers : Option (List ℕ))
    (widest : List Config) : Type 0 where
  pub each : Each (λ config. IsOf session (Some own) config × IsWidest config) widest
  pub first : (config : Config) → IsOf session (Some own) config → WantsIt config peers
      → Has (λ a. WantsIt a peers) widest
  pub another : Has (λ b. WantsAnother b peers
      × (CanBeTold peers → IsTrue (is_internal b.parts) ⊎ IsItsOwn b peers)) widest

-- ---- the laws

-- A stretch begins a run under some configuration of the OPEN exactly where it does under one of
-- the widest: also a stretch in which the OPEN isn't sent yet.
abbrev pub WidestBegins : Type 0
WidestBegins =
    (session : Session) (own : List ℕ) (peers : Option (List ℕ)) (widest : List Config)
    (records : List ShownRecord) → AreWidestWith session own peers widest → IsStretch records
    → HasPeersOpen records peers
    → ((config : Config) × IsOf session (Some own) config × Begins config records)
    ↔ Has (λ config. Begins config records) widest

-- and each end that it can have under some, it can have under one of these
abbrev pub WidestIsComplete : Type 0
WidestIsComplete =
    (session : Session) (own : List ℕ) (peers : Option (List ℕ)) (widest : List Config)
    (records : List ShownRecord) (end : End) → AreWidestWith session own peers widest
    → IsStretch records → HasPeersOpen records peers
    → ((config : Config) × IsOf session (Some own) config × IsComplete config records end)
    ↔ Has (λ config. IsComplete config records end) widest
