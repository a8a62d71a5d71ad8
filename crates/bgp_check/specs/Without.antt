-- A stretch in which the local system sends no OPEN: then no setting but the ends of the session is
-- known, and again two configurations are enough.
use Rattle.std.specs.Prelude.{◌↔◌, ℕ, List, Option, None, Some}
use Rattle.bgp_prefix.specs.Shown.{ShownRecord}
use Rattle.bgp_prefix.specs.declared.session.Session.{Session}
use Rattle.bgp_open.specs.declared.config.Config.{Config}
use Rattle.bgp_open.specs.Open.{open_of}
use Rattle.bgp_open.specs.OpenFault.{IsReadable}
use Rattle.bgp_open.specs.OpenSubcodes.{IsBadIdentifier, IsBadPeerAs, IsValid}
use Rattle.bgp_machine.specs.Lists.{Has, Each}
use Rattle.bgp_machine.specs.Run.{Begins, End, IsComplete}
use Rattle.bgp_check.specs.Configurations.{IsOf}
use Rattle.bgp_parts.specs.Opens.{HasPeersOpen, SendsNoOpen}
use Rattle.bgp_check.specs.Stretch.{IsStretch}
use Rattle.bgp_check.specs.Widest.{AreWidestWith, IsWidest}

-- the peer's OPEN is valid
abbrev pub TakesIt : Config → Option (List ℕ) → Type 0
TakesIt config None = ⊥
TakesIt config (Some octets) = IsValid config octets

-- the peer's OPEN, where its fields can be told, has each fault that depends on a configuration:
-- Bad Peer AS and Bad BGP Identifier
abbrev pub FaultsIt : Config → Option (List ℕ) → Type 0
FaultsIt config None = Unit {0}
FaultsIt config (Some octets) =
    IsReadable octets
    → IsBadPeerAs config (open_of octets) × IsBadIdentifier config (open_of octets)

-- Widest configurations of the end: one under which the peer's OPEN is valid, where it is under
-- some; and one under which it has each fault that it has under some.
pub record AreWidestWithout (session : Session) (peers : Option (List ℕ)) (widest : List Config)
    : Type 0 where
  pub each : Each (λ config. IsOf session None config × IsWidest config) widest
  pub takes : (config : Config) → IsOf session None config → TakesIt config peers
      → Has (λ a. TakesIt a peers) widest
  pub faults : Has (λ b. FaultsIt b peers) widest

-- widest configurations of the end whose OPEN this is, or of one that sends none
abbrev pub AreWidest : Session → Option (List ℕ) → Option (List ℕ) → List Config → Type 0
AreWidest session (Some own) peers widest = AreWidestWith session own peers widest
AreWidest session None peers widest = AreWidestWithout session peers widest

-- ---- the laws

-- A stretch without a sent OPEN begins a run under some configuration of the end exactly where it
-- does under one of the widest.
abbrev pub WithoutBegins : Type 0
WithoutBegins =
    (session : Session) (peers : Option (List ℕ)) (widest : List Config)
    (records : List ShownRecord) → AreWidestWithout session peers widest → IsStretch records
    → Each SendsNoOpen records → HasPeersOpen records peers
    → ((config : Config) × IsOf session None config × Begins config records)
    ↔ Has (λ config. Begins config records) widest

-- and each end that it can have under some, it can have under one of these
abbrev pub WithoutIsComplete : Type 0
WithoutIsComplete =
    (session : Session) (peers : Option (List ℕ)) (widest : List Config)
    (records : List ShownRecord) (end : End) → AreWidestWithout session peers widest
    → IsStretch records → Each SendsNoOpen records → HasPeersOpen records peers
    → ((config : Config) × IsOf session None config × IsComplete config records end)
    ↔ Has (λ config. IsComplete config records end) widest
