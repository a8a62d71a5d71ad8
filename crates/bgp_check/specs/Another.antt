-- Another peer: configurations that differ in the AS number alone that the peer has to have, where
-- the peer has neither.
use Rattle.std.specs.Prelude.{◌≡◌, ℕ, List, Option, None, Some, IsTrue}
use Rattle.bgp_prefix.specs.Shown.{ShownRecord}
use Rattle.bgp_open.specs.declared.config.Config.{Config}
use Rattle.bgp_open.specs.Config.{is_internal}
use Rattle.bgp_open.specs.Open.{open_of}
use Rattle.bgp_open.specs.OpenFault.{IsReadable}
use Rattle.bgp_open.specs.OpenSubcodes.{IsBadPeerAs}
use Rattle.bgp_machine.specs.Run.{Begins, End, IsComplete}
use Rattle.bgp_parts.specs.Opens.{HasPeersOpen}
use Rattle.bgp_check.specs.Stretch.{IsStretch}

-- there is an OPEN of the peer, and its fields can be told
abbrev pub CanBeTold : Option (List ℕ) → Type 0
CanBeTold None = ⊥
CanBeTold (Some octets) = IsReadable octets

-- The second differs in the peer's AS number alone, and is internal where the first is, as far as
-- that is asked: so the peer's OPEN has each fault under it that it has under the first, where both
-- want another AS number.
pub record IsAnother (peers : Option (List ℕ)) (one other : Config) : Type 0 where
  pub same : other.parts ≡ record one.parts { peer_as = other.parts.peer_as }
  pub internal : CanBeTold peers → IsTrue (is_internal one.parts)
      → IsTrue (is_internal other.parts)

-- the OPEN, if there is one whose fields can be told, has not the AS number that is configured
abbrev pub WantsAnother : Config → Option (List ℕ) → Type 0
WantsAnother config None = Unit {0}
WantsAnother config (Some octets) = IsReadable octets → IsBadPeerAs config (open_of octets)

-- ---- the laws

-- Where both want another AS number than the first OPEN has, a stretch that begins a run under the
-- first configuration does under the second.
abbrev pub AnotherBegins : Type 0
AnotherBegins =
    (one other : Config) (records : List ShownRecord) (peers : Option (List ℕ))
    → IsAnother peers one other → IsStretch records → HasPeersOpen records peers
    → WantsAnother one peers → WantsAnother other peers
    → Begins one records → Begins other records

-- and so each end that it can have
abbrev pub AnotherIsComplete : Type 0
AnotherIsComplete =
    (one other : Config) (records : List ShownRecord) (peers : Option (List ℕ)) (end : End)
    → IsAnother peers one other → IsStretch records → HasPeersOpen records peers
    → WantsAnother one peers → WantsAnother other peers
    → IsComplete one records end → IsComplete other records end
