-- What a step sends, and which messages are that (RFC 4271, 6; RFC 6608, 3; RFC 9687, 5).
use Rattle.std.specs.Prelude.{◌≡◌, ◌≤◌, ◌⊎◌, ℕ, List, [], ◌∷◌, Option, None, Some}
use Rattle.bgp_wire.specs.declared.header.Limit.{Limit}
use Rattle.bgp_wire.specs.declared.header.Limit.TheVariants.{Plain}
use Rattle.bgp_wire.specs.Framing.{IsFrame}
use Rattle.bgp_wire.specs.Header.{limit_with}
use Rattle.bgp_wire.specs.Message.{IsMessage}
use Rattle.bgp_wire.specs.Verdict.{Names as NamesHeaderFault}
use Rattle.bgp_open.specs.declared.config.Config.{Config}
use Rattle.bgp_open.specs.declared.link.Link.{Link}
use Rattle.bgp_open.specs.Notification.{IsNotification}
use Rattle.bgp_open.specs.OpenSubcodes.{Names as NamesOpenError}
use Rattle.bgp_open.specs.OwnOpen.{IsOwnOpen}
use Rattle.bgp_rib.specs.Clean.{IsClean}
use Rattle.bgp_rib.specs.Subcodes.{HasSubcode}
use Rattle.bgp_machine.specs.declared.want.Unexpected.{Unexpected}
use Rattle.bgp_machine.specs.declared.want.Unexpected.TheVariants.{InOpenSent, InOpenConfirm}
use Rattle.bgp_machine.specs.declared.want.Unexpected.TheVariants.{InEstablished}
use Rattle.bgp_machine.specs.declared.want.FaultSet.{FaultSet}
use Rattle.bgp_machine.specs.declared.want.FaultSet.TheVariants.{Header, Open, Update}
use Rattle.bgp_machine.specs.declared.want.Want.{Want}
use Rattle.bgp_machine.specs.declared.want.Want.TheVariants.{OwnOpen, KeepAlive, CleanUpdate, Cease}
use Rattle.bgp_machine.specs.declared.want.Want.TheVariants.{HoldExpired, SendHoldExpired}
use Rattle.bgp_machine.specs.declared.want.Want.TheVariants.{MachineError, Faults}
use Rattle.bgp_machine.specs.declared.want.Wants.{Wants}
use Rattle.bgp_machine.specs.declared.want.Wants.TheVariants.{Nothing, One, Two}

-- in their order
abbrev pub wants_of : Wants → List Want
wants_of Nothing = []
wants_of (One want) = want ∷ []
wants_of (Two first second) = first ∷ second ∷ []

-- How long a sent message may be: on a link as the peer offered (RFC 8654, 4), whatever the local
-- system offers; before there is one 4096 octets.
abbrev pub limit_on : Option Link → Limit
limit_on None = Plain
limit_on (Some link) = limit_with link.extended

-- the subcode of Finite State Machine Error that names the state (RFC 6608, 3)
abbrev pub subcode_of : Unexpected → ℕ
subcode_of InOpenSent = 1
subcode_of InOpenConfirm = 2
subcode_of InEstablished = 3

-- a NOTIFICATION with this code, this subcode and these data names a fault of the set: 1 Message
-- Header Error, 2 OPEN Message Error, 3 UPDATE Message Error, with any data
abbrev pub NamesFault : FaultSet → ℕ → ℕ → List ℕ → Type 0
NamesFault (Header faults) code subcode detail = (code ≡ 1) × NamesHeaderFault faults subcode detail
NamesFault (Open subcodes) code subcode detail =
    (code ≡ 2) × NamesOpenError subcodes subcode detail
NamesFault (Update subcodes) code subcode detail = (code ≡ 3) × HasSubcode subcodes subcode

-- the least subcode of a set of faults, with data where they are fixed, and else without
pub record IsLeastFault (faults : FaultSet) (code subcode : ℕ) (detail : List ℕ) : Type 0 where
  pub names : NamesFault faults code subcode detail
  pub least : (other_code other : ℕ) (others : List ℕ)
      → NamesFault faults other_code other others → subcode ≤ other
  pub without : NamesFault faults code subcode [] → detail ≡ []

-- the octets are a NOTIFICATION which the fact holds of
abbrev pub Tells : List ℕ → (ℕ → ℕ → List ℕ → Type 0) → Type 0
Tells octets Says =
    (code : ℕ) × (subcode : ℕ) × (detail : List ℕ)
    × IsNotification octets code subcode detail × Says code subcode detail

-- what a message says that is wanted
abbrev pub Fulfils : Config → Option Link → Want → List ℕ → Type 0
-- the local system's OPEN
Fulfils config link OwnOpen octets = IsOwnOpen config octets
Fulfils config link KeepAlive octets = IsMessage 4 octets
-- an UPDATE without a fault of any kind
Fulfils config None CleanUpdate octets = ⊥
Fulfils config (Some link) CleanUpdate octets = IsClean link octets
-- Cease, with any subcode and data
Fulfils config link Cease octets = Tells octets (λ code subcode detail. code ≡ 6)
-- Hold Timer Expired, with any data
Fulfils config link HoldExpired octets =
    Tells octets (λ code subcode detail. (code ≡ 4) × (subcode ≡ 0))
-- Send Hold Timer Expired, with any data
Fulfils config link SendHoldExpired octets =
    Tells octets (λ code subcode detail. (code ≡ 8) × (subcode ≡ 0))
-- Finite State Machine Error, with the subcode of the state; 0, and any data, too (profile)
Fulfils config link (MachineError state) octets =
    Tells octets (λ code subcode detail.
    (code ≡ 5) × ((subcode ≡ 0) ⊎ (subcode ≡ subcode_of state)))
-- one of the faults
Fulfils config link (Faults faults) octets = Tells octets (NamesFault faults)

-- a message meets a want, on the link that stood before the step: it is whole, and what is wanted
pub record Meets (config : Config) (link : Option Link) (want : Want) (octets : List ℕ)
    : Type 0 where
  pub whole : IsFrame (limit_on link) octets
  pub fulfils : Fulfils config link want octets
