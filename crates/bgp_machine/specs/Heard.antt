-- What a received message is, as the machine's rows tell messages apart (RFC 4271, 6.1, 6.2 and
-- 8.1.5).
use Rattle.std.specs.Prelude.{◌≡◌, ◌<◌, ◌≤◌, ◌⊎◌, ℕ, List, length}
use Rattle.bgp_wire.specs.Header.{limit_with, IsSound, header_of, type_of}
use Rattle.bgp_wire.specs.Verdict.{AreEachFault}
use Rattle.bgp_wire.specs.declared.header.Limit.{Limit}
use Rattle.bgp_open.specs.declared.config.Config.{Config}
use Rattle.bgp_open.specs.Link.{link_of}
use Rattle.bgp_open.specs.Notification.{IsNotification}
use Rattle.bgp_open.specs.Open.{open_of}
use Rattle.bgp_open.specs.OpenSubcodes.{mandatory_faults, permitted_faults, IsValid}
use Rattle.bgp_open.specs.OpenSubcodes.{AreSubcodesOf}
use Rattle.bgp_machine.specs.declared.hearing.Heard.{Heard}
use Rattle.bgp_machine.specs.declared.hearing.Heard.TheVariants.{TooShort, ValidOpen}
use Rattle.bgp_machine.specs.declared.hearing.Heard.TheVariants.{FaultyHeader, InvalidOpen}
use Rattle.bgp_machine.specs.declared.hearing.Heard.TheVariants.{BadVersion, Notification}
use Rattle.bgp_machine.specs.declared.hearing.Heard.TheVariants.{Keepalive, Update}

-- how long a message may be that the local system receives, in every state: as long as an extended
-- one where it offers those (RFC 8654, 4), whatever the peer offers
abbrev pub received_limit : Config → Limit
received_limit config = limit_with config.parts.session.extended

-- a header without a fault announces a message of this type
pub record Announces (config : Config) (kind : ℕ) (octets : List ℕ) : Type 0 where
  pub header : 19 ≤ length octets
  pub sound : IsSound (received_limit config) (header_of octets)
  pub type_field : type_of (header_of octets) ≡ kind

-- what an OPEN may be refused for, be it that it has to or not
abbrev pub open_faults : Config → List ℕ → ℕ → List ℕ → Type 0
open_faults config octets subcode detail =
    mandatory_faults config octets subcode detail ⊎ permitted_faults octets subcode detail

-- Unsupported Version Number of OPEN Message Error, 2/1: event 24 (RFC 4271, 8.1.5)
abbrev pub IsBadVersion : List ℕ → Type 0
IsBadVersion octets = (detail : List ℕ) × IsNotification octets 2 1 detail

-- what octets are heard as
abbrev pub Hears : Config → List ℕ → Heard → Type 0
-- fewer octets than a header has: no splitter and no reader of captures hands them on
Hears config octets TooShort = length octets < 19
-- a valid OPEN, what it settles, and what it may be refused for all the same
Hears config octets (ValidOpen link subcodes) =
    Announces config 1 octets × IsValid config octets × (link ≡ link_of config (open_of octets))
    × AreSubcodesOf (open_faults config octets) subcodes
-- a header with these faults
Hears config octets (FaultyHeader faults) =
    (19 ≤ length octets) × (¬ IsSound (received_limit config) (header_of octets))
    × AreEachFault (received_limit config) (header_of octets) faults
-- an OPEN that has to be refused, and what it may be refused for
Hears config octets (InvalidOpen subcodes) =
    Announces config 1 octets × (¬ IsValid config octets)
    × AreSubcodesOf (open_faults config octets) subcodes
Hears config octets BadVersion = Announces config 3 octets × IsBadVersion octets
-- another NOTIFICATION
Hears config octets Notification = Announces config 3 octets × (¬ IsBadVersion octets)
Hears config octets Keepalive = Announces config 4 octets
Hears config octets Update = Announces config 2 octets
