-- Why an OPEN has to be refused (RFC 4271, 6.2; RFC 6286, 2.2), with what it says.
use Rattle.std.specs.Prelude.{◌≡◌, ◌↔◌, ℕ, List, [], Option, IsTrue, MatchOption}
use Rattle.bgp_open.specs.declared.config.Config.{Config}
use Rattle.bgp_open.specs.Open.{fixed_fields_of, open_of, version_of}
use Rattle.bgp_open.specs.OpenSubcodes.{IsOfOtherVersion, IsUnreadable, mandatory_faults}
use Rattle.bgp_open.specs.OpenSubcodes.{peer_as_of}
use Rattle.bgp_why.specs.declared.refusal.FieldReasons.{FieldReasons}
use Rattle.bgp_why.specs.declared.refusal.OpenReasons.{OpenReasons}
use Rattle.bgp_why.specs.declared.refusal.OpenReasons.TheVariants.{Version, Malformed}
use Rattle.bgp_why.specs.declared.refusal.OpenReasons.TheVariants.{Fields}

-- the OPEN has to be refused by this subcode, whose data are free
abbrev pub IsRefusedBy : Config → List ℕ → ℕ → Type 0
IsRefusedBy config octets subcode = mandatory_faults config octets subcode []

-- a field's value is kept exactly if the OPEN has to be refused for it, by this subcode
abbrev pub IsToldOf : Config → List ℕ → ℕ → Option ℕ → ℕ → Type 0
IsToldOf config octets subcode told said =
    MatchOption told (¬ IsRefusedBy config octets subcode)
    (λ number. IsRefusedBy config octets subcode × (number ≡ said))

-- Each field that is at fault: a parameter of another type than 2, the AS number that the peer says
-- it has, its BGP Identifier, its Hold Time.
pub record AreFieldReasons (config : Config) (octets : List ℕ) (reasons : FieldReasons) : Type 0
  where
    pub other_parameter : IsTrue reasons.other_parameter ↔ IsRefusedBy config octets 4
    pub peer_as : IsToldOf config octets 2 reasons.peer_as (peer_as_of config (open_of octets))
    pub identifier : IsToldOf config octets 3 reasons.identifier (open_of octets).id
    pub hold : IsToldOf config octets 6 reasons.hold (open_of octets).hold
    pub configured_as : reasons.configured_as ≡ config.parts.peer_as

-- another version than 4, and nothing else is read; fields that can't be read; or fields at fault
abbrev pub AreReasons : Config → List ℕ → OpenReasons → Type 0
AreReasons config octets (Version number) =
    IsOfOtherVersion octets × (number ≡ version_of (fixed_fields_of octets))
AreReasons config octets Malformed = IsUnreadable octets
AreReasons config octets (Fields reasons) =
    (¬ IsOfOtherVersion octets) × (¬ IsUnreadable octets) × AreFieldReasons config octets reasons
