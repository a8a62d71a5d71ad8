-- The faults of a peer's OPEN, as sets of subcodes of OPEN Message Error with their data (RFC 4271,
-- 6.2; RFC 6286, 2.2; RFC 5492, 3; RFC 9234, 4.2).
use Rattle.std.specs.Prelude.{◌≡◌, ◌≢◌, ◌↔◌, ◌⊎◌, ◌||◌, if◌then◌else◌, Bool, ℕ, List, [], IsTrue}
use Rattle.std.specs.Prelude.{◌==◌, unwrap_or}
use Rattle.byteorder.specs.Endian.{big_bytes}
use Rattle.bgp_open.specs.declared.config.Config.{Config}
use Rattle.bgp_open.specs.declared.subcodes.OpenSubcodes.{OpenSubcodes}
use Rattle.bgp_open.specs.Config.{IsBadHold, is_internal}
use Rattle.bgp_open.specs.Offer.{as_number_of}
use Rattle.bgp_open.specs.declared.fault.OpenFault.TheVariants.{Malformed, Version}
use Rattle.bgp_open.specs.Open.{OpenFields, open_of}
use Rattle.bgp_open.specs.OpenFault.{IsAnswered, IsReadable, HasOtherParameter}

-- The AS number that a peer says it has: where the local system sends the capability of four-octet
-- AS numbers, the one in the peer's first such capability of length 4, if it has one
-- (RFC 6793, 4.1); else My Autonomous System
abbrev pub peer_as_of : Config → OpenFields → ℕ
peer_as_of config message =
    if config.parts.as4
    then unwrap_or (as_number_of message.capabilities) message.my_as
    else message.my_as

-- Bad Peer AS: it isn't the AS number that is configured
abbrev pub IsBadPeerAs : Config → OpenFields → Type 0
IsBadPeerAs config message = peer_as_of config message ≢ config.parts.peer_as

-- Bad BGP Identifier (RFC 6286, 2.2): it is 0, or that of the local system at an internal peer
abbrev pub IsBadIdentifier : Config → OpenFields → Type 0
IsBadIdentifier config message =
    (message.id ≡ 0) ⊎ (IsTrue (is_internal config.parts) × (message.id ≡ config.parts.local_id))

-- an OPEN of another version than 4, of which nothing else is read
abbrev pub IsOfOtherVersion : List ℕ → Type 0
IsOfOtherVersion octets = IsAnswered octets Version

-- an OPEN whose fields can't be told, not being of another version: a malformed one; octets that
-- are no whole OPEN count as one
abbrev pub IsUnreadable : List ℕ → Type 0
IsUnreadable octets = IsAnswered octets Malformed

-- the subcodes that a malformed OPEN has, so that it may be answered by any of them (profile):
-- nobody can tell what else is wrong with it, or what it lacks (11 is permitted besides, as of
-- other OPENs)
abbrev pub IsOfMalformed : ℕ → Type 0
IsOfMalformed subcode =
    (subcode ≡ 0) ⊎ (subcode ≡ 2) ⊎ (subcode ≡ 3) ⊎ (subcode ≡ 4) ⊎ (subcode ≡ 6) ⊎ (subcode ≡ 7)

-- the faults of an OPEN whose fields can be told, each by itself: 4 Unsupported Optional Parameter,
-- 2 Bad Peer AS, 3 Bad BGP Identifier, 6 Unacceptable Hold Time
abbrev pub HasFieldFault : Config → List ℕ → ℕ → Type 0
HasFieldFault config octets subcode =
    ((subcode ≡ 4) × HasOtherParameter octets)
    ⊎ ((subcode ≡ 2) × IsBadPeerAs config (open_of octets))
    ⊎ ((subcode ≡ 3) × IsBadIdentifier config (open_of octets))
    ⊎ ((subcode ≡ 6) × IsBadHold (open_of octets).hold)

-- The faults for which an OPEN has to be refused, as subcodes with data. Another version than 4 is
-- the only fault then, and its data are the version that is spoken; a malformed one has all of its
-- six subcodes; else each field has its own. Data of other subcodes than 1 are free.
abbrev pub mandatory_faults : Config → List ℕ → ℕ → List ℕ → Type 0
mandatory_faults config octets subcode detail =
    ((subcode ≡ 1) × (detail ≡ big_bytes 2 4) × IsOfOtherVersion octets)
    ⊎ (IsOfMalformed subcode × IsUnreadable octets)
    ⊎ (IsReadable octets × HasFieldFault config octets subcode)

-- a valid OPEN: there is no fault for which it has to be refused
abbrev pub IsValid : Config → List ℕ → Type 0
IsValid config octets =
    (subcode : ℕ) (detail : List ℕ) → ¬ mandatory_faults config octets subcode detail

-- The faults for which one may be refused, since a speaker may reject any Hold Time (RFC 4271,
-- 6.2), require a capability (RFC 5492, 3) and require a role of its peer (RFC 9234, 4.2): 6, 7 and
-- 11 of every OPEN but one of another version, and of octets that are no whole OPEN
abbrev pub permitted_faults : List ℕ → ℕ → List ℕ → Type 0
permitted_faults octets subcode detail =
    ((subcode ≡ 6) ⊎ (subcode ≡ 7) ⊎ (subcode ≡ 11)) × (¬ IsOfOtherVersion octets)

-- a NOTIFICATION with this subcode and these data names a fault of the set
abbrev pub Names : OpenSubcodes → ℕ → List ℕ → Type 0
Names subcodes subcode detail =
    ((subcode ≡ 0) × IsTrue subcodes.unspecific)
    ⊎ ((subcode ≡ 1) × (detail ≡ big_bytes 2 4) × IsTrue subcodes.version)
    ⊎ ((subcode ≡ 2) × IsTrue subcodes.peer_as)
    ⊎ ((subcode ≡ 3) × IsTrue subcodes.identifier)
    ⊎ ((subcode ≡ 4) × IsTrue subcodes.parameter)
    ⊎ ((subcode ≡ 6) × IsTrue subcodes.hold)
    ⊎ ((subcode ≡ 7) × IsTrue subcodes.capability)
    ⊎ ((subcode ≡ 11) × IsTrue subcodes.role)

-- the data of a subcode where they are fixed, and else none
abbrev pub detail_of : ℕ → List ℕ
detail_of subcode = if subcode == 1 then big_bytes 2 4 else []

-- no fault is in the set
abbrev pub IsEmpty : OpenSubcodes → Type 0
IsEmpty subcodes = (subcode : ℕ) (detail : List ℕ) → ¬ Names subcodes subcode detail

-- the set is that of these faults
abbrev pub AreSubcodesOf : (ℕ → List ℕ → Type 0) → OpenSubcodes → Type 0
AreSubcodesOf faults subcodes =
    (subcode : ℕ) (detail : List ℕ) → (Names subcodes subcode detail ↔ faults subcode detail)

-- the subcodes of both sets
abbrev pub union : OpenSubcodes → OpenSubcodes → OpenSubcodes
union subcodes others = record {
  unspecific = subcodes.unspecific || others.unspecific;
  version = subcodes.version || others.version;
  peer_as = subcodes.peer_as || others.peer_as;
  identifier = subcodes.identifier || others.identifier;
  parameter = subcodes.parameter || others.parameter;
  hold = subcodes.hold || others.hold;
  capability = subcodes.capability || others.capability;
  role = subcodes.role || others.role;
}

-- fault by fault: the set of an OPEN whose fields can be told, and which has capabilities alone or
-- not
pub record AreOfFields
    (config : Config) (message : OpenFields) (alone : Bool) (subcodes : OpenSubcodes) : Type 0 where
  pub unspecific : ¬ IsTrue subcodes.unspecific
  pub version : ¬ IsTrue subcodes.version
  pub peer_as : IsTrue subcodes.peer_as ↔ IsBadPeerAs config message
  pub identifier : IsTrue subcodes.identifier ↔ IsBadIdentifier config message
  pub parameter : IsTrue subcodes.parameter ↔ (¬ IsTrue alone)
  pub hold : IsTrue subcodes.hold ↔ IsBadHold message.hold
  pub capability : ¬ IsTrue subcodes.capability
  pub role : ¬ IsTrue subcodes.role
