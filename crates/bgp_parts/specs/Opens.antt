-- Both OPENs of a stretch: the one that the local system sent, and the one that it received.
use Rattle.std.specs.Prelude.{◌≡◌, ◌≤◌, ◌⊎◌, ℕ, List, [], ◌∷◌, Option, None, Some, length}
use Rattle.bgp_prefix.specs.Shown.{ShownRecord, Received, Sent}
use Rattle.bgp_wire.specs.Header.{IsSound, header_of, type_of}
use Rattle.bgp_wire.specs.declared.header.Limit.TheVariants.{Plain}
use Rattle.bgp_open.specs.Open.{IsOpen}
use Rattle.bgp_open.specs.OpenFault.{IsWellFormed}

-- A header without a fault announces an OPEN. Extended messages or not, that is the same one
-- (RFC 8654, 4).
pub record IsOpenMessage (octets : List ℕ) : Type 0 where
  pub header : 19 ≤ length octets
  pub sound : IsSound Plain (header_of octets)
  pub type_field : type_of (header_of octets) ≡ 1

-- the first message received that is such
abbrev pub FirstReceived : (List ℕ → Type 0) → List ShownRecord → Option (List ℕ) → Type 0
FirstReceived Is [] found = found ≡ None
FirstReceived Is (Received t octets ∷ records) found =
    (Is octets × (found ≡ Some octets)) ⊎ ((¬ Is octets) × FirstReceived Is records found)
FirstReceived Is (shown ∷ records) found = FirstReceived Is records found

-- the peer's OPEN: of the messages received the first that announces one, whatever its fields say
abbrev pub HasPeersOpen : List ShownRecord → Option (List ℕ) → Type 0
HasPeersOpen records peers = FirstReceived IsOpenMessage records peers

-- the OPEN that is heard: of the messages received the first that is a whole and well-formed one
abbrev pub HasHeardOpen : List ShownRecord → Option (List ℕ) → Type 0
HasHeardOpen records heard = FirstReceived IsWellFormed records heard

-- the first message sent that is such
abbrev pub FirstSent : (List ℕ → Type 0) → List ShownRecord → Option (List ℕ) → Type 0
FirstSent Is [] found = found ≡ None
FirstSent Is (Sent t octets ∷ records) found =
    (Is octets × (found ≡ Some octets)) ⊎ ((¬ Is octets) × FirstSent Is records found)
FirstSent Is (shown ∷ records) found = FirstSent Is records found

-- the own OPEN: of the messages sent the first that is a whole and well-formed one
abbrev pub HasOwnOpen : List ShownRecord → Option (List ℕ) → Type 0
HasOwnOpen records own = FirstSent IsWellFormed records own

-- the first whole OPEN that is sent, well-formed or not
abbrev pub HasWholeOpen : List ShownRecord → Option (List ℕ) → Type 0
HasWholeOpen records whole = FirstSent IsOpen records whole

-- ---- of one record

-- it is a sent message with these octets, which are such
abbrev pub IsSent : (List ℕ → Type 0) → ShownRecord → List ℕ → Type 0
IsSent Is (Sent t octets) found = Is octets × (found ≡ octets)
IsSent Is shown found = ⊥

-- it is no sent message that is such
abbrev pub SendsNone : (List ℕ → Type 0) → ShownRecord → Type 0
SendsNone Is (Sent t octets) = ¬ Is octets
SendsNone Is shown = Unit {0}

-- no well-formed OPEN is sent
abbrev pub SendsNoOpen : ShownRecord → Type 0
SendsNoOpen shown = SendsNone IsWellFormed shown

-- it is a received message with these octets, which are such
abbrev pub IsReceived : (List ℕ → Type 0) → ShownRecord → List ℕ → Type 0
IsReceived Is (Received t octets) found = Is octets × (found ≡ octets)
IsReceived Is shown found = ⊥

-- it is no received message that is such
abbrev pub ReceivesNone : (List ℕ → Type 0) → ShownRecord → Type 0
ReceivesNone Is (Received t octets) = ¬ Is octets
ReceivesNone Is shown = Unit {0}
