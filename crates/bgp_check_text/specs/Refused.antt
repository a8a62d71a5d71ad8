-- The UPDATE that the local system of a session refused, if it refused one: it answered it by a
-- NOTIFICATION with UPDATE Message Error (RFC 4271, 6.3), and so applied nothing of it.
use Rattle.std.specs.Prelude.{◌≡◌, ◌<◌, ◌⊎◌, ◌++◌, ℕ, List, ◌∷◌, length, take}
use Rattle.std.specs.List.{AllByRecursion}
use Rattle.bgp_prefix.specs.Shown.{ShownRecord, Received, Sent, Changed}
use Rattle.bgp_machine.specs.Want.{Tells}

-- the octets are a NOTIFICATION with UPDATE Message Error, whatever its subcode and data
abbrev pub IsUpdateError : List ℕ → Type 0
IsUpdateError octets = Tells octets (λ code subcode detail. code ≡ 3)

-- such a NOTIFICATION was sent
abbrev pub SendsUpdateError : ShownRecord → Type 0
SendsUpdateError (Received second octets) = ⊥
SendsUpdateError (Sent second octets) = IsUpdateError octets
SendsUpdateError (Changed second old new) = ⊥

abbrev pub SendsNoUpdateError : ShownRecord → Type 0
SendsNoUpdateError shown = ¬ SendsUpdateError shown

-- a message was received
abbrev pub HearsMessage : ShownRecord → Type 0
HearsMessage (Received second octets) = Unit {0}
HearsMessage (Sent second octets) = ⊥
HearsMessage (Changed second old new) = ⊥

abbrev pub HearsNothing : ShownRecord → Type 0
HearsNothing shown = ¬ HearsMessage shown

-- After so many records comes the UPDATE that was refused: the message that was received last before
-- the first such NOTIFICATION.
pub record IsRefusedAfter (records : List ShownRecord) (count : ℕ) : Type 0 where
  pub update : ShownRecord
  pub between : List ShownRecord
  pub error : ShownRecord
  pub behind : List ShownRecord
  pub whole : records ≡ (take count records ++ update ∷ between) ++ error ∷ behind
  pub hears : HearsMessage update
  pub hears_no_other : AllByRecursion HearsNothing between
  pub sends : SendsUpdateError error
  pub is_first : AllByRecursion SendsNoUpdateError (take count records ++ update ∷ between)

-- so many records stand before it, or so many there are if none was refused
abbrev pub IsUpToRefusal : List ShownRecord → ℕ → Type 0
IsUpToRefusal records count =
    IsRefusedAfter records count
    ⊎ ((count ≡ length records) × ((n : ℕ) → ¬ IsRefusedAfter records n))

-- ---- how it is found

-- after so many records comes the first such NOTIFICATION
pub record IsFirstError (records : List ShownRecord) (count : ℕ) : Type 0 where
  pub is_front : count < length records
  pub error : ShownRecord
  pub behind : List ShownRecord
  pub whole : records ≡ take count records ++ error ∷ behind
  pub sends : SendsUpdateError error
  pub is_first : AllByRecursion SendsNoUpdateError (take count records)

-- after so many comes the message that was received last
pub record IsLastHeard (records : List ShownRecord) (count : ℕ) : Type 0 where
  pub is_front : count < length records
  pub message : ShownRecord
  pub behind : List ShownRecord
  pub whole : records ≡ take count records ++ message ∷ behind
  pub hears : HearsMessage message
  pub hears_no_other : AllByRecursion HearsNothing behind
