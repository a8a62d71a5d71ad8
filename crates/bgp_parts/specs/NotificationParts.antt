-- What a NOTIFICATION that was sent lacks of those that are possible, part by part (RFC 4271, 4.5
-- and 6).
use Rattle.std.specs.Prelude.{◌≡◌, ◌<◌, ◌↔◌, ℕ, List, Option, None, Some, IsNone, IsSomeAnd}
use Rattle.bgp_open.specs.Notification.{IsNotification}
use Rattle.bgp_reason.specs.declared.kinds.Possible.{Possible}
use Rattle.bgp_reason.specs.Data.{Tells}
use Rattle.bgp_reason.specs.Possible.{IsNotified}
use Rattle.bgp_parts.specs.declared.notification.NotificationPart.{NotificationPart}
use Rattle.bgp_parts.specs.declared.notification.NotificationPart.TheVariants.{Subcode, Data}
use Rattle.bgp_parts.specs.declared.notification.NotificationParts as declared

module _ (possible : Possible) where
  -- a NOTIFICATION of this code, this subcode and these data is possible, at some second
  abbrev pub MayTell : ℕ → ℕ → List ℕ → Type 0
  MayTell code subcode detail = (second : ℕ) × IsNotified possible second code subcode detail

  -- one of this code and this subcode is
  abbrev pub MayName : ℕ → ℕ → Type 0
  MayName code subcode = (detail : List ℕ) × MayTell code subcode detail

  -- none of this code is
  abbrev pub IsUnlike : ℕ → Type 0
  IsUnlike code = (subcode : ℕ) → ¬ MayName code subcode

  -- The part on the subcode and the data: the subcode where none with it is possible; else the data
  -- where none with them is
  abbrev pub IsPart : ℕ → ℕ → List ℕ → Option NotificationPart → Type 0
  IsPart code subcode detail None = MayTell code subcode detail
  IsPart code subcode detail (Some (Subcode sent)) = (sent ≡ subcode) × (¬ MayName code subcode)
  IsPart code subcode detail (Some (Data sent)) =
      (sent.now ≡ detail) × MayName code subcode × (¬ MayTell code subcode detail)

  -- Hold Timer Expired that is sent before the second from which it is possible
  abbrev pub IsEarly : ℕ → ℕ → Type 0
  IsEarly second code = (code ≡ 4) × IsSomeAnd possible.hold_timer_expired (λ from. second < from)

  -- the part on the second: where it is early, the second
  abbrev pub IsSecondPart : ℕ → ℕ → Option ℕ → Type 0
  IsSecondPart second code None = ¬ IsEarly second code
  IsSecondPart second code (Some sent) = (sent ≡ second) × IsEarly second code

  -- the octets, sent at this second, are a NOTIFICATION of a code that is possible, and these are
  -- its parts
  pub record AreNotificationParts
      (second : ℕ) (octets : List ℕ) (told : declared.NotificationParts) : Type 0 where
    pub code : ℕ
    pub subcode : ℕ
    pub detail : List ℕ
    pub is : IsNotification octets code subcode detail
    pub like : ¬ IsUnlike code
    pub part : IsPart code subcode detail told.part
    pub second_part : IsSecondPart second code told.early

  -- the octets are no NOTIFICATION of a code that is possible
  abbrev pub ResembleNone : List ℕ → Type 0
  ResembleNone octets =
      (code subcode : ℕ) (detail : List ℕ)
      → IsNotification octets code subcode detail → IsUnlike code

-- there is no part
abbrev pub HasNoPart : declared.NotificationParts → Type 0
HasNoPart told = IsNone told.part × IsNone told.early

-- there is no part exactly where the NOTIFICATION is possible at the second at which it is sent;
-- and one that resembles none isn't possible
pub record PossibleLacksNothing : Type 0 where
  pub parts : (possible : Possible) (second : ℕ) (octets : List ℕ)
      (told : declared.NotificationParts) → AreNotificationParts possible second octets told
      → HasNoPart told ↔ Tells octets (IsNotified possible second)
  pub none : (possible : Possible) (second : ℕ) (octets : List ℕ) → ResembleNone possible octets
      → ¬ Tells octets (IsNotified possible second)
