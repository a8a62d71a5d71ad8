-- When the records were that a reason names, and the NOTIFICATION that was sent already.
use Rattle.std.specs.Prelude.{◌≡◌, ◌==◌, ◌≤◌, ◌+◌, ◌++◌, ℕ, Bool, false, List, [], ◌∷◌}
use Rattle.std.specs.Prelude.{Option, None, Some, if◌then◌else◌, length}
use Rattle.std.specs.List.{AllByRecursion}
use Rattle.bgp_prefix.specs.Shown.{ShownRecord, Received, Sent, Changed, second_of}
use Rattle.bgp_wire.specs.Framing.{IsFrame}
use Rattle.bgp_open.specs.declared.config.Config.{Config}
use Rattle.bgp_open.specs.declared.link.Link.{Link}
use Rattle.bgp_open.specs.Notification.{IsNotification}
use Rattle.bgp_machine.specs.Want.{limit_on}
use Rattle.bgp_reason.specs.Sending.{sending_link}
use Rattle.bgp_reason.specs.Told.{told}
use Rattle.bgp_tool.specs.Seen.{leaves_idle}
use Rattle.bgp_explain.specs.declared.moments.Moments.{Moments}
use Rattle.bgp_explain.specs.declared.moments.SentNotification.{SentNotification}

-- ---- the seconds

-- the record with this number, from 1, has this second
pub record IsSecondAt (records : List ShownRecord) (number second : ℕ) : Type 0 where
  pub before : List ShownRecord
  pub shown : ShownRecord
  pub after : List ShownRecord
  pub whole : records ≡ before ++ shown ∷ after
  pub number_is : number ≡ length before + 1
  pub second_is : second ≡ second_of shown

-- the second of the record that is named, if one is
abbrev pub IsSecondOf : List ShownRecord → Option ℕ → Option ℕ → Type 0
IsSecondOf records None second = second ≡ None
IsSecondOf records (Some number) None = ⊥
IsSecondOf records (Some number) (Some second) = IsSecondAt records number second

-- the numbers of the first record and of the last one
abbrev pub first_number : List ShownRecord → Option ℕ
first_number [] = None
first_number (shown ∷ records) = Some 1

abbrev pub last_number : List ShownRecord → Option ℕ
last_number [] = None
last_number (shown ∷ records) = Some (length records + 1)

-- the second of the first record, 0 if there is none
abbrev pub first_second : List ShownRecord → ℕ
first_second [] = 0
first_second (shown ∷ records) = second_of shown

-- ---- the NOTIFICATION

-- The record shows this NOTIFICATION as sent on the link: a whole message, as long as one may be
-- there.
abbrev pub IsSentAs : Option Link → ShownRecord → SentNotification → Type 0
IsSentAs link (Received second octets) sent = ⊥
IsSentAs link (Sent second octets) sent =
    IsFrame (limit_on link) octets × (sent.second ≡ second)
    × ((detail : List ℕ) × IsNotification octets sent.code sent.subcode detail)
IsSentAs link (Changed second old new) sent = ⊥

-- it isn't a change that leaves Idle
abbrev pub LeavesNoIdle : ShownRecord → Type 0
LeavesNoIdle shown = leaves_idle shown ≡ false

-- The NOTIFICATION is one of those that were sent, and no change leaves Idle after it.
pub record IsSentSinceIdle (config : Config) (records : List ShownRecord) (sent : SentNotification)
    : Type 0 where
  pub before : List ShownRecord
  pub shown : ShownRecord
  pub after : List ShownRecord
  pub whole : records ≡ before ++ shown ∷ after
  pub number : sent.number ≡ length before + 1
  pub is : IsSentAs (sending_link config before) shown sent
  pub since : AllByRecursion LeavesNoIdle after

-- the last one of these, if there is one
abbrev pub IsLastSent : Config → List ShownRecord → Option SentNotification → Type 0
IsLastSent config records None = (sent : SentNotification) → ¬ IsSentSinceIdle config records sent
IsLastSent config records (Some last) =
    IsSentSinceIdle config records last
    × ((sent : SentNotification) → IsSentSinceIdle config records sent
    → sent.number ≤ last.number)

-- ---- both

-- The seconds are those of the first record, of the one that told the state, of the message
-- received last, and of the last record.
pub record AreMomentsOf (config : Config) (records : List ShownRecord) (moments : Moments)
    : Type 0 where
  pub first : IsSecondOf records (first_number records) moments.first
  pub told_by : IsSecondOf records (told records).told_by moments.told_by
  pub last_received : IsSecondOf records (told records).last_received moments.last_received
  pub last : IsSecondOf records (last_number records) moments.last
  pub notification : IsLastSent config records moments.notification

-- ---- with one record more

abbrev pub first_with : Option ℕ → ℕ → Option ℕ
first_with None second = Some second
first_with (Some first) second = Some first

-- the one with this number and this second, where the name is one of a record
abbrev pub named_with : Option ℕ → Option ℕ → ℕ → ℕ → Option ℕ
named_with None before number second = None
named_with (Some name) before number second = if name == number then Some second else before

-- by the NOTIFICATION in it, if there is one, and whether it leaves Idle
abbrev pub notification_with : Option SentNotification → Option SentNotification → Bool
    → Option SentNotification
notification_with before (Some sent) left_idle = Some sent
notification_with before None left_idle = if left_idle then None else before
