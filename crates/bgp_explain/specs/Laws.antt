-- What is told of a no: which records could have stood in the place of the first impossible one,
-- and what this lacks of them. And that a reason is one text.
use Rattle.std.specs.Prelude.{◌≡◌, ◌↔◌, ◌<◌, ◌+◌, ◌^◌, ◌++◌, ℕ, List, [], ◌∷◌, Option, None}
use Rattle.std.specs.Prelude.{IsTrue, take}
use Rattle.bgp_prefix.specs.Shown.{ShownRecord, Received}
use Rattle.mrt.specs.Capture.{Spells}
use Rattle.bgp_open.specs.declared.config.Config.{Config}
use Rattle.bgp_open.specs.declared.link.Link.{Link}
use Rattle.bgp_machine.specs.Run.{Begins}
use Rattle.bgp_judge.specs.Verdict.{HasVerdict, VerdictValue, No}
use Rattle.bgp_parts.specs.NotificationParts.{HasNoPart}
use Rattle.bgp_parts.specs.OwnOpenParts.{LacksNothing}
use Rattle.bgp_reason.specs.declared.kinds.Possible.{Possible}
use Rattle.bgp_reason.specs.Possible.{ArePossible, IsAmong, IsCapturable}
use Rattle.bgp_reason.specs.Sending.{sending_link}
use Rattle.bgp_why.specs.NotWhole.{IsWhyNotSent}
use Rattle.bgp_why.specs.declared.place.Place.{Place}
use Rattle.bgp_why.specs.declared.style.Style.{Style}
use Rattle.bgp_explain.specs.Lacked.{Lacked, Nothing, Open, Update, Notification, RecordLacks}
use Rattle.bgp_explain.specs.Records.{SaysOfRecords}

-- Of records whose verdict is a no, after so many, and of what is possible there.
module _ (config : Config) (records : List ShownRecord) (count : ℕ) (possible : Possible) where
  -- a record is among those that are told
  abbrev pub IsTold : ShownRecord → Type 0
  IsTold shown = IsAmong config (sending_link config (take count records)) possible shown

  -- In the place of the first impossible record each of those could have stood, and no other that a
  -- capture can hold. It is none of them, and there is one.
  pub record CouldStand : Type 0 where
    pub each : (shown : ShownRecord) → IsCapturable config (take count records) shown
        → IsTold shown ↔ Begins config (take count records ++ shown ∷ [])
    pub not_this : (shown : ShownRecord) → IsCapturable config (take count records) shown
        → take (count + 1) records ≡ take count records ++ shown ∷ [] → ¬ IsTold shown
    pub some : (shown : ShownRecord) × IsCapturable config (take count records) shown
        × IsTold shown

abbrev pub CouldHaveStood : Type 0
CouldHaveStood =
    (config : Config) (records : List ShownRecord) (count : ℕ) (possible : Possible)
    → HasVerdict config records (No count) → ArePossible config (take count records) possible
    → CouldStand config records count possible

-- Of a no at a message that was received, with these octets, after records that settle this link:
-- it isn't told that a message could have been received there, and so what is owed is told.
abbrev pub TellsWhatIsOwed : Config → Option Link → List ℕ → Type 0
TellsWhatIsOwed config link octets =
    (records : List ShownRecord) (count second : ℕ) (possible : Possible)
    → second < 2 ^ 32 → HasVerdict config records (No count)
    → take (count + 1) records ≡ take count records ++ Received second octets ∷ []
    → sending_link config (take count records) ≡ link
    → ArePossible config (take count records) possible → ¬ IsTrue possible.message

-- ---- what it lacks

-- the item that a record resembles is among those that are possible
abbrev pub IsItemThere : Possible → Lacked → Type 0
IsItemThere possible Nothing = ⊥
IsItemThere possible (Open parts) = IsTrue possible.own_open
IsItemThere possible (Update parts) = IsTrue possible.update
IsItemThere possible (Notification code parts) = Unit {0}

-- there is no part
abbrev pub NamesNothing : Lacked → Type 0
NamesNothing Nothing = Unit {0}
NamesNothing (Open parts) = LacksNothing parts
NamesNothing (Update parts) = parts ≡ []
NamesNothing (Notification code parts) = HasNoPart parts

-- Of a record that is impossible after these, and is a whole message where it was sent, a part is
-- named wherever the item that it resembles is told.
abbrev pub NamesWhatLacks : Type 0
NamesWhatLacks =
    (config : Config) (records : List ShownRecord) (possible : Possible) (shown : ShownRecord)
    (lacked : Lacked)
    → ArePossible config records possible → IsCapturable config records shown
    → ¬ Begins config (records ++ shown ∷ [])
    → IsWhyNotSent (sending_link config records) shown None
    → RecordLacks config (sending_link config records) possible shown lacked
    → IsItemThere possible lacked → ¬ NamesNothing lacked

-- ---- how it is told

-- What explains a verdict on records that a capture can hold is one text, wherever they stand and
-- in whichever style: two that explain it are equal.
abbrev pub HasOneReason : Type 0
HasOneReason =
    (config : Config) (style : Style) (places : ℕ → ℕ → Place) (octets : List ℕ)
    (records : List ShownRecord) (verdict : VerdictValue) (more also : List ℕ)
    → Spells config.parts.session octets records
    → SaysOfRecords config style config.parts.session places records verdict more
    → SaysOfRecords config style config.parts.session places records verdict also
    → more ≡ also
