-- What the impossible record lacks of an item that it resembles.
use Rattle.std.specs.Prelude.{◌≡◌, ◌==◌, ◌⊎◌, ℕ, Bool, true, false, List, [], if◌then◌else◌}
use Rattle.std.specs.Prelude.{Option, None, Some, IsNone, IsSomeAnd, is_some, map, codes}
use Rattle.bgp_prefix.specs.Shown.{ShownRecord, Received, Sent, Changed}
use Rattle.bgp_wire.specs.declared.header.Limit.{Limit}
use Rattle.bgp_wire.specs.Framing.{IsFrame}
use Rattle.bgp_wire.specs.Header.{header_of, type_of}
use Rattle.bgp_open.specs.declared.config.Config.{Config}
use Rattle.bgp_open.specs.declared.link.Link.{Link}
use Rattle.bgp_machine.specs.Want.{limit_on}
use Rattle.bgp_why_parts.specs.DeclaredPossible.{Possible}
use Rattle.bgp_why_parts.specs.DeclaredOwnOpenParts.{OwnOpenParts}
use Rattle.bgp_why_parts.specs.NotificationParts.{AreNotificationParts, ResembleNone}
use Rattle.bgp_why_parts.specs.OwnOpenParts.{AreOwnOpenParts}
use Rattle.bgp_why_parts.specs.UpdateParts.{AreUpdateParts, shown_part}
use Rattle.bgp_why_parts.specs.declared.own_faults.OwnFaults.{OwnFaults}
use Rattle.bgp_why_parts.specs.OwnFaults.{own_faults_text}
use Rattle.bgp_why_parts.specs.Parts.{shown_notification, shown_open, shown_update}
use Rattle.bgp_why.specs.declared.items.Item.{Item}
use Rattle.bgp_why.specs.declared.items.Item.TheVariants as items
use Rattle.bgp_why.specs.declared.lacks.Lacks as declared
use Rattle.bgp_why.specs.declared.lacks.Lacks.TheVariants.{Nothing, Open, Update}
use Rattle.bgp_why.specs.declared.lacks.Lacks.TheVariants.{Notification}
use Rattle.bgp_why.specs.Notes.{IsNotificationOf}
use Rattle.bgp_why.specs.Items.{has_fsm_error, has_header_error, has_open_error}
use Rattle.bgp_why.specs.Items.{has_update_error}

-- the octets are a whole message of this type, where it may be so long
abbrev pub IsWholeOf : Limit → ℕ → List ℕ → Type 0
IsWholeOf limit kind octets = IsFrame limit octets × (type_of (header_of octets) ≡ kind)

-- what a NOTIFICATION of a code that is possible lacks
abbrev pub AreNotificationLacks : {X : Type 0} → Possible → ℕ → List ℕ → declared.Lacks X → Type 0
AreNotificationLacks possible second octets Nothing = ResembleNone possible octets
AreNotificationLacks possible second octets (Open parts) = ⊥
AreNotificationLacks possible second octets (Update parts) = ⊥
AreNotificationLacks possible second octets (Notification code parts) =
    IsNotificationOf code octets × AreNotificationParts possible second octets parts

-- what a message lacks that was sent at this second: an OPEN of the local system's own, an UPDATE
-- of a clean one where there is a link
abbrev pub AreSentLacks : {X : Type 0} → Config → Option Link → Possible → ℕ → List ℕ
    → declared.Lacks X → Type 0
AreSentLacks config link possible second octets (Open parts) =
    IsWholeOf (limit_on link) 1 octets × AreOwnOpenParts config octets parts
AreSentLacks config link possible second octets (Update parts) =
    IsWholeOf (limit_on link) 2 octets
    × IsSomeAnd link (λ l. AreUpdateParts l l.sent octets (map shown_part parts.items))
AreSentLacks config link possible second octets lacks =
    (¬ IsWholeOf (limit_on link) 1 octets)
    × (IsNone link ⊎ (¬ IsWholeOf (limit_on link) 2 octets))
    × AreNotificationLacks possible second octets lacks

-- what is received and a change lack nothing
abbrev pub AreLacks : {X : Type 0} → Config → Option Link → Possible → ShownRecord
    → declared.Lacks X → Type 0
AreLacks config link possible (Received second octets) lacks = lacks ≡ Nothing
AreLacks config link possible (Sent second octets) lacks =
    AreSentLacks config link possible second octets lacks
AreLacks config link possible (Changed second old new) lacks = lacks ≡ Nothing

-- the item that an OPEN, an UPDATE, and a NOTIFICATION of a code resembles
abbrev pub is_open : Item → Bool
is_open items.SentOpen = true
is_open item = false

abbrev pub is_update : Item → Bool
is_update items.SentUpdate = true
is_update item = false

abbrev pub is_notification : ℕ → Item → Bool
is_notification code (items.HeaderErrors errors) = code == 1
is_notification code (items.OpenErrors errors) = code == 2
is_notification code (items.UpdateErrors errors) = code == 3
is_notification code (items.HoldTimerExpired from) = code == 4
is_notification code items.SendHoldTimerExpired = code == 8
is_notification code (items.StateErrors errors) = code == 5
is_notification code items.Cease = code == 6
is_notification code item = false

-- the item that a record resembles, of which it lacks this
abbrev pub resembles : {X : Type 0} → declared.Lacks X → Item → Bool
resembles Nothing item = false
resembles (Open parts) item = is_open item
resembles (Update parts) item = is_update item
resembles (Notification code parts) item = is_notification code item

-- a NOTIFICATION of this code may come
abbrev pub is_code_possible : Possible → ℕ → Bool
is_code_possible p code =
    if code == 1 then has_header_error p.header_errors
    else if code == 2 then has_open_error p.open_errors
    else if code == 3 then has_update_error p.update_errors
    else if code == 4 then is_some p.hold_timer_expired
    else if code == 5 then has_fsm_error p.fsm_errors
    else if code == 6 then p.cease
    else if code == 8 then p.send_hold_timer_expired
    else false

-- an item that the record resembles may come
abbrev pub is_resembled : {X : Type 0} → Possible → declared.Lacks X → Bool
is_resembled p Nothing = false
is_resembled p (Open parts) = p.own_open
is_resembled p (Update parts) = p.update
is_resembled p (Notification code parts) = is_code_possible p code

-- ---- the text

-- the parts of an OPEN after one text, or its own faults after the other, if they are given
abbrev pub open_lacks : List ℕ → List ℕ → Option OwnFaults → OwnOpenParts → List ℕ
open_lacks before own None parts = shown_open before parts
open_lacks before own (Some faults) parts = own_faults_text own faults

-- what a record lacks, after one text or, if those are own faults, after the other
abbrev pub lacks_text : {X : Type 0} → List ℕ → List ℕ → Option OwnFaults → declared.Lacks X
    → List ℕ
lacks_text before own faults Nothing = []
lacks_text before own faults (Open parts) = open_lacks before own faults parts
lacks_text before own faults (Update parts) =
    shown_update before true (map shown_part parts.items)
lacks_text before own faults (Notification code parts) = shown_notification before code parts

-- what is lacking of an item, after its text
abbrev pub but_text : {X : Type 0} → Option OwnFaults → declared.Lacks X → Item → List ℕ
but_text faults lacks item =
    if resembles lacks item
    then lacks_text (codes "; this one: ") (codes "; none may have ") faults lacks
    else []
