-- What the impossible record lacks of an item that it resembles, and its text.
use Rattle.std.specs.Prelude.{◌≡◌, ◌⊎◌, ◌++◌, ℕ, Bool, true, false, List, [], if◌then◌else◌}
use Rattle.std.specs.Prelude.{Option, IsNone, IsSomeAnd, map, codes}
use Rattle.bgp_prefix.specs.Shown.{ShownRecord, Received, Sent, Changed}
use Rattle.bgp_open.specs.declared.config.Config.{Config}
use Rattle.bgp_open.specs.declared.link.Link.{Link}
use Rattle.bgp_machine.specs.Want.{limit_on}
use Rattle.bgp_reason.specs.declared.kinds.Possible.{Possible}
use Rattle.bgp_parts.specs.declared.notification.NotificationParts.{NotificationParts}
use Rattle.bgp_parts.specs.declared.own_open.OwnOpenParts.{OwnOpenParts}
use Rattle.bgp_parts.specs.NotificationParts.{AreNotificationParts, ResembleNone}
use Rattle.bgp_parts.specs.OwnOpenParts.{AreOwnOpenParts}
use Rattle.bgp_parts.specs.UpdateParts.{Part, AreUpdateParts, shown_part}
use Rattle.bgp_why_parts.specs.declared.own_faults.OwnFaults.{OwnFaults}
use Rattle.bgp_why_parts.specs.Parts.{shown_notification, shown_update}
use Rattle.bgp_why.specs.declared.lacks.Lacks.{Lacks}
use Rattle.bgp_why.specs.declared.lacks.Lacks.TheVariants as lacks
use Rattle.bgp_why.specs.declared.style.Style.{Style}
use Rattle.bgp_why.specs.Deed.{due_first, message_due}
use Rattle.bgp_why.specs.Lacks.{IsWholeOf, is_code_possible, is_notification, is_open}
use Rattle.bgp_why.specs.Lacks.{is_update, open_lacks}
use Rattle.bgp_why.specs.Notes.{IsNotificationOf}
use Rattle.bgp_why.specs.Possible.{shown_lines}

pub data Lacked : Type 0 where
  -- it resembles no item
  Nothing : Lacked
  -- an OPEN, of the local system's own
  Open : OwnOpenParts → Lacked
  -- an UPDATE, of a clean one
  Update : List Part → Lacked
  -- a NOTIFICATION of this code, of those that are possible
  Notification : ℕ → NotificationParts → Lacked

abbrev pub lacked_of : {X : Type 0} → Lacks X → Lacked
lacked_of lacks.Nothing = Nothing
lacked_of (lacks.Open parts) = Open parts
lacked_of (lacks.Update parts) = Update (map shown_part parts.items)
lacked_of (lacks.Notification code parts) = Notification code parts

-- ---- what a record lacks, after records that settle this link

abbrev pub NotificationLacks : Possible → ℕ → List ℕ → Lacked → Type 0
NotificationLacks possible second octets Nothing = ResembleNone possible octets
NotificationLacks possible second octets (Open parts) = ⊥
NotificationLacks possible second octets (Update parts) = ⊥
NotificationLacks possible second octets (Notification code parts) =
    IsNotificationOf code octets × AreNotificationParts possible second octets parts

-- An OPEN, and an UPDATE where there is a link, are whole messages on it.
abbrev pub SentLacks : Config → Option Link → Possible → ℕ → List ℕ → Lacked → Type 0
SentLacks config link possible second octets (Open parts) =
    IsWholeOf (limit_on link) 1 octets × AreOwnOpenParts config octets parts
SentLacks config link possible second octets (Update parts) =
    IsWholeOf (limit_on link) 2 octets
    × IsSomeAnd link (λ l. AreUpdateParts l l.sent octets parts)
SentLacks config link possible second octets lacked =
    (¬ IsWholeOf (limit_on link) 1 octets)
    × (IsNone link ⊎ (¬ IsWholeOf (limit_on link) 2 octets))
    × NotificationLacks possible second octets lacked

abbrev pub RecordLacks : Config → Option Link → Possible → ShownRecord → Lacked → Type 0
RecordLacks config link possible (Received second octets) lacked = lacked ≡ Nothing
RecordLacks config link possible (Sent second octets) lacked =
    SentLacks config link possible second octets lacked
RecordLacks config link possible (Changed second old new) lacked = lacked ≡ Nothing

-- ---- the text

-- an item that it resembles may come
abbrev pub may_be_like : Possible → Lacked → Bool
may_be_like p Nothing = false
may_be_like p (Open parts) = p.own_open
may_be_like p (Update parts) = p.update
may_be_like p (Notification code parts) = is_code_possible p code

-- what it lacks, after one text or, if those are own faults, after the other
abbrev pub lacked_text : List ℕ → List ℕ → Option OwnFaults → Lacked → List ℕ
lacked_text before own faults Nothing = []
lacked_text before own faults (Open parts) = open_lacks before own faults parts
lacked_text before own faults (Update parts) = shown_update before true parts
lacked_text before own faults (Notification code parts) = shown_notification before code parts

-- what it lacks of the item that it resembles, after the item's text
abbrev pub but_text : Option OwnFaults → Lacked → List ℕ
but_text faults lacked =
    lacked_text (codes "; this one: ") (codes "; none may have ") faults lacked

-- what may stand in its place, and of the item that it resembles what it lacks
abbrev pub following_lines : Style → Possible → Lacked → List ℕ
following_lines style p Nothing = shown_lines style false (λ item. []) p
following_lines style p (Open parts) =
    shown_lines style false
    (λ item. if is_open item then but_text style.own_faults (Open parts) else []) p
following_lines style p (Update parts) =
    shown_lines style false
    (λ item. if is_update item then but_text style.own_faults (Update parts) else []) p
following_lines style p (Notification code parts) =
    shown_lines style false
    (λ item. if is_notification code item
    then but_text style.own_faults (Notification code parts) else []) p

-- what is wrong with it: it isn't allowed, and lacks this of what is; or something is due first
abbrev pub lacked_cause : Option OwnFaults → Possible → Lacked → List ℕ
lacked_cause faults p lacked =
    if p.message
    then codes ", not allowed here"
    ++ (if may_be_like p lacked then lacked_text (codes ": ") (codes ": ") faults lacked else [])
    else due_first (message_due p)
