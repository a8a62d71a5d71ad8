-- The parts of a message, of whichever type, in one line.
use Rattle.std.specs.Prelude.{◌++◌, ℕ, Bool, List, [], ◌∷◌, map}
use Rattle.bgp_parts.specs.declared.notification.NotificationParts.{NotificationParts}
use Rattle.bgp_parts.specs.declared.own_open.OwnOpenParts.{OwnOpenParts}
use Rattle.bgp_parts.specs.UpdateParts.{Part, shown_part}
use Rattle.bgp_why_parts.specs.declared.parts.Parts as declared
use Rattle.bgp_why_parts.specs.declared.parts.Parts.TheVariants.{Nothing, Open, Update}
use Rattle.bgp_why_parts.specs.declared.parts.Parts.TheVariants.{Notification}
use Rattle.bgp_why_parts.specs.Cut.{cut}
use Rattle.bgp_why_parts.specs.Notifications.{notification_parts_text}
use Rattle.bgp_why_parts.specs.Opens.{open_parts_text}
use Rattle.bgp_why_parts.specs.Updates.{update_parts_text}

-- all parts
abbrev pub parts_text : declared.Parts → List ℕ
parts_text Nothing = []
parts_text (Open parts) = open_parts_text parts.now
parts_text (Update is_sent parts) = update_parts_text is_sent (map shown_part parts.now)
parts_text (Notification code parts) = notification_parts_text code parts.now

-- a text after another, if it isn't empty
abbrev pub behind : List ℕ → List ℕ → List ℕ
behind before [] = []
behind before (octet ∷ text) = before ++ (octet ∷ text)

-- as much of a text as is shown, after another text; nothing if it is empty
unfoldable pub shown : List ℕ → List ℕ → List ℕ
shown before text = behind before (cut text)

-- what an OPEN lacks, an UPDATE that was sent or received, and a NOTIFICATION of this code
abbrev pub shown_open : List ℕ → OwnOpenParts → List ℕ
shown_open before parts = shown before (open_parts_text parts)

abbrev pub shown_update : List ℕ → Bool → List Part → List ℕ
shown_update before is_sent parts = shown before (update_parts_text is_sent parts)

abbrev pub shown_notification : List ℕ → ℕ → NotificationParts → List ℕ
shown_notification before code parts = shown before (notification_parts_text code parts)
