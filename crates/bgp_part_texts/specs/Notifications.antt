-- Parts of a NOTIFICATION that say different things have different texts.
use Rattle.std.specs.Prelude.{◌<◌, ℕ, Bool, IfSome, List, Option, is_some}
use Rattle.std.specs.Option.{option_map}
use Rattle.hex.specs.Hex.{IsBytes}
use Rattle.bgp_parts.specs.declared.notification.NotificationPart as declared
use Rattle.bgp_parts.specs.declared.notification.NotificationPart.TheVariants as parts
use Rattle.bgp_parts.specs.declared.notification.NotificationParts.{NotificationParts}
use Rattle.bgp_why_parts.specs.Notifications.{notification_parts_text}
use Rattle.bgp_part_texts.specs.OneText.{ShownTextsDiffer, TextsDiffer}

-- the subcode, or the data
pub data Word : Type 0 where
  Subcode : ℕ → Word
  Data : List ℕ → Word

abbrev pub word_of : declared.NotificationPart → Word
word_of (parts.Subcode subcode) = Subcode subcode
word_of (parts.Data octets) = Data octets.now

-- what the parts say: the subcode or the data, and whether it was sent too early
abbrev pub said : NotificationParts → Option Word × Bool
said told = (option_map word_of told.part, is_some told.early)

abbrev pub IsWord : declared.NotificationPart → Type 0
IsWord (parts.Subcode subcode) = subcode < 256
IsWord (parts.Data octets) = IsBytes octets.now

abbrev pub HasWord : NotificationParts → Type 0
HasWord told = IfSome told.part IsWord

-- of an error code
abbrev pub NotificationPartsDiffer : Type 0
NotificationPartsDiffer =
    (code : ℕ) → code < 256 → TextsDiffer HasWord (notification_parts_text code) said

abbrev pub ShownNotificationPartsDiffer : Type 0
ShownNotificationPartsDiffer =
    (code : ℕ) → code < 256 → ShownTextsDiffer HasWord (notification_parts_text code) said
