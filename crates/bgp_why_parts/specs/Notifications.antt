-- What a NOTIFICATION of a code lacks of those that are possible (RFC 4271, 4.5).
use Rattle.std.specs.Prelude.{◌++◌, ℕ, List, [], ◌∷◌, Option, None, Some, codes}
use Rattle.bgp_parts.specs.declared.notification.NotificationPart.{NotificationPart}
use Rattle.bgp_parts.specs.declared.notification.NotificationPart.TheVariants.{Subcode, Data}
use Rattle.bgp_parts.specs.declared.notification.NotificationParts.{NotificationParts}
use Rattle.bgp_names.specs.Text.{hex_text}
use Rattle.bgp_why_parts.specs.Codes.{code_text}
use Rattle.bgp_why_parts.specs.Pieces.{listed}

-- its code with its subcode, or its data
abbrev pub word_text : ℕ → NotificationPart → List ℕ
word_text code (Subcode subcode) = code_text code subcode
word_text code (Data octets) = codes "data " ++ hex_text octets.now

abbrev pub word_piece : ℕ → Option NotificationPart → Option (List ℕ)
word_piece code None = None
word_piece code (Some part) = Some (word_text code part)

-- it was sent before it is possible
abbrev pub early_piece : Option ℕ → Option (List ℕ)
early_piece None = None
early_piece (Some second) = Some (codes "too early")

abbrev pub notification_parts_text : ℕ → NotificationParts → List ℕ
notification_parts_text code parts =
    listed (word_piece code parts.part ∷ early_piece parts.early ∷ [])
