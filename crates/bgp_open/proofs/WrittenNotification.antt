-- A NOTIFICATION that is written is a whole one of what it was given, and a frame.
use Rattle.std.proofs.Common.{◌≡◌, ℕ, ◌+◌, ◌≤◌, List, [], ◌∷◌, ◌++◌, length, drop, arith, append_assoc, inl, inr}
use Rattle.bgp_wire.specs.declared.header.Limit.{Limit}
use Rattle.bgp_wire.specs.declared.header.MessageType.TheVariants.{Notification}
use Rattle.bgp_wire.specs.Header.{header_octets}
use Rattle.bgp_wire.specs.Message.{message_octets}
use Rattle.bgp_wire.specs.Framing.{IsFrame}
use Rattle.bgp_wire.proofs.WrittenMessage.{appended, written_message, body_of-message_octets}
use Rattle.bgp_wire.proofs.GreatestLength.{allows_4096}
use Rattle.bgp_wire.proofs.WholeMessages.{written_is_frame}
use Rattle.bgp_open.specs.Notification.{IsNotification}
use Rattle.bgp_open.specs.Written.{notification_octets}

pub written_notification : (code subcode : ℕ) (detail : List ℕ) → length detail ≤ 4075
    → IsNotification (notification_octets code subcode detail) code subcode detail
written_notification code subcode detail fits = record {
  message = written_message 3 (code ∷ subcode ∷ detail) (omega arith);
  body = body_of-message_octets 3 (code ∷ subcode ∷ detail);
}

-- what is appended after the header, the code and the subcode
pub appended_notification : (old : List ℕ) (code subcode count : ℕ) (detail : List ℕ) → count ≡ 21 + length detail
    → (((old ++ header_octets 3 count) ++ code ∷ []) ++ subcode ∷ []) ++ detail ≡ old ++ notification_octets code subcode detail
unfolding message_octets
appended_notification old code subcode count detail is =
    let same : count ≡ 19 + length (code ∷ subcode ∷ detail) = omega arith in
    rw same (simp append_assoc)

pub appended_reads_back : (old new : List ℕ) (code subcode : ℕ) (detail : List ℕ) → new ≡ old ++ notification_octets code subcode detail
    → length detail ≤ 4075 → IsNotification (drop (length old) new) code subcode detail
appended_reads_back old new code subcode detail is fits = rw (appended old new _ is) (written_notification code subcode detail fits)

pub notification_frame : (code subcode : ℕ) (detail : List ℕ) → length detail ≤ 4075
    → (limit : Limit) → IsFrame limit (notification_octets code subcode detail)
notification_frame code subcode detail fits limit =
    let room = allows_4096 limit 3 in
    (written_is_frame limit Notification (code ∷ subcode ∷ detail) (λ bad. elim bad [
      | inl few ↦ absurd (omega arith)
      | inr more ↦ elim more [ inl many ↦ absurd (omega arith) | inr keepalive ↦ absurd (omega arith) ]
    ])).0
