-- Each frame says one thing.
use Rattle.std.proofs.Common.{◌≡◌, ◌≤◌, ◌∷◌, ◌-◌, [], All, ℕ, List, length, refl, inl, inr, arith}
use Rattle.std.proofs.lemmas.List.{length-drop}
use Rattle.std.proofs.lemmas.List.Elements.{All-head, All-tail}
use Rattle.bgp_wire.specs.declared.header.Limit.{Limit}
use Rattle.bgp_wire.specs.Header.{header_of, length_of}
use Rattle.bgp_wire.specs.Message.{body_of}
use Rattle.bgp_wire.specs.Framing.{IsFrame}
use Rattle.bgp_update.proofs.EachOpen.{each_open}
use Rattle.bgp_wire.proofs.WholeFrame.{least_holds, frame_is_message, frame_is_keepalive, type_of_frame}
use Rattle.bgp_update.specs.Open.{IsOpen, open_of}
use Rattle.bgp_update.specs.DeclaredRouteForm.{RouteForm}
use Rattle.bgp_update.specs.RouteForm.{plain_form}
use Rattle.bgp_update.proofs.OneParts.{each_parts}
use Rattle.bgp_text.specs.Message.{Message, open_message, malformed_open_message, update_message, malformed_update_message, notification_message, keepalive_message, Says, Say}

-- a body of two octets or more has a code and a subcode
two_first : (octets : List ℕ) → 2 ≤ length octets → (code subcode : ℕ) × (detail : List ℕ) × (octets ≡ code ∷ subcode ∷ detail)
two_first [] few = absurd (omega arith)
two_first (code ∷ []) few = absurd (omega arith)
two_first (code ∷ subcode ∷ detail) few = (code, subcode, detail, refl)

-- how long the body of a frame is
body_length : (limit : Limit) (frame : List ℕ) (least : ℕ) → IsFrame limit frame → least ≤ length_of (header_of frame)
    → least - 19 ≤ length (body_of frame)
body_length limit frame least whole enough = omega (arith, whole.whole, length-drop 19 frame)

pub each_message : (form : RouteForm) (limit : Limit) (frame : List ℕ) → IsFrame limit frame → (message : Message) × Says form frame message
each_message form limit frame whole = elim (type_of_frame limit frame whole) [
  | inl is ↦
      let fields : 10 ≤ length (body_of frame) = body_length limit frame 29 whole (least_holds limit (header_of frame) 1 whole.sound is) in
      let open_ : IsOpen frame = record { message = frame_is_message limit frame 1 whole is; fields = fields } in
      elim (each_open frame open_) [
        | inl well ↦ (open_message (open_of frame), (is, well, refl))
        | inr fault ↦ (malformed_open_message fault.0, (is, fault.1))
      ]
  | inr others ↦ elim others [
    | inl is ↦ elim (each_parts form frame (frame_is_message limit frame 2 whole is)) [
      | inl parts ↦ (update_message parts.0, (is, parts.1))
      | inr none ↦ (malformed_update_message, (is, none))
    ]
    | inr last ↦ elim last [
      | inl is ↦
          let fields : 2 ≤ length (body_of frame) = body_length limit frame 21 whole (least_holds limit (header_of frame) 3 whole.sound is) in
          let parts = two_first (body_of frame) fields in (
            notification_message parts.0 parts.1 parts.2,
            (is, record { message = frame_is_message limit frame 3 whole is; body = parts.3 }),
          )
      | inr is ↦ (keepalive_message, (is, frame_is_keepalive limit frame whole is))
    ]
  ]
]

pub each_say : (limit : Limit) (frames : List (List ℕ)) → All (IsFrame limit) frames → (messages : List Message) × Say frames messages
each_say limit [] each = ([], tt)
each_say limit (frame ∷ frames) each =
    let first = each_message plain_form limit frame (All-head (IsFrame limit) frame frames each) in
    let others = each_say limit frames (All-tail (IsFrame limit) frame frames each) in
    (first.0 ∷ others.0, (first.1, others.1))
