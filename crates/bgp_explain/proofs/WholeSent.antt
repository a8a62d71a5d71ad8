-- What a message is that was sent, by a check of its header.
use Rattle.std.proofs.Common.{◌≡◌, ◌≢◌, ◌∙◌, ◌⊎◌, ◌≤◌, ℕ, List, length, ap, sym, subst, inl, inr, arith}
use Rattle.bgp_wire.specs.declared.header.Limit.{Limit}
use Rattle.bgp_wire.specs.Framing.{IsFrame}
use Rattle.bgp_wire.specs.Header.{IsSound, header_of, type_of}
use Rattle.mrt.specs.Rules.{HasOtherLength}
use Rattle.bgp_text.proofs.CaptureMessages.{is_frame}
use Rattle.bgp_text.proofs.EachMessage.{each_message}
use Rattle.bgp_text.specs.Message as said
use Rattle.bgp_open.specs.Notification.{IsNotification}
use Rattle.bgp_open.specs.RouteForm.{plain_form}
use Rattle.bgp_values.specs.declared.opens.Reading.{Reading}
use Rattle.bgp_why.specs.Lacks.{IsWholeOf}
use Rattle.bgp_explain.specs.SentLine.{IsErrorLine, IsOctetsLine, IsWordsLine}

-- a frame of type 3 is a NOTIFICATION
says_one : (frame : List ℕ) (message : said.Message) → said.Says plain_form frame message → type_of (header_of frame) ≡ 3
    → (code subcode : ℕ) × (detail : List ℕ) × IsNotification frame code subcode detail
says_one frame (said.open_message f) says is = absurd (omega (arith, says.0, is))
says_one frame (said.malformed_open_message f) says is = absurd (omega (arith, says.0, is))
says_one frame (said.update_message p) says is = absurd (omega (arith, says.0, is))
says_one frame said.malformed_update_message says is = absurd (omega (arith, says.0, is))
says_one frame (said.notification_message c s d) says is = (c, s, d, says.1)
says_one frame said.keepalive_message says is = absurd (omega (arith, says.0, is))

module _ (limit : Limit) (octets header : List ℕ) (long : 19 ≤ length octets) (whole : ¬ HasOtherLength limit octets) (at_front : header ≡ header_of octets) where
  sound_there : IsSound limit header → IsSound limit (header_of octets)
  sound_there sound = subst (λ (o : List ℕ). IsSound limit o) at_front sound

  module _ (kind : ℕ) (sound : IsSound limit header) (of_kind : kind ≡ type_of header) where
    kind_there : type_of (header_of octets) ≡ kind
    kind_there = sym (ap type_of at_front) ∙ sym of_kind

    pub whole_of : IsWholeOf limit kind octets
    whole_of = (is_frame limit octets long whole (sound_there sound), kind_there)

    pub not_of : (other : ℕ) → kind ≢ other → ¬ IsWholeOf limit other octets
    not_of other differs is = differs (sym kind_there ∙ is.1)

    pub is_notification : kind ≡ 3 → (code subcode : ℕ) × (detail : List ℕ) × IsNotification octets code subcode detail
    is_notification three =
        let frame = is_frame limit octets long whole (sound_there sound) in
        let says = each_message plain_form limit octets frame in
        says_one octets says.0 says.1 (kind_there ∙ three)

  pub faulty_of : (other : ℕ) → ¬ IsSound limit header → ¬ IsWholeOf limit other octets
  faulty_of other none is = none (subst (λ (o : List ℕ). IsSound limit o) (sym at_front) is.0.sound)
