-- The name of a message, by what its octets say.
use Rattle.std.proofs.Common.{◌≡◌, ◌≤◌, ◌⊎◌, ℕ, List, inl, inr, refl, arith, length}
use Rattle.bgp_wire.specs.declared.header.HeaderFaults.{HeaderFaults}
use Rattle.bgp_wire.specs.declared.header.Limit.{Limit}
use Rattle.bgp_wire.specs.Framing.{IsFaulty, IsFrame}
use Rattle.bgp_wire.specs.Header.{IsSound, header_of, type_of}
use Rattle.bgp_wire.specs.Verdict.{AreEachFault}
use Rattle.bgp_open.specs.Notification.{IsNotification}
use Rattle.bgp_open.specs.declared.route_form.RouteForm.{RouteForm}
use Rattle.bgp_text.specs.Message as said
use Rattle.bgp_wire.proofs.EachFraming.{sound_or_not}
use Rattle.mrt.specs.Rules.{HasOtherLength}
use Rattle.bgp_text.proofs.CaptureMessages.{is_frame}
use Rattle.bgp_text.proofs.EachMessage.{each_message}
use Rattle.bgp_why.specs.declared.message.MessageName.{MessageName}
use Rattle.bgp_why.specs.declared.message.MessageName.TheVariants as names
use Rattle.bgp_why.specs.Message.{IsNamed, name_of}

-- a frame of type 3 says a NOTIFICATION
pub no_notification : (form : RouteForm) (frame : List ℕ) (message : said.Message) → said.Says form frame message → type_of (header_of frame) ≡ 3
    → ((code subcode : ℕ) (detail : List ℕ) → ¬ IsNotification frame code subcode detail) → ⊥
no_notification form frame (said.open_message f) says is none = omega (arith, says.0, is)
no_notification form frame (said.malformed_open_message f) says is none = omega (arith, says.0, is)
no_notification form frame (said.update_message p) says is none = omega (arith, says.0, is)
no_notification form frame said.malformed_update_message says is none = omega (arith, says.0, is)
no_notification form frame (said.notification_message c s d) says is none = none c s d says.1
no_notification form frame said.keepalive_message says is none = omega (arith, says.0, is)

-- and one of type 4 a KEEPALIVE
pub keepalive_named : (form : RouteForm) (frame : List ℕ) (message : said.Message) → said.Says form frame message → type_of (header_of frame) ≡ 4
    → names.Keepalive ≡ name_of message
keepalive_named form frame (said.open_message f) says is = absurd (omega (arith, says.0, is))
keepalive_named form frame (said.malformed_open_message f) says is = absurd (omega (arith, says.0, is))
keepalive_named form frame (said.update_message p) says is = absurd (omega (arith, says.0, is))
keepalive_named form frame said.malformed_update_message says is = absurd (omega (arith, says.0, is))
keepalive_named form frame (said.notification_message c s d) says is = absurd (omega (arith, says.0, is))
keepalive_named form frame said.keepalive_message says is = refl

-- what is a frame or has a faulty header has a header
pub long_enough : (limit : Limit) (octets : List ℕ) → IsFrame limit octets ⊎ IsFaulty limit octets → 19 ≤ length octets
long_enough limit octets (inl frame) = frame.header
long_enough limit octets (inr faulty) = faulty.0

-- a frame has the name of what it says
pub whole_named : (form : RouteForm) (limit : Limit) (octets : List ℕ) (name : MessageName) → IsSound limit (header_of octets)
    → IsFrame limit octets ⊎ IsFaulty limit octets → ((message : said.Message) → said.Says form octets message → name ≡ name_of message)
    → IsNamed form limit octets name
whole_named form limit octets name sound (inl frame) named =
    let says = each_message form limit octets frame in
    inl (frame, (says.0, says.1, named says.0 says.1))
whole_named form limit octets name sound (inr faulty) named = absurd (faulty.1 sound)

-- a faulty header is named by its faults
pub faulty_named : (form : RouteForm) (limit : Limit) (octets : List ℕ) (faults : HeaderFaults) → (¬ IsSound limit (header_of octets))
    → AreEachFault limit (header_of octets) faults → IsFrame limit octets ⊎ IsFaulty limit octets
    → IsNamed form limit octets (names.FaultyHeader faults)
faulty_named form limit octets faults none are (inl frame) = absurd (none frame.sound)
faulty_named form limit octets faults none are (inr faulty) = inr (faulty, (faults, are, refl))

-- what a capture can hold is one or the other
pub frame_or_faulty : (limit : Limit) (octets : List ℕ) → 19 ≤ length octets → (¬ HasOtherLength limit octets) → IsFrame limit octets ⊎ IsFaulty limit octets
frame_or_faulty limit octets long whole = elim (sound_or_not limit (header_of octets)) [
  | inl sound ↦ inl (is_frame limit octets long whole sound)
  | inr none ↦ inr (long, none)
]
