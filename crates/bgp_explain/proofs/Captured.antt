-- What the octets of a message are that a capture can hold.
use Rattle.std.proofs.Common.{◌≤◌, ◌⊎◌, ℕ, List, inl, inr, length}
use Rattle.bgp_wire.specs.declared.header.Limit.{Limit}
use Rattle.bgp_wire.specs.Framing.{IsFaulty, IsFrame}
use Rattle.bgp_wire.specs.Header.{header_of}
use Rattle.bgp_wire.proofs.EachFraming.{sound_or_not}
use Rattle.mrt.specs.Rules.{HasOtherLength}
use Rattle.bgp_text.proofs.CaptureMessages.{is_frame}

-- a frame, or they begin with a faulty header
pub frame_or_faulty : (limit : Limit) (octets : List ℕ) → 19 ≤ length octets → (¬ HasOtherLength limit octets) → IsFrame limit octets ⊎ IsFaulty limit octets
frame_or_faulty limit octets long whole = elim (sound_or_not limit (header_of octets)) [
  | inl sound ↦ inl (is_frame limit octets long whole sound)
  | inr none ↦ inr (long, none)
]

-- and then they have a header
pub long_enough : (limit : Limit) (octets : List ℕ) → IsFrame limit octets ⊎ IsFaulty limit octets → 19 ≤ length octets
long_enough limit octets (inl frame) = frame.header
long_enough limit octets (inr faulty) = faulty.0
