-- What a record of a capture holds is a frame, or has a header with faults.
use Rattle.std.proofs.Common.{◌≤◌, List, ℕ, length, sym, inl, inr}
use Rattle.std.proofs.lemmas.Bool.{cases_eq}
use Rattle.bgp_wire.specs.declared.header.Limit.{Limit}
use Rattle.bgp_wire.specs.Header.{IsSound, header_of, length_of}
use Rattle.bgp_wire.specs.Framing.{IsFrame}
use Rattle.mrt.specs.Rules.{HasOtherLength}

pub is_frame : (limit : Limit) (octets : List ℕ) → 19 ≤ length octets → (¬ HasOtherLength limit octets) → IsSound limit (header_of octets) → IsFrame limit octets
is_frame limit octets long whole sound = elim (cases_eq (length_of (header_of octets)) (length octets)) [
  | inl same ↦ record { header = long; sound = sound; whole = sym same }
  | inr other ↦ absurd (whole (long, sound, other))
]
