-- The fields of an OPEN that may be missing can be told or not.
use Rattle.std.proofs.Common.{ℕ, List, Option, None, Some, inl, inr, refl}
use Rattle.bgp_open.specs.Open.{OpenFields, open_of}
use Rattle.bgp_parts.proofs.ReadableOpen.{readable_or_not}
use Rattle.bgp_check.specs.WidestOf.{AreTold}

pub told_of : (octets : Option (List ℕ)) → (told : Option OpenFields) × AreTold octets told
told_of None = (None, refl)
told_of (Some octets) = elim (readable_or_not octets) [
  | inl readable ↦ (Some (open_of octets), inl (readable, refl))
  | inr never ↦ (None, inr (never, refl))
]
