-- An OPEN with a parameter of another type and no lesser fault is readable.
use Rattle.std.proofs.Common.{ℕ, List, inl, inr, length}
use Rattle.std.proofs.lemmas.Bool.{cases_eq}
use Rattle.bgp_wire.proofs.Decided.{Either, decided_all, decided_equal}
use Rattle.bgp_open.specs.declared.fault.OpenFault.{OpenFault}
use Rattle.bgp_open.specs.declared.fault.OpenFault.TheVariants.{Malformed, Version, Parameter}
use Rattle.bgp_open.specs.Triplet.{Triplet, IsWhole, triplets_octets, triplets_of}
use Rattle.bgp_open.specs.Open.{fixed_fields_of, parameters_of, version_of, parameters_length_of}
use Rattle.bgp_open.specs.OpenFault.{HasWholeCapabilities, AreParameters, IsAnswered, IsReadable}
use Rattle.bgp_open.proofs.EachOpen.{each_octets}
use Rattle.bgp_open.proofs.LeastFault.{readable_is_of_version, readable_is_whole}

whole_or_not : (octets : List ℕ) → Either (IsWhole octets)
whole_or_not octets = decided_equal (triplets_octets (triplets_of octets)) octets

capabilities_or_not : (parameter : Triplet) → Either (HasWholeCapabilities parameter)
capabilities_or_not parameter = elim (cases_eq parameter.code 2) [
  | inr other ↦ inl (λ is. absurd (other is))
  | inl is ↦ elim (whole_or_not parameter.value) [ inl whole ↦ inl (λ _. whole) | inr cut ↦ inr (λ has. cut (has is)) ]
]

parameters_or_not : (octets : List ℕ) → Either (AreParameters octets)
parameters_or_not octets = elim (whole_or_not octets) [
  | inr cut ↦ inr (λ are. cut are.0)
  | inl whole ↦ elim (decided_all HasWholeCapabilities capabilities_or_not (triplets_of octets)) [
    | inl each ↦ inl (whole, each)
    | inr broken ↦ inr (λ are. broken are.1)
  ]
]

pub readable_with_other : (octets : List ℕ) → IsAnswered octets Parameter → IsReadable octets
readable_with_other octets h = elim (cases_eq (version_of (fixed_fields_of octets)) 4) [
  | inr other ↦ absurd (h.1 other)
  | inl four ↦ elim (cases_eq (parameters_length_of (fixed_fields_of octets)) (length (parameters_of octets))) [
    | inr differ ↦ absurd (h.2 (inl differ))
    | inl same ↦ elim (parameters_or_not (parameters_of octets)) [
      | inr broken ↦ absurd (h.2 (inr broken))
      | inl are ↦ record { whole = h.0; version = four; count = same; parameters = are }
    ]
  ]
]

-- its fields can be told or not
readable_if : (octets : List ℕ) (fault : OpenFault) → IsAnswered octets fault → Either (IsReadable octets)
readable_if octets Malformed h = inr (λ readable. readable_is_whole octets readable h)
readable_if octets Version h = inr (λ readable. readable_is_of_version octets readable h)
readable_if octets Parameter h = inl (readable_with_other octets h)

pub readable_or_not : (octets : List ℕ) → Either (IsReadable octets)
readable_or_not octets = elim (each_octets octets) [
  | inl well ↦ inl well.readable
  | inr answered ↦ readable_if octets answered.0 answered.1
]
