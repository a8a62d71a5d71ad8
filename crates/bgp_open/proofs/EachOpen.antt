-- Octets are a well-formed OPEN or have a fault that is answered, which is the least.
use Rattle.std.proofs.Common.{◌≡◌, ◌⊎◌, ◌≤◌, ℕ, List, length, inl, inr, refl, arith}
use Rattle.std.proofs.lemmas.Bool.{cases_eq, cases_lt}
use Rattle.bgp_wire.specs.Header.{header_of, type_of, length_of}
use Rattle.bgp_wire.specs.Message.{IsMessage, body_of}
use Rattle.bgp_wire.proofs.Decided.{Either, decided_all, decided_equal}
use Rattle.bgp_wire.proofs.EachFraming.{marker_or_not}
use Rattle.bgp_open.specs.declared.fault.OpenFault.{OpenFault}
use Rattle.bgp_open.specs.declared.fault.OpenFault.TheVariants.{Malformed, Version, Parameter}
use Rattle.bgp_open.specs.Triplet.{Triplet, IsWhole, triplets_octets, triplets_of}
use Rattle.bgp_open.specs.Open.{IsOpen, fixed_fields_of, parameters_of, version_of, parameters_length_of}
use Rattle.bgp_open.specs.OpenFault.{HasWholeCapabilities, AreParameters, IsWellFormed, IsAnswered}
use Rattle.bgp_open.specs.OpenFault.{IsOtherVersion, HasOpenFault, IsReadable, open_fault_number}
use Rattle.bgp_open.specs.OpenSubcodes.{mandatory_faults}
use Rattle.bgp_open.specs.declared.config.Config.{Config}
use Rattle.byteorder.specs.Endian.{big_bytes}

whole_or_not : (octets : List ℕ) → Either (IsWhole octets)
whole_or_not octets = decided_equal (triplets_octets (triplets_of octets)) octets

capabilities_or_not : (parameter : Triplet) → Either (HasWholeCapabilities parameter)
capabilities_or_not parameter = elim (cases_eq parameter.code 2) [
  | inr other ↦ inl (λ is. absurd (other is))
  | inl is ↦ elim (whole_or_not parameter.value) [
    | inl whole ↦ inl (λ _. whole)
    | inr cut ↦ inr (λ has. cut (has is))
  ]
]

parameters_or_not : (octets : List ℕ) → Either (AreParameters octets)
parameters_or_not octets = elim (whole_or_not octets) [
  | inr cut ↦ inr (λ are. cut are.0)
  | inl whole ↦ elim (decided_all HasWholeCapabilities capabilities_or_not (triplets_of octets)) [
    | inl each ↦ inl (whole, each)
    | inr broken ↦ inr (λ are. broken are.1)
  ]
]

-- an OPEN is well-formed, or has a fault that is answered
pub each_open : (octets : List ℕ) → IsOpen octets → IsWellFormed octets ⊎ ((fault : OpenFault) × IsAnswered octets fault)
each_open octets whole = elim (cases_eq (version_of (fixed_fields_of octets)) 4) [
  | inr other ↦ inr (Version, (whole, other))
  | inl four ↦ elim (cases_eq (parameters_length_of (fixed_fields_of octets)) (length (parameters_of octets))) [
    | inr differ ↦ inr (Malformed, inr (λ other. other four, inl differ))
    | inl same ↦ elim (parameters_or_not (parameters_of octets)) [
      | inr broken ↦ inr (Malformed, inr (λ other. other four, inr broken))
      | inl are ↦
          elim (decided_all (λ (p : Triplet). p.code ≡ 2) (λ p. cases_eq p.code 2) (triplets_of (parameters_of octets))) [
            | inl types ↦
                inl (record { readable = record { whole = whole; version = four; count = same; parameters = are }; types = types })
            | inr another ↦ inr (
              Parameter,
              (
                whole,
                λ other. other four,
                λ malformed. elim malformed [ inl differ ↦ differ same | inr broken ↦ broken are ],
                another,
              ),
            )
          ]
    ]
  ]
]

-- octets are a message of a type or not
message_or_not : (kind : ℕ) (octets : List ℕ) → Either (IsMessage kind octets)
message_or_not kind octets = elim (cases_lt (length octets) 19) [
  | inl less ↦ inr (λ m. let enough = m.header in omega arith)
  | inr header ↦ elim (marker_or_not (header_of octets)) [
    | inr broken ↦ inr (λ m. broken m.marker)
    | inl marker ↦ elim (cases_eq (length_of (header_of octets)) (length octets)) [
      | inr other ↦ inr (λ m. other m.count)
      | inl count ↦ elim (cases_eq (type_of (header_of octets)) kind) [
        | inr another ↦ inr (λ m. another m.type_field)
        | inl is ↦ inl (record { header = header; marker = marker; count = count; type_field = is })
      ]
    ]
  ]
]

-- octets are a whole OPEN or not
open_or_not : (octets : List ℕ) → Either (IsOpen octets)
open_or_not octets = elim (message_or_not 1 octets) [
  | inr none ↦ inr (λ o. none o.message)
  | inl message ↦ elim (cases_lt (length (body_of octets)) 10) [
    | inl less ↦ inr (λ o. let enough = o.fields in omega arith)
    | inr fields ↦ inl (record { message = message; fields = fields })
  ]
]

pub each_octets : (octets : List ℕ) → IsWellFormed octets ⊎ ((fault : OpenFault) × IsAnswered octets fault)
each_octets octets = elim (open_or_not octets) [
  | inl whole ↦ each_open octets whole
  | inr none ↦ inr (Malformed, inl none)
]

-- the fault that is answered of an OPEN of version 4 is the least that it has
pub least_fault : (octets : List ℕ) (fault other : OpenFault) → IsOpen octets → (¬ IsOtherVersion octets)
    → IsAnswered octets fault → HasOpenFault octets other → HasOpenFault octets fault × (open_fault_number fault ≤ open_fault_number other)
least_fault octets Malformed other whole four h k = elim h [
  | inl none ↦ absurd (none whole)
  | inr has ↦ (has.1, omega arith)
]
least_fault octets Version other whole four h k = absurd (four h.1)
least_fault octets Parameter Malformed whole four h k = absurd (h.2 k)
least_fault octets Parameter Version whole four h k = absurd (four k)
least_fault octets Parameter Parameter whole four h k = (h.3, omega arith)

-- an OPEN with a parameter of another type and no lesser fault is readable
readable_with_other : (octets : List ℕ) → IsAnswered octets Parameter → IsReadable octets
readable_with_other octets h = elim (cases_eq (version_of (fixed_fields_of octets)) 4) [
  | inr other ↦ absurd (h.1 other)
  | inl four ↦ elim (cases_eq (parameters_length_of (fixed_fields_of octets)) (length (parameters_of octets))) [
    | inr differ ↦ absurd (h.2 (inl differ))
    | inl same ↦ elim (parameters_or_not (parameters_of octets)) [
      | inr broken ↦ absurd (h.2 (inr broken))
      | inl are ↦ record { whole = h.0; version = four; count = same; parameters = are }
    ]
  ]
]

-- for the fault that is answered the OPEN has to be refused
pub mandatory_fault : (config : Config) (octets : List ℕ) (fault : OpenFault) → IsAnswered octets fault
    → mandatory_faults config octets (open_fault_number fault) (big_bytes 2 4)
mandatory_fault config octets Malformed h = inr (inl (inl refl, h))
mandatory_fault config octets Version h = inl (refl, refl, h)
mandatory_fault config octets Parameter h = inr (inr (readable_with_other octets h, inl (refl, h.3)))
