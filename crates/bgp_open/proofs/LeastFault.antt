-- Which fault of an OPEN is answered.
use Rattle.std.proofs.Common.{◌≡◌, ℕ, List, inl, inr, refl}
use Rattle.bgp_open.specs.OpenFault.{HasOtherParameter, IsAnswered, IsReadable, IsWellFormed}
use Rattle.bgp_open.specs.declared.fault.OpenFault.{OpenFault}
use Rattle.bgp_open.specs.declared.fault.OpenFault.TheVariants.{Malformed, Version, Parameter}

-- a parameter of another type is answered where no other fault holds
pub answers_parameter : (octets : List ℕ) → IsReadable octets → HasOtherParameter octets → IsAnswered octets Parameter
answers_parameter octets readable other = (
  readable.whole,
  λ not_so. not_so readable.version,
  λ malformed. elim malformed [ inl not_so ↦ not_so readable.count | inr not_so ↦ not_so readable.parameters ],
  other,
)

-- a readable OPEN isn't malformed, nor of another version
pub readable_is_whole : (octets : List ℕ) → IsReadable octets → IsAnswered octets Malformed → ⊥
readable_is_whole octets readable h = elim h [
  | inl none ↦ none readable.whole
  | inr has ↦ elim has.1 [ inl count ↦ count readable.count | inr parameters ↦ parameters readable.parameters ]
]

pub readable_is_of_version : (octets : List ℕ) → IsReadable octets → IsAnswered octets Version → ⊥
readable_is_of_version octets readable h = h.1 readable.version

-- one fault is answered
pub one_fault : (octets : List ℕ) (fault other : OpenFault) → IsAnswered octets fault → IsAnswered octets other → fault ≡ other
one_fault octets Malformed Malformed h k = refl
one_fault octets Malformed Version h k = elim h [ inl none ↦ absurd (none k.0) | inr has ↦ absurd (has.0 k.1) ]
one_fault octets Malformed Parameter h k = elim h [ inl none ↦ absurd (none k.0) | inr has ↦ absurd (k.2 has.1) ]
one_fault octets Version Malformed h k = elim k [ inl none ↦ absurd (none h.0) | inr has ↦ absurd (has.0 h.1) ]
one_fault octets Version Version h k = refl
one_fault octets Version Parameter h k = absurd (k.1 h.1)
one_fault octets Parameter Malformed h k = elim k [ inl none ↦ absurd (none h.0) | inr has ↦ absurd (h.2 has.1) ]
one_fault octets Parameter Version h k = absurd (h.1 k.1)
one_fault octets Parameter Parameter h k = refl

-- no fault is answered of a well-formed OPEN
pub none_if_well_formed : (octets : List ℕ) (fault : OpenFault) → IsWellFormed octets → IsAnswered octets fault → ⊥
none_if_well_formed octets Malformed well h = readable_is_whole octets well.readable h
none_if_well_formed octets Version well h = readable_is_of_version octets well.readable h
none_if_well_formed octets Parameter well h = h.3 well.types
