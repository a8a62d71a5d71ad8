-- What a check of a header answers: its Length and Type, or the set of its faults (RFC 4271, 6.1).
use Rattle.std.specs.Prelude.{◌≡◌, ◌↔◌, ◌⊎◌, ℕ, List, IsSome, IfSome, IsSomeAnd, IsTrue}
use Rattle.byteorder.specs.Endian.{big_bytes}
use Rattle.bgp_wire.specs.declared.header.Limit.{Limit}
use Rattle.bgp_wire.specs.declared.header.MessageType.{MessageType}
use Rattle.bgp_wire.specs.declared.header.MessageType.TheVariants.{Open, Update, Notification}
use Rattle.bgp_wire.specs.declared.header.MessageType.TheVariants.{Keepalive}
use Rattle.bgp_wire.specs.declared.header.HeaderFaults.{HeaderFaults}
use Rattle.bgp_wire.specs.declared.header.HeaderVerdict.{HeaderVerdict}
use Rattle.bgp_wire.specs.declared.header.HeaderVerdict.TheVariants.{Whole, Faulty}
use Rattle.bgp_wire.specs.Header.{HasHeaderFault, IsSound, length_of, type_of}
use Rattle.bgp_wire.specs.Header.{IsUnsynchronized, IsBadLength, IsBadType}

-- the Type code of each kind of message (4.1)
abbrev pub type_code : MessageType → ℕ
type_code Open = 1
type_code Update = 2
type_code Notification = 3
type_code Keepalive = 4

-- a NOTIFICATION with this subcode and these data names a fault of the set; for an unsynchronized
-- marker any data do
abbrev pub Names : HeaderFaults → ℕ → List ℕ → Type 0
Names faults subcode detail =
    ((subcode ≡ 1) × IsTrue faults.marker)
    ⊎ ((subcode ≡ 2) × IsSomeAnd faults.length (λ count. detail ≡ big_bytes 2 count))
    ⊎ ((subcode ≡ 3) × IsSomeAnd faults.kind (λ kind. detail ≡ big_bytes 1 kind))

-- no fault is in the set
abbrev pub IsEmpty : HeaderFaults → Type 0
IsEmpty faults = (subcode : ℕ) (detail : List ℕ) → ¬ Names faults subcode detail

-- field by field: a fault is in the set exactly where the header has it, with what the header holds
pub record AreEachFault (limit : Limit) (header : List ℕ) (faults : HeaderFaults) : Type 0 where
  pub marker : IsTrue faults.marker ↔ IsUnsynchronized header
  pub bad_length : IsSome faults.length ↔ IsBadLength limit (type_of header) (length_of header)
  pub length_field : IfSome faults.length (λ count. count ≡ length_of header)
  pub bad_type : IsSome faults.kind ↔ IsBadType (type_of header)
  pub type_field : IfSome faults.kind (λ kind. kind ≡ type_of header)

-- the set is that of the header's faults
abbrev pub AreFaults : Limit → List ℕ → HeaderFaults → Type 0
AreFaults limit header faults =
    (subcode : ℕ) (detail : List ℕ)
    → (Names faults subcode detail ↔ HasHeaderFault limit header subcode detail)

-- the Length and the Type of a header without a fault, or else the set of its faults
abbrev pub IsVerdict : Limit → List ℕ → HeaderVerdict → Type 0
IsVerdict limit header (Whole count kind) =
    IsSound limit header × (count ≡ length_of header) × (type_code kind ≡ type_of header)
IsVerdict limit header (Faulty faults) = (¬ IsSound limit header) × AreFaults limit header faults

-- field by field, where it is the set of the faults: it is then the only such set
abbrev pub IsEachFault : Limit → List ℕ → HeaderVerdict → Type 0
IsEachFault limit header (Whole count kind) = Unit {0}
IsEachFault limit header (Faulty faults) = AreEachFault limit header faults
