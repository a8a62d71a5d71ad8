-- The fault of a set that a NOTIFICATION names first (RFC 4271, 4.5 and 6).
use Rattle.std.specs.Prelude.{◌≡◌, ◌≤◌, ℕ, List, []}
use Rattle.bgp_wire.specs.declared.named_fault.NamedFault.{NamedFault}

-- Of the faults that have this code, and that these subcodes with these data name, it is the one
-- with the least subcode, without data where it may be named without
pub record IsLeastNamed (code : ℕ) (Names : ℕ → List ℕ → Type 0) (fault : NamedFault) : Type 0 where
  pub code_is : fault.code ≡ code
  pub named : Names fault.subcode fault.detail.items
  pub least : (subcode : ℕ) (detail : List ℕ) → Names subcode detail → fault.subcode ≤ subcode
  pub without : Names fault.subcode [] → fault.detail.items ≡ []
