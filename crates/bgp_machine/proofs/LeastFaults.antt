-- The least fault of a set, of whichever kind of message its faults are.
use Rattle.std.proofs.Common.{◌≡◌, ◌≤◌, ℕ, List, [], Option, None, Some, IfSome, IfNone}
use Rattle.bgp_wire.specs.declared.header.HeaderFaults.{HeaderFaults}
use Rattle.bgp_wire.specs.declared.named_fault.NamedFault.{NamedFault}
use Rattle.bgp_wire.specs.Least.{IsLeastNamed}
use Rattle.bgp_wire.specs.Verdict.{Names as NamesHeaderFault, IsEmpty as IsEmptyHeader}
use Rattle.bgp_open.specs.declared.subcodes.OpenSubcodes.{OpenSubcodes}
use Rattle.bgp_open.specs.OpenSubcodes.{Names as NamesOpenError, IsEmpty as IsEmptyOpen}
use Rattle.bgp_rib.specs.DeclaredSubcodes.{Subcodes}
use Rattle.bgp_rib.specs.Subcodes.{HasSubcode}
use Rattle.bgp_machine.specs.declared.want.FaultSet.{FaultSet}
use Rattle.bgp_machine.specs.declared.want.FaultSet.TheVariants.{Header, Open, Update}
use Rattle.bgp_machine.specs.Want.{IsLeastFault, NamesFault}

-- the fault is the least of the set
abbrev pub IsLeastOf : FaultSet → NamedFault → Type 0
IsLeastOf faults fault = IsLeastFault faults fault.code fault.subcode fault.detail.items

-- no NOTIFICATION names a fault of the set
abbrev pub IsWithout : FaultSet → Type 0
IsWithout faults = (code subcode : ℕ) (detail : List ℕ) → ¬ NamesFault faults code subcode detail

pub least_of_header : (faults : HeaderFaults) (named : Option NamedFault)
    → IfSome named (λ fault. IsLeastNamed 1 (NamesHeaderFault faults) fault) → IfSome named (λ fault. IsLeastOf (Header faults) fault)
least_of_header faults None is = tt
least_of_header faults (Some fault) is = record {
  names = (is.code_is, is.named);
  least = λ code subcode detail other. is.least subcode detail other.1;
  without = λ bare. is.without bare.1;
}

pub none_of_header : (faults : HeaderFaults) (named : Option NamedFault) → IfNone named (IsEmptyHeader faults) → IfNone named (IsWithout (Header faults))
none_of_header faults None empty = λ code subcode detail names. empty subcode detail names.1
none_of_header faults (Some fault) empty = tt

pub least_of_open : (subcodes : OpenSubcodes) (named : Option NamedFault)
    → IfSome named (λ fault. IsLeastNamed 2 (NamesOpenError subcodes) fault) → IfSome named (λ fault. IsLeastOf (Open subcodes) fault)
least_of_open subcodes None is = tt
least_of_open subcodes (Some fault) is = record {
  names = (is.code_is, is.named);
  least = λ code subcode detail other. is.least subcode detail other.1;
  without = λ bare. is.without bare.1;
}

pub none_of_open : (subcodes : OpenSubcodes) (named : Option NamedFault) → IfNone named (IsEmptyOpen subcodes) → IfNone named (IsWithout (Open subcodes))
none_of_open subcodes None empty = λ code subcode detail names. empty subcode detail names.1
none_of_open subcodes (Some fault) empty = tt

pub least_of_update : (subcodes : Subcodes) (fault : NamedFault) (n : ℕ) → fault.code ≡ 3 → fault.subcode ≡ n → fault.detail.items ≡ []
    → HasSubcode subcodes n → ((m : ℕ) → HasSubcode subcodes m → n ≤ m) → IsLeastOf (Update subcodes) fault
least_of_update subcodes fault n code subcode detail has first = record {
  names = (code, rw subcode has);
  least = λ other m others named. rw subcode (first m named.1);
  without = λ bare. detail;
}

pub none_of_update : (subcodes : Subcodes) (named : Option NamedFault) → ((n : ℕ) → ¬ HasSubcode subcodes n) → IfNone named (IsWithout (Update subcodes))
none_of_update subcodes None none = λ code subcode detail names. none subcode names.1
none_of_update subcodes (Some fault) none = tt
