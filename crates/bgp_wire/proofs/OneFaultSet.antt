-- A header has one set of faults.
use Rattle.std.proofs.Common.{Bool, true, false, ◌≡◌, ℕ, List, [], Option, Some, None, is_some, IsTrue, refl, sym, inl, inr, arith}
use Rattle.byteorder.specs.Endian.{big_bytes}
use Rattle.bgp_wire.specs.declared.header.Limit.{Limit}
use Rattle.bgp_wire.specs.declared.header.HeaderFaults.{HeaderFaults}
use Rattle.bgp_wire.specs.Verdict.{Names, AreFaults}

-- booleans that are true together are one
pub same_bool : (b c : Bool) → (IsTrue b → IsTrue c) → (IsTrue c → IsTrue b) → b ≡ c
same_bool true true h k = refl
same_bool false false h k = refl
same_bool true false h k = sym (h refl)
same_bool false true h k = k refl

-- what one set of faults names, another of the same header names
named_by : (limit : Limit) (header : List ℕ) (faults others : HeaderFaults) → AreFaults limit header faults → AreFaults limit header others
    → (subcode : ℕ) (detail : List ℕ) → Names faults subcode detail → Names others subcode detail
named_by limit header faults others h k subcode detail names = (k subcode detail).1 ((h subcode detail).0 names)

marker_of : (faults others : HeaderFaults) → ((subcode : ℕ) (detail : List ℕ) → Names faults subcode detail → Names others subcode detail)
    → IsTrue faults.marker → IsTrue others.marker
marker_of faults others same holds = elim (same 1 [] (inl (refl, holds))) [
  | inl a ↦ a.1
  | inr b ↦ elim b [ inl c ↦ absurd (omega (arith, c.0)) | inr d ↦ absurd (omega (arith, d.0)) ]
]

length_of_faults : (faults others : HeaderFaults) → ((subcode : ℕ) (detail : List ℕ) → Names faults subcode detail → Names others subcode detail)
    → (o p : Option ℕ) → faults.length ≡ o → others.length ≡ p → IsTrue (is_some o) → IsTrue (is_some p)
length_of_faults faults others same None p e i holds = absurd (cc)
length_of_faults faults others same (Some n) (Some m) e i holds = refl
length_of_faults faults others same (Some n) None e i holds =
    elim (same 2 (big_bytes 2 n) (inr (inl (refl, rw e refl)))) [
      | inl a ↦ absurd (omega (arith, a.0))
      | inr b ↦ elim b [ inl c ↦ absurd (rw i at c.1) | inr d ↦ absurd (omega (arith, d.0)) ]
    ]

kind_of_faults : (faults others : HeaderFaults) → ((subcode : ℕ) (detail : List ℕ) → Names faults subcode detail → Names others subcode detail)
    → (o p : Option ℕ) → faults.kind ≡ o → others.kind ≡ p → IsTrue (is_some o) → IsTrue (is_some p)
kind_of_faults faults others same None p e i holds = absurd (cc)
kind_of_faults faults others same (Some n) (Some m) e i holds = refl
kind_of_faults faults others same (Some n) None e i holds =
    elim (same 3 (big_bytes 1 n) (inr (inr (refl, rw e refl)))) [
      | inl a ↦ absurd (omega (arith, a.0))
      | inr b ↦ elim b [ inl c ↦ absurd (omega (arith, c.0)) | inr d ↦ absurd (rw i at d.1) ]
    ]

-- two sets of one header's faults hold the same
pub same_fields : (limit : Limit) (header : List ℕ) (faults others : HeaderFaults) → AreFaults limit header faults
    → AreFaults limit header others
    → (faults.marker ≡ others.marker) × (is_some faults.length ≡ is_some others.length) × (is_some faults.kind ≡ is_some others.kind)
same_fields limit header faults others h k =
    let to = named_by limit header faults others h k in
    let from = named_by limit header others faults k h in (
      same_bool faults.marker others.marker (marker_of faults others to) (marker_of others faults from),
      same_bool (is_some faults.length) (is_some others.length)
          (length_of_faults faults others to faults.length others.length refl refl)
          (length_of_faults others faults from others.length faults.length refl refl),
      same_bool (is_some faults.kind) (is_some others.kind)
          (kind_of_faults faults others to faults.kind others.kind refl refl)
          (kind_of_faults others faults from others.kind faults.kind refl refl),
    )
