-- The least subcode of a set of faults of an OPEN.
use Rattle.std.proofs.Common.{◌≡◌, ◌∙◌, ◌<◌, ◌+◌, ◌≤◌, ℕ, List, [], refl, subst, inl, inr, arith}
use Rattle.std.proofs.lemmas.Bool.{cases_lt, cases_eq}
use Rattle.bgp_wire.specs.declared.named_fault.NamedFault.{NamedFault}
use Rattle.bgp_wire.specs.Least.{IsLeastNamed}
use Rattle.bgp_open.specs.declared.subcodes.OpenSubcodes.{OpenSubcodes}
use Rattle.bgp_open.specs.OpenSubcodes.{Names, IsEmpty, detail_of}

-- what is named is named with its data
pub named_with : (subcodes : OpenSubcodes) (n : ℕ) (detail : List ℕ) → Names subcodes n detail → Names subcodes n (detail_of n)
named_with subcodes n detail named = elim named [
  | inl a ↦ inl a
  | inr b ↦ elim b [
    | inl c ↦ inr (inl (c.0, rw c.0 refl, c.2))
    | inr d ↦ inr (inr d)
  ]
]

-- a subcode is below 12
pub below_12 : (subcodes : OpenSubcodes) (n : ℕ) (detail : List ℕ) → Names subcodes n detail → n < 12
below_12 subcodes n detail named = elim named [
  | inl a ↦ omega (arith, a.0)
  | inr b ↦ elim b [
    | inl c ↦ omega (arith, c.0)
    | inr d ↦ elim d [
      | inl e ↦ omega (arith, e.0)
      | inr f ↦ elim f [
        | inl g ↦ omega (arith, g.0)
        | inr h ↦ elim h [
          | inl i ↦ omega (arith, i.0)
          | inr j ↦ elim j [
            | inl k ↦ omega (arith, k.0)
            | inr l ↦ elim l [ inl o ↦ omega (arith, o.0) | inr q ↦ omega (arith, q.0) ]
          ]
        ]
      ]
    ]
  ]
]

-- one that may be named without data has none
pub without_data : (subcodes : OpenSubcodes) (n : ℕ) → Names subcodes n [] → detail_of n ≡ []
without_data subcodes n named = elim named [
  | inl a ↦ rw a.0 refl
  | inr b ↦ elim b [
    | inl c ↦ let bad = c.1 in absurd (cc)
    | inr d ↦ elim d [
      | inl e ↦ rw e.0 refl
      | inr f ↦ elim f [
        | inl g ↦ rw g.0 refl
        | inr h ↦ elim h [
          | inl i ↦ rw i.0 refl
          | inr j ↦ elim j [
            | inl k ↦ rw k.0 refl
            | inr l ↦ elim l [ inl o ↦ rw o.0 refl | inr q ↦ rw q.0 refl ]
          ]
        ]
      ]
    ]
  ]
]

-- no subcode below this one is named
abbrev pub IsNoneBelow : OpenSubcodes → ℕ → Type 0
IsNoneBelow subcodes n = (m : ℕ) (detail : List ℕ) → m < n → ¬ Names subcodes m detail

-- the first that is named is the least
pub first_is_least : (subcodes : OpenSubcodes) (fault : NamedFault) (n : ℕ) (detail : List ℕ)
    → fault.code ≡ 2 → fault.subcode ≡ n → fault.detail.items ≡ detail → detail ≡ detail_of n
    → Names subcodes n detail → IsNoneBelow subcodes n → IsLeastNamed 2 (Names subcodes) fault
first_is_least subcodes fault n detail code subcode items fixed named before = record {
  code_is = code;
  named = rw (subcode, items) named;
  least = λ m others other. elim (cases_lt m n) [
    | inl below ↦ absurd (before m others below other)
    | inr above ↦ omega (arith, above, subcode)
  ];
  without = λ bare. items ∙ fixed ∙ without_data subcodes n (subst (λ (m : ℕ). Names subcodes m []) subcode bare);
}

-- where one isn't named with its data, it isn't named
pub one_more : (subcodes : OpenSubcodes) (n : ℕ) (detail : List ℕ) → detail ≡ detail_of n
    → ¬ Names subcodes n detail → IsNoneBelow subcodes n → IsNoneBelow subcodes (n + 1)
one_more subcodes n detail fixed not_named before = λ m others below named. elim (cases_eq m n) [
  | inl same ↦
      not_named (rw fixed (named_with subcodes n others (subst (λ (m : ℕ). Names subcodes m others) same named)))
  | inr other ↦ before m others (omega arith) named
]

-- where none below 12 is named, none is
pub none_at_all : (subcodes : OpenSubcodes) (n : ℕ) → 12 ≤ n → IsNoneBelow subcodes n → IsEmpty subcodes
none_at_all subcodes n most before = λ m detail named. before m detail (omega (arith, below_12 subcodes m detail named)) named
