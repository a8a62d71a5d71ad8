-- Sets of subcodes of OPEN Message Error, subcode by subcode.
use Rattle.std.proofs.Common.{◌≡◌, ◌↔◌, Bool, true, false, IsTrue, ◌&&◌, ℕ, List, [], refl, inl, inr}
use Rattle.std.proofs.lemmas.Bool.{and_parts, and_from}
use Rattle.std.proofs.Math.Bool.{beq}
use Rattle.byteorder.specs.Endian.{big_bytes}
use Rattle.bgp_open.specs.declared.config.Config.{Config}
use Rattle.bgp_open.specs.declared.subcodes.OpenSubcodes.{OpenSubcodes}
use Rattle.bgp_open.specs.declared.fault.OpenFault.TheVariants.{Malformed, Version}
use Rattle.bgp_open.specs.Open.{open_of, parameters_of}
use Rattle.bgp_open.specs.OpenFault.{IsReadable, IsWellFormed, IsAnswered, AreAllCapabilities, open_fault_number}
use Rattle.bgp_open.specs.OpenSubcodes.{mandatory_faults, IsEmpty, IsValid, AreSubcodesOf, AreOfFields}
use Rattle.bgp_open.proofs.EachOpen.{each_octets, mandatory_fault}
use Rattle.bgp_open.proofs.LeastFault.{one_fault, readable_is_whole, readable_is_of_version}

-- the set of an OPEN whose fields can be told
pub of_readable : (config : Config) (octets : List ℕ) (alone : Bool) (subcodes : OpenSubcodes) → IsReadable octets
    → (IsTrue alone ↔ AreAllCapabilities (parameters_of octets)) → AreOfFields config (open_of octets) alone subcodes
    → AreSubcodesOf (mandatory_faults config octets) subcodes
of_readable config octets alone subcodes readable types each subcode detail = (
  λ named. elim named [
    | inl u ↦ absurd (each.unspecific u.1)
    | inr v ↦ elim v [
      | inl e ↦ absurd (each.version e.2)
      | inr p ↦ elim p [
        | inl e ↦ inr (inr (readable, inr (inl (e.0, each.peer_as.0 e.1))))
        | inr i ↦ elim i [
          | inl e ↦ inr (inr (readable, inr (inr (inl (e.0, each.identifier.0 e.1)))))
          | inr o ↦ elim o [
            | inl e ↦ inr (inr (readable, inl (e.0, λ all. each.parameter.0 e.1 (types.1 all))))
            | inr h ↦ elim h [
              | inl e ↦ inr (inr (readable, inr (inr (inr (e.0, each.hold.0 e.1)))))
              | inr c ↦ elim c [ inl e ↦ absurd (each.capability e.1) | inr e ↦ absurd (each.role e.1) ]
            ]
          ]
        ]
      ]
    ]
  ],
  λ fault. elim fault [
    | inl v ↦ absurd (readable_is_of_version octets readable v.2)
    | inr m ↦ elim m [
      | inl e ↦ absurd (readable_is_whole octets readable e.1)
      | inr r ↦ elim r.1 [
        | inl e ↦ inr (inr (inr (inr (inl (e.0, each.parameter.1 (λ is. e.1 (types.0 is)))))))
        | inr p ↦ elim p [
          | inl e ↦ inr (inr (inl (e.0, each.peer_as.1 e.1)))
          | inr i ↦ elim i [
            | inl e ↦ inr (inr (inr (inl (e.0, each.identifier.1 e.1))))
            | inr e ↦ inr (inr (inr (inr (inr (inl (e.0, each.hold.1 e.1))))))
          ]
        ]
      ]
    ]
  ],
)

-- the set of a malformed OPEN
pub of_malformed : (config : Config) (octets : List ℕ) → IsAnswered octets Malformed
    → AreSubcodesOf (mandatory_faults config octets)
    (record { unspecific = true; version = false; peer_as = true; identifier = true; parameter = true; hold = true; capability = true; role = false })
of_malformed config octets malformed subcode detail = (
  λ named. elim named [
    | inl u ↦ inr (inl (inl u.0, malformed))
    | inr v ↦ elim v [
      | inl e ↦ absurd (cc)
      | inr p ↦ elim p [
        | inl e ↦ inr (inl (inr (inl e.0), malformed))
        | inr i ↦ elim i [
          | inl e ↦ inr (inl (inr (inr (inl e.0)), malformed))
          | inr o ↦ elim o [
            | inl e ↦ inr (inl (inr (inr (inr (inl e.0))), malformed))
            | inr h ↦ elim h [
              | inl e ↦ inr (inl (inr (inr (inr (inr (inl e.0)))), malformed))
              | inr c ↦ elim c [ inl e ↦ inr (inl (inr (inr (inr (inr (inr e.0)))), malformed)) | inr e ↦ absurd (cc) ]
            ]
          ]
        ]
      ]
    ]
  ],
  λ fault. elim fault [
    | inl v ↦ absurd (let same = one_fault octets Malformed Version malformed v.2 in cc)
    | inr m ↦ elim m [
      | inl e ↦ elim e.0 [
        | inl u ↦ inl (u, refl)
        | inr p ↦ elim p [
          | inl a ↦ inr (inr (inl (a, refl)))
          | inr i ↦ elim i [
            | inl a ↦ inr (inr (inr (inl (a, refl))))
            | inr o ↦ elim o [
              | inl a ↦ inr (inr (inr (inr (inl (a, refl)))))
              | inr h ↦ elim h [
                | inl a ↦ inr (inr (inr (inr (inr (inl (a, refl))))))
                | inr a ↦ inr (inr (inr (inr (inr (inr (inl (a, refl)))))))
              ]
            ]
          ]
        ]
      ]
      | inr r ↦ absurd (readable_is_whole octets r.0 malformed)
    ]
  ],
)

no_beq : (b : Bool) → beq b false ≡ true → IsTrue b → ⊥
no_beq true e h = absurd (cc)
no_beq false e h = absurd (cc)

beq_no : (b : Bool) → (IsTrue b → ⊥) → beq b false ≡ true
beq_no true none = absurd (none refl)
beq_no false none = refl

-- no field is set exactly where nothing is named
pub free_is_none : (e : OpenSubcodes) → (IsTrue (beq e.unspecific false && (beq e.version false && (beq e.peer_as false
    && (beq e.identifier false && (beq e.parameter false && (beq e.hold false && (beq e.capability false && beq e.role false))))))) ↔ IsEmpty e)
free_is_none e = (
  λ none subcode detail named.
      let u = and_parts _ _ none in
      let v = and_parts _ _ u.1 in
      let p = and_parts _ _ v.1 in
      let i = and_parts _ _ p.1 in
      let o = and_parts _ _ i.1 in
      let h = and_parts _ _ o.1 in
      let c = and_parts _ _ h.1 in
      elim named [
        | inl a ↦ no_beq e.unspecific u.0 a.1
        | inr n1 ↦ elim n1 [
          | inl a ↦ no_beq e.version v.0 a.2
          | inr n2 ↦ elim n2 [
            | inl a ↦ no_beq e.peer_as p.0 a.1
            | inr n3 ↦ elim n3 [
              | inl a ↦ no_beq e.identifier i.0 a.1
              | inr n4 ↦ elim n4 [
                | inl a ↦ no_beq e.parameter o.0 a.1
                | inr n5 ↦ elim n5 [
                  | inl a ↦ no_beq e.hold h.0 a.1
                  | inr n6 ↦ elim n6 [ inl a ↦ no_beq e.capability c.0 a.1 | inr a ↦ no_beq e.role c.1 a.1 ]
                ]
              ]
            ]
          ]
        ]
      ],
  λ free.
      and_from _ _ (beq_no e.unspecific (λ t. free 0 [] (inl (refl, t))))
      (and_from _ _ (beq_no e.version (λ t. free 1 (big_bytes 2 4) (inr (inl (refl, refl, t)))))
      (and_from _ _ (beq_no e.peer_as (λ t. free 2 [] (inr (inr (inl (refl, t))))))
      (and_from _ _ (beq_no e.identifier (λ t. free 3 [] (inr (inr (inr (inl (refl, t)))))))
      (and_from _ _ (beq_no e.parameter (λ t. free 4 [] (inr (inr (inr (inr (inl (refl, t))))))))
      (and_from _ _ (beq_no e.hold (λ t. free 6 [] (inr (inr (inr (inr (inr (inl (refl, t)))))))))
      (and_from _ _ (beq_no e.capability (λ t. free 7 [] (inr (inr (inr (inr (inr (inr (inl (refl, t))))))))))
      (beq_no e.role (λ t. free 11 [] (inr (inr (inr (inr (inr (inr (inr (refl, t)))))))))))))))),
)

-- a set of the faults for which an OPEN has to be refused is empty exactly where it is valid
pub empty_if_valid : (config : Config) (octets : List ℕ) (subcodes : OpenSubcodes) → AreSubcodesOf (mandatory_faults config octets) subcodes
    → (IsEmpty subcodes ↔ IsValid config octets)
empty_if_valid config octets subcodes are = (
  λ empty subcode detail fault. empty subcode detail ((are subcode detail).1 fault),
  λ valid subcode detail named. valid subcode detail ((are subcode detail).0 named),
)

-- a valid OPEN is well-formed
pub valid_is_well_formed : (config : Config) (octets : List ℕ) → IsValid config octets → IsWellFormed octets
valid_is_well_formed config octets valid = elim (each_octets octets) [
  | inl well ↦ well
  | inr answered ↦ absurd (valid (open_fault_number answered.0) (big_bytes 2 4) (mandatory_fault config octets answered.0 answered.1))
]
