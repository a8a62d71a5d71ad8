-- Sets of subcodes of OPEN Message Error are told by what they name, and unite.
use Rattle.std.proofs.Common.{◌≡◌, ◌↔◌, ◌⊎◌, ◌∙◌, ◌||◌, Bool, true, false, IsTrue, ℕ, List, [], refl, ap, inl, inr, arith}
use Rattle.byteorder.specs.Endian.{big_bytes}
use Rattle.bgp_wire.proofs.OneFaultSet.{same_bool}
use Rattle.bgp_open.specs.declared.subcodes.OpenSubcodes.{OpenSubcodes}
use Rattle.bgp_open.specs.OpenSubcodes.{Names, AreSubcodesOf, union}

or_parts : (a b : Bool) → IsTrue (a || b) → IsTrue a ⊎ IsTrue b
or_parts true b h = inl refl
or_parts false b h = inr h

or_left : (a b : Bool) → IsTrue a → IsTrue (a || b)
or_left true b h = refl
or_left false b h = absurd (cc)

or_right : (a b : Bool) → IsTrue b → IsTrue (a || b)
or_right true b h = refl
or_right false b h = h

unspecific_named : (s : OpenSubcodes) → Names s 0 [] → IsTrue s.unspecific
unspecific_named s h = elim h [ inl x0 ↦ x0.1 | inr r0 ↦ elim r0 [ inl x1 ↦ absurd (omega (arith, x1.0)) | inr r1 ↦ elim r1 [ inl x2 ↦ absurd (omega (arith, x2.0)) | inr r2 ↦ elim r2 [ inl x3 ↦ absurd (omega (arith, x3.0)) | inr r3 ↦ elim r3 [ inl x4 ↦ absurd (omega (arith, x4.0)) | inr r4 ↦ elim r4 [ inl x5 ↦ absurd (omega (arith, x5.0)) | inr r5 ↦ elim r5 [ inl x6 ↦ absurd (omega (arith, x6.0)) | inr r6 ↦ absurd (omega (arith, r6.0)) ] ] ] ] ] ] ]

version_named : (s : OpenSubcodes) → Names s 1 (big_bytes 2 4) → IsTrue s.version
version_named s h = elim h [ inl x0 ↦ absurd (omega (arith, x0.0)) | inr r0 ↦ elim r0 [ inl x1 ↦ x1.2 | inr r1 ↦ elim r1 [ inl x2 ↦ absurd (omega (arith, x2.0)) | inr r2 ↦ elim r2 [ inl x3 ↦ absurd (omega (arith, x3.0)) | inr r3 ↦ elim r3 [ inl x4 ↦ absurd (omega (arith, x4.0)) | inr r4 ↦ elim r4 [ inl x5 ↦ absurd (omega (arith, x5.0)) | inr r5 ↦ elim r5 [ inl x6 ↦ absurd (omega (arith, x6.0)) | inr r6 ↦ absurd (omega (arith, r6.0)) ] ] ] ] ] ] ]

peer_as_named : (s : OpenSubcodes) → Names s 2 [] → IsTrue s.peer_as
peer_as_named s h = elim h [ inl x0 ↦ absurd (omega (arith, x0.0)) | inr r0 ↦ elim r0 [ inl x1 ↦ absurd (omega (arith, x1.0)) | inr r1 ↦ elim r1 [ inl x2 ↦ x2.1 | inr r2 ↦ elim r2 [ inl x3 ↦ absurd (omega (arith, x3.0)) | inr r3 ↦ elim r3 [ inl x4 ↦ absurd (omega (arith, x4.0)) | inr r4 ↦ elim r4 [ inl x5 ↦ absurd (omega (arith, x5.0)) | inr r5 ↦ elim r5 [ inl x6 ↦ absurd (omega (arith, x6.0)) | inr r6 ↦ absurd (omega (arith, r6.0)) ] ] ] ] ] ] ]

identifier_named : (s : OpenSubcodes) → Names s 3 [] → IsTrue s.identifier
identifier_named s h = elim h [ inl x0 ↦ absurd (omega (arith, x0.0)) | inr r0 ↦ elim r0 [ inl x1 ↦ absurd (omega (arith, x1.0)) | inr r1 ↦ elim r1 [ inl x2 ↦ absurd (omega (arith, x2.0)) | inr r2 ↦ elim r2 [ inl x3 ↦ x3.1 | inr r3 ↦ elim r3 [ inl x4 ↦ absurd (omega (arith, x4.0)) | inr r4 ↦ elim r4 [ inl x5 ↦ absurd (omega (arith, x5.0)) | inr r5 ↦ elim r5 [ inl x6 ↦ absurd (omega (arith, x6.0)) | inr r6 ↦ absurd (omega (arith, r6.0)) ] ] ] ] ] ] ]

parameter_named : (s : OpenSubcodes) → Names s 4 [] → IsTrue s.parameter
parameter_named s h = elim h [ inl x0 ↦ absurd (omega (arith, x0.0)) | inr r0 ↦ elim r0 [ inl x1 ↦ absurd (omega (arith, x1.0)) | inr r1 ↦ elim r1 [ inl x2 ↦ absurd (omega (arith, x2.0)) | inr r2 ↦ elim r2 [ inl x3 ↦ absurd (omega (arith, x3.0)) | inr r3 ↦ elim r3 [ inl x4 ↦ x4.1 | inr r4 ↦ elim r4 [ inl x5 ↦ absurd (omega (arith, x5.0)) | inr r5 ↦ elim r5 [ inl x6 ↦ absurd (omega (arith, x6.0)) | inr r6 ↦ absurd (omega (arith, r6.0)) ] ] ] ] ] ] ]

hold_named : (s : OpenSubcodes) → Names s 6 [] → IsTrue s.hold
hold_named s h = elim h [ inl x0 ↦ absurd (omega (arith, x0.0)) | inr r0 ↦ elim r0 [ inl x1 ↦ absurd (omega (arith, x1.0)) | inr r1 ↦ elim r1 [ inl x2 ↦ absurd (omega (arith, x2.0)) | inr r2 ↦ elim r2 [ inl x3 ↦ absurd (omega (arith, x3.0)) | inr r3 ↦ elim r3 [ inl x4 ↦ absurd (omega (arith, x4.0)) | inr r4 ↦ elim r4 [ inl x5 ↦ x5.1 | inr r5 ↦ elim r5 [ inl x6 ↦ absurd (omega (arith, x6.0)) | inr r6 ↦ absurd (omega (arith, r6.0)) ] ] ] ] ] ] ]

capability_named : (s : OpenSubcodes) → Names s 7 [] → IsTrue s.capability
capability_named s h = elim h [ inl x0 ↦ absurd (omega (arith, x0.0)) | inr r0 ↦ elim r0 [ inl x1 ↦ absurd (omega (arith, x1.0)) | inr r1 ↦ elim r1 [ inl x2 ↦ absurd (omega (arith, x2.0)) | inr r2 ↦ elim r2 [ inl x3 ↦ absurd (omega (arith, x3.0)) | inr r3 ↦ elim r3 [ inl x4 ↦ absurd (omega (arith, x4.0)) | inr r4 ↦ elim r4 [ inl x5 ↦ absurd (omega (arith, x5.0)) | inr r5 ↦ elim r5 [ inl x6 ↦ x6.1 | inr r6 ↦ absurd (omega (arith, r6.0)) ] ] ] ] ] ] ]

role_named : (s : OpenSubcodes) → Names s 11 [] → IsTrue s.role
role_named s h = elim h [ inl x0 ↦ absurd (omega (arith, x0.0)) | inr r0 ↦ elim r0 [ inl x1 ↦ absurd (omega (arith, x1.0)) | inr r1 ↦ elim r1 [ inl x2 ↦ absurd (omega (arith, x2.0)) | inr r2 ↦ elim r2 [ inl x3 ↦ absurd (omega (arith, x3.0)) | inr r3 ↦ elim r3 [ inl x4 ↦ absurd (omega (arith, x4.0)) | inr r4 ↦ elim r4 [ inl x5 ↦ absurd (omega (arith, x5.0)) | inr r5 ↦ elim r5 [ inl x6 ↦ absurd (omega (arith, x6.0)) | inr r6 ↦ r6.1 ] ] ] ] ] ] ]

-- two sets that name the same are equal
pub same_names : (s t : OpenSubcodes) → ((subcode : ℕ) (detail : List ℕ) → (Names s subcode detail ↔ Names t subcode detail)) → s ≡ t
same_names s t same =
    let unspecific = same_bool s.unspecific t.unspecific (λ x. unspecific_named t ((same 0 []).0 (inl (refl, x)))) (λ x. unspecific_named s ((same 0 []).1 (inl (refl, x)))) in
    let version = same_bool s.version t.version (λ x. version_named t ((same 1 (big_bytes 2 4)).0 (inr (inl (refl, refl, x))))) (λ x. version_named s ((same 1 (big_bytes 2 4)).1 (inr (inl (refl, refl, x))))) in
    let peer_as = same_bool s.peer_as t.peer_as (λ x. peer_as_named t ((same 2 []).0 (inr (inr (inl (refl, x)))))) (λ x. peer_as_named s ((same 2 []).1 (inr (inr (inl (refl, x)))))) in
    let identifier = same_bool s.identifier t.identifier (λ x. identifier_named t ((same 3 []).0 (inr (inr (inr (inl (refl, x))))))) (λ x. identifier_named s ((same 3 []).1 (inr (inr (inr (inl (refl, x))))))) in
    let parameter = same_bool s.parameter t.parameter (λ x. parameter_named t ((same 4 []).0 (inr (inr (inr (inr (inl (refl, x)))))))) (λ x. parameter_named s ((same 4 []).1 (inr (inr (inr (inr (inl (refl, x)))))))) in
    let hold = same_bool s.hold t.hold (λ x. hold_named t ((same 6 []).0 (inr (inr (inr (inr (inr (inl (refl, x))))))))) (λ x. hold_named s ((same 6 []).1 (inr (inr (inr (inr (inr (inl (refl, x))))))))) in
    let capability = same_bool s.capability t.capability (λ x. capability_named t ((same 7 []).0 (inr (inr (inr (inr (inr (inr (inl (refl, x)))))))))) (λ x. capability_named s ((same 7 []).1 (inr (inr (inr (inr (inr (inr (inl (refl, x)))))))))) in
    let role = same_bool s.role t.role (λ x. role_named t ((same 11 []).0 (inr (inr (inr (inr (inr (inr (inr (refl, x)))))))))) (λ x. role_named s ((same 11 []).1 (inr (inr (inr (inr (inr (inr (inr (refl, x)))))))))) in
    ap (λ (x : Bool). let r : OpenSubcodes = record { unspecific = x; version = s.version; peer_as = s.peer_as; identifier = s.identifier; parameter = s.parameter; hold = s.hold; capability = s.capability; role = s.role } in r) unspecific
    ∙ ap (λ (x : Bool). let r : OpenSubcodes = record { unspecific = t.unspecific; version = x; peer_as = s.peer_as; identifier = s.identifier; parameter = s.parameter; hold = s.hold; capability = s.capability; role = s.role } in r) version
    ∙ ap (λ (x : Bool). let r : OpenSubcodes = record { unspecific = t.unspecific; version = t.version; peer_as = x; identifier = s.identifier; parameter = s.parameter; hold = s.hold; capability = s.capability; role = s.role } in r) peer_as
    ∙ ap (λ (x : Bool). let r : OpenSubcodes = record { unspecific = t.unspecific; version = t.version; peer_as = t.peer_as; identifier = x; parameter = s.parameter; hold = s.hold; capability = s.capability; role = s.role } in r) identifier
    ∙ ap (λ (x : Bool). let r : OpenSubcodes = record { unspecific = t.unspecific; version = t.version; peer_as = t.peer_as; identifier = t.identifier; parameter = x; hold = s.hold; capability = s.capability; role = s.role } in r) parameter
    ∙ ap (λ (x : Bool). let r : OpenSubcodes = record { unspecific = t.unspecific; version = t.version; peer_as = t.peer_as; identifier = t.identifier; parameter = t.parameter; hold = x; capability = s.capability; role = s.role } in r) hold
    ∙ ap (λ (x : Bool). let r : OpenSubcodes = record { unspecific = t.unspecific; version = t.version; peer_as = t.peer_as; identifier = t.identifier; parameter = t.parameter; hold = t.hold; capability = x; role = s.role } in r) capability
    ∙ ap (λ (x : Bool). let r : OpenSubcodes = record { unspecific = t.unspecific; version = t.version; peer_as = t.peer_as; identifier = t.identifier; parameter = t.parameter; hold = t.hold; capability = t.capability; role = x } in r) role

pub one_set : (faults : ℕ → List ℕ → Type 0) (s t : OpenSubcodes) → AreSubcodesOf faults s → AreSubcodesOf faults t → s ≡ t
one_set faults s t h k =
    same_names s t (λ n d. (λ x. (k n d).1 ((h n d).0 x), λ x. (h n d).1 ((k n d).0 x)))

from_both : (a b : OpenSubcodes) (n : ℕ) (d : List ℕ) → Names (union a b) n d → Names a n d ⊎ Names b n d
from_both a b n d h = elim h [ inl x0 ↦ elim (or_parts a.unspecific b.unspecific x0.1) [ inl p ↦ inl (inl (x0.0, p)) | inr p ↦ inr (inl (x0.0, p)) ] | inr r0 ↦ elim r0 [ inl x1 ↦ elim (or_parts a.version b.version x1.2) [ inl p ↦ inl (inr (inl (x1.0, x1.1, p))) | inr p ↦ inr (inr (inl (x1.0, x1.1, p))) ] | inr r1 ↦ elim r1 [ inl x2 ↦ elim (or_parts a.peer_as b.peer_as x2.1) [ inl p ↦ inl (inr (inr (inl (x2.0, p)))) | inr p ↦ inr (inr (inr (inl (x2.0, p)))) ] | inr r2 ↦ elim r2 [ inl x3 ↦ elim (or_parts a.identifier b.identifier x3.1) [ inl p ↦ inl (inr (inr (inr (inl (x3.0, p))))) | inr p ↦ inr (inr (inr (inr (inl (x3.0, p))))) ] | inr r3 ↦ elim r3 [ inl x4 ↦ elim (or_parts a.parameter b.parameter x4.1) [ inl p ↦ inl (inr (inr (inr (inr (inl (x4.0, p)))))) | inr p ↦ inr (inr (inr (inr (inr (inl (x4.0, p)))))) ] | inr r4 ↦ elim r4 [ inl x5 ↦ elim (or_parts a.hold b.hold x5.1) [ inl p ↦ inl (inr (inr (inr (inr (inr (inl (x5.0, p))))))) | inr p ↦ inr (inr (inr (inr (inr (inr (inl (x5.0, p))))))) ] | inr r5 ↦ elim r5 [ inl x6 ↦ elim (or_parts a.capability b.capability x6.1) [ inl p ↦ inl (inr (inr (inr (inr (inr (inr (inl (x6.0, p)))))))) | inr p ↦ inr (inr (inr (inr (inr (inr (inr (inl (x6.0, p)))))))) ] | inr r6 ↦ elim (or_parts a.role b.role r6.1) [ inl p ↦ inl (inr (inr (inr (inr (inr (inr (inr (r6.0, p)))))))) | inr p ↦ inr (inr (inr (inr (inr (inr (inr (inr (r6.0, p)))))))) ] ] ] ] ] ] ] ]

from_first : (a b : OpenSubcodes) (n : ℕ) (d : List ℕ) → Names a n d → Names (union a b) n d
from_first a b n d h = elim h [ inl x0 ↦ inl (x0.0, or_left a.unspecific b.unspecific x0.1) | inr r0 ↦ elim r0 [ inl x1 ↦ inr (inl (x1.0, x1.1, or_left a.version b.version x1.2)) | inr r1 ↦ elim r1 [ inl x2 ↦ inr (inr (inl (x2.0, or_left a.peer_as b.peer_as x2.1))) | inr r2 ↦ elim r2 [ inl x3 ↦ inr (inr (inr (inl (x3.0, or_left a.identifier b.identifier x3.1)))) | inr r3 ↦ elim r3 [ inl x4 ↦ inr (inr (inr (inr (inl (x4.0, or_left a.parameter b.parameter x4.1))))) | inr r4 ↦ elim r4 [ inl x5 ↦ inr (inr (inr (inr (inr (inl (x5.0, or_left a.hold b.hold x5.1)))))) | inr r5 ↦ elim r5 [ inl x6 ↦ inr (inr (inr (inr (inr (inr (inl (x6.0, or_left a.capability b.capability x6.1))))))) | inr r6 ↦ inr (inr (inr (inr (inr (inr (inr (r6.0, or_left a.role b.role r6.1))))))) ] ] ] ] ] ] ]

from_second : (a b : OpenSubcodes) (n : ℕ) (d : List ℕ) → Names b n d → Names (union a b) n d
from_second a b n d h = elim h [ inl x0 ↦ inl (x0.0, or_right a.unspecific b.unspecific x0.1) | inr r0 ↦ elim r0 [ inl x1 ↦ inr (inl (x1.0, x1.1, or_right a.version b.version x1.2)) | inr r1 ↦ elim r1 [ inl x2 ↦ inr (inr (inl (x2.0, or_right a.peer_as b.peer_as x2.1))) | inr r2 ↦ elim r2 [ inl x3 ↦ inr (inr (inr (inl (x3.0, or_right a.identifier b.identifier x3.1)))) | inr r3 ↦ elim r3 [ inl x4 ↦ inr (inr (inr (inr (inl (x4.0, or_right a.parameter b.parameter x4.1))))) | inr r4 ↦ elim r4 [ inl x5 ↦ inr (inr (inr (inr (inr (inl (x5.0, or_right a.hold b.hold x5.1)))))) | inr r5 ↦ elim r5 [ inl x6 ↦ inr (inr (inr (inr (inr (inr (inl (x6.0, or_right a.capability b.capability x6.1))))))) | inr r6 ↦ inr (inr (inr (inr (inr (inr (inr (r6.0, or_right a.role b.role r6.1))))))) ] ] ] ] ] ] ]

-- the union names what one of both does
pub names_of_both : (a b : OpenSubcodes) (n : ℕ) (d : List ℕ) → (Names (union a b) n d ↔ (Names a n d ⊎ Names b n d))
names_of_both a b n d = (from_both a b n d, λ h. elim h [ inl x ↦ from_first a b n d x | inr x ↦ from_second a b n d x ])
