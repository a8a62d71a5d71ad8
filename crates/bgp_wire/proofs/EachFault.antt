-- The set whose fields hold each fault by itself is the set of the header's faults.
use Rattle.std.proofs.Common.{◌≡◌, ◌↔◌, ◌∙◌, Bool, true, false, IsTrue, ℕ, List, [], Option, Some, None, IsSome, IsNone, IfSome, IsSomeAnd, refl, sym, ap, subst, inl, inr}
use Rattle.byteorder.specs.Endian.{big_bytes}
use Rattle.bgp_wire.specs.declared.header.Limit.{Limit}
use Rattle.bgp_wire.specs.declared.header.HeaderFaults.{HeaderFaults}
use Rattle.bgp_wire.specs.Header.{IsSound, IsBadType, type_of, length_of}
use Rattle.bgp_wire.specs.Verdict.{AreEachFault, AreFaults, IsEmpty}
use Rattle.bgp_wire.proofs.OneFaultSet.{same_bool}

-- a field that is there exactly where F holds, and then is n, holds what n does where F holds
field_is : (o : Option ℕ) (n : ℕ) (F : Type 0) (D : ℕ → Type 0)
    → (IsSome o ↔ F) → IfSome o (λ v. v ≡ n) → (IsSomeAnd o D ↔ (F × D n))
field_is None n F D there is = (λ h. absurd h, λ h. let bad = there.1 h.0 in absurd (cc))
field_is (Some v) n F D there is = (λ h. (there.0 refl, subst D is h), λ h. subst D (sym is) h.1)

pub same_faults : (limit : Limit) (header : List ℕ) (faults : HeaderFaults)
    → AreEachFault limit header faults → AreFaults limit header faults
same_faults limit header faults each subcode detail =
    let length_is = field_is faults.length (length_of header) _ (λ n. detail ≡ big_bytes 2 n) each.bad_length each.length_field in
    let kind_is = field_is faults.kind (type_of header) _ (λ n. detail ≡ big_bytes 1 n) each.bad_type each.type_field in (
      λ h. elim h [
        | inl m ↦ inl (m.0, each.marker.0 m.1)
        | inr k ↦ elim k [
          | inl l ↦ let both = length_is.0 l.1 in inr (inl (l.0, both.0, both.1))
          | inr t ↦ let both = kind_is.0 t.1 in inr (inr (t.0, both.0, both.1))
        ]
      ],
      λ h. elim h [
        | inl m ↦ inl (m.0, each.marker.1 m.1)
        | inr k ↦ elim k [
          | inl l ↦ inr (inl (l.0, length_is.1 (l.1, l.2)))
          | inr t ↦ inr (inr (t.0, kind_is.1 (t.1, t.2)))
        ]
      ],
    )

-- a bad type is a fault
pub bad_type_is_a_fault : (limit : Limit) (header : List ℕ) → IsBadType (type_of header) → IsSound limit header → ⊥
bad_type_is_a_fault limit header bad sound = sound 3 (big_bytes 1 (type_of header)) (inr (inr (refl, bad, refl)))

-- the set of a sound header is empty
pub sound_is_empty : (limit : Limit) (header : List ℕ) (faults : HeaderFaults)
    → AreEachFault limit header faults → IsSound limit header → IsEmpty faults
sound_is_empty limit header faults each sound subcode detail named =
    sound subcode detail ((same_faults limit header faults each subcode detail).0 named)

-- a header whose set is empty is sound
pub empty_is_sound : (limit : Limit) (header : List ℕ) (faults : HeaderFaults)
    → AreEachFault limit header faults → IsEmpty faults → IsSound limit header
empty_is_sound limit header faults each empty subcode detail fault =
    empty subcode detail ((same_faults limit header faults each subcode detail).1 fault)

-- where no field is set, nothing is named, and the other way round
none_named : (marker : Bool) (count kind : Option ℕ) → (((¬ IsTrue marker) × IsNone count × IsNone kind)
    ↔ IsEmpty (record { marker = marker; length = count; kind = kind }))
none_named true count kind = (λ h. absurd (h.0 refl), λ empty. absurd (empty 1 [] (inl (refl, refl))))
none_named false (Some n) kind = (λ h. absurd (cc), λ empty. absurd (empty 2 (big_bytes 2 n) (inr (inl (refl, refl)))))
none_named false None (Some n) = (λ h. absurd (cc), λ empty. absurd (empty 3 (big_bytes 1 n) (inr (inr (refl, refl)))))
none_named false None None = (
  λ h subcode detail named. elim named [ inl a ↦ absurd (cc) | inr b ↦ elim b [ inl c ↦ absurd c.1 | inr d ↦ absurd d.1 ] ],
  λ empty. (λ t. absurd (cc), refl, refl),
)

pub no_field_is_set : (faults : HeaderFaults) → (((¬ IsTrue faults.marker) × IsNone faults.length × IsNone faults.kind)
    ↔ IsEmpty faults)
no_field_is_set faults = none_named faults.marker faults.length faults.kind

-- a field that is there exactly where F holds, and then is n
same_field : (F : Type 0) (n : ℕ) (o p : Option ℕ) → (IsSome o ↔ F) → IfSome o (λ v. v ≡ n)
    → (IsSome p ↔ F) → IfSome p (λ v. v ≡ n) → o ≡ p
same_field F n None None there is there' is' = refl
same_field F n None (Some m) there is there' is' = let bad = there.1 (there'.0 refl) in absurd (cc)
same_field F n (Some m) None there is there' is' = let bad = there'.1 (there.0 refl) in absurd (cc)
same_field F n (Some m) (Some k) there is there' is' = ap (λ (v : ℕ). Some v) (is ∙ sym is')

-- two sets that have each fault of one header are equal
pub one_set : (limit : Limit) (header : List ℕ) (faults others : HeaderFaults)
    → AreEachFault limit header faults → AreEachFault limit header others → faults ≡ others
one_set limit header faults others h k =
    let marker = same_bool faults.marker others.marker (λ t. k.marker.1 (h.marker.0 t)) (λ t. h.marker.1 (k.marker.0 t)) in
    let count = same_field _ (length_of header) faults.length others.length h.bad_length h.length_field k.bad_length k.length_field in
    let kind = same_field _ (type_of header) faults.kind others.kind h.bad_type h.type_field k.bad_type k.type_field in
    ap (λ (x : Bool). let f : HeaderFaults = record { marker = x; length = faults.length; kind = faults.kind } in f) marker
    ∙ ap (λ (x : Option ℕ). let f : HeaderFaults = record { marker = others.marker; length = x; kind = faults.kind } in f) count
    ∙ ap (λ (x : Option ℕ). let f : HeaderFaults = record { marker = others.marker; length = others.length; kind = x } in f) kind
