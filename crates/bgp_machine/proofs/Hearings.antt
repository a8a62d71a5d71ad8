-- What octets are heard as.
use Rattle.std.proofs.Common.{◌≡◌, ◌≤◌, Bool, false, inl, inr, IsTrue, ℕ, List, length, sym, ap, subst, ◌∙◌}
use Rattle.bgp_wire.specs.Header.{IsSound, header_of, type_of}
use Rattle.bgp_wire.specs.Verdict.{AreEachFault}
use Rattle.bgp_wire.specs.declared.header.HeaderFaults.{HeaderFaults}
use Rattle.bgp_wire.specs.declared.header.Limit.{Limit}
use Rattle.bgp_open.proofs.OneSetOfSubcodes.{names_of_both}
use Rattle.bgp_open.specs.declared.config.Config.{Config}
use Rattle.bgp_open.specs.declared.subcodes.OpenSubcodes.{OpenSubcodes}
use Rattle.bgp_open.specs.OpenSubcodes.{AreSubcodesOf, IsEmpty, IsValid, mandatory_faults, permitted_faults, union}
use Rattle.bgp_machine.specs.Heard.{Announces, received_limit, open_faults}

-- the union of both sets is that of what an OPEN may be refused for
pub both_sets : (config : Config) (octets : List ℕ) (must may both : OpenSubcodes) → AreSubcodesOf (mandatory_faults config octets) must
    → AreSubcodesOf (permitted_faults octets) may → both ≡ union must may → AreSubcodesOf (open_faults config octets) both
both_sets config octets must may both m p is = subst (λ (s : OpenSubcodes). AreSubcodesOf (open_faults config octets) s) (sym is) (λ n d. (
  λ h. elim ((names_of_both must may n d).0 h) [ inl x ↦ inl ((m n d).0 x) | inr x ↦ inr ((p n d).0 x) ],
  λ h. (names_of_both must may n d).1 (elim h [ inl x ↦ inl ((m n d).1 x) | inr x ↦ inr ((p n d).1 x) ]),
))

not_both : (b : Bool) → b ≡ false → IsTrue b → ⊥
not_both b e h = cc

-- where some fault is in the set, the OPEN isn't valid
pub not_valid : (config : Config) (octets : List ℕ) (must : OpenSubcodes) (empty : Bool) → (IsEmpty must → IsValid config octets) × (IsValid config octets → IsEmpty must)
    → (IsTrue empty → IsEmpty must) × (IsEmpty must → IsTrue empty) → empty ≡ false → IsValid config octets → ⊥
not_valid config octets must empty iff is e valid = not_both empty e (is.1 (iff.1 valid))

pub announces : (config : Config) (octets header : List ℕ) (kind : ℕ) → header ≡ header_of octets → 19 ≤ length octets
    → IsSound (received_limit config) header → kind ≡ type_of header → Announces config kind octets
announces config octets header kind e long sound is = record {
  header = long;
  sound = subst (λ (h : List ℕ). IsSound (received_limit config) h) e sound;
  type_field = sym (is ∙ ap type_of e);
}

pub faulty : (limit : Limit) (octets header : List ℕ) (faults : HeaderFaults) → header ≡ header_of octets → 19 ≤ length octets → (IsSound limit header → ⊥)
    → AreEachFault limit header faults → (19 ≤ length octets) × (IsSound limit (header_of octets) → ⊥) × AreEachFault limit (header_of octets) faults
faulty limit octets header faults e long not each =
    (long, λ sound. not (subst (λ (h : List ℕ). IsSound limit h) (sym e) sound), subst (λ (h : List ℕ). AreEachFault limit h faults) e each)
