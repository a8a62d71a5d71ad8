-- A header without a fault announces an OPEN where its type is that of one.
use Rattle.std.proofs.Common.{◌≡◌, ◌≤◌, ◌↔◌, ◌∙◌, ℕ, List, length, refl, sym, ap, subst, arith}
use Rattle.bgp_wire.specs.Header.{IsSound, header_of, type_of}
use Rattle.bgp_wire.specs.Verdict.{IsVerdict, type_code}
use Rattle.bgp_wire.specs.declared.header.HeaderVerdict.TheVariants.{Whole, Faulty}
use Rattle.bgp_wire.specs.declared.header.HeaderFaults.{HeaderFaults}
use Rattle.bgp_wire.specs.declared.header.Limit.TheVariants.{Plain}
use Rattle.bgp_wire.specs.declared.header.MessageType.{MessageType}
use Rattle.bgp_wire.specs.declared.header.MessageType.TheVariants.{Open}
use Rattle.bgp_parts.specs.Opens.{IsOpenMessage}

is_open : (kind : MessageType) → type_code kind ≡ 1 → kind ≡ Open
is_open Open is = refl
is_open kind is = absurd (omega arith)

pub announces_open : (octets header : List ℕ) (count : ℕ) (kind : MessageType) → header ≡ header_of octets → 19 ≤ length octets
    → IsVerdict Plain header (Whole count kind) → (kind ≡ Open) ↔ IsOpenMessage octets
announces_open octets header count kind is long verdict = (
  λ same. record {
    header = long;
    sound = subst (IsSound Plain) is verdict.0;
    type_field = ap type_of (sym is) ∙ sym verdict.2 ∙ ap type_code same;
  },
  λ message. is_open kind (verdict.2 ∙ ap type_of is ∙ message.type_field),
)

pub faulty_header : (octets header : List ℕ) (faults : HeaderFaults) → header ≡ header_of octets → IsVerdict Plain header (Faulty faults)
    → ¬ IsOpenMessage octets
faulty_header octets header faults is verdict message = verdict.0 (subst (IsSound Plain) (sym is) message.sound)
