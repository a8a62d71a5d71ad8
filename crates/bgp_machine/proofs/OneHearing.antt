-- Octets are heard as one thing.
use Rattle.std.proofs.Common.{◌≡◌, ◌<◌, ◌≤◌, ℕ, List, length, refl, sym, ap, ◌∙◌, arith}
use Rattle.bgp_wire.proofs.EachFault.{one_set as one_fault_set}
use Rattle.bgp_wire.specs.declared.header.HeaderFaults.{HeaderFaults}
use Rattle.bgp_wire.specs.Header.{header_of}
use Rattle.bgp_open.proofs.OneSetOfSubcodes.{one_set}
use Rattle.bgp_open.specs.declared.config.Config.{Config}
use Rattle.bgp_open.specs.declared.link.Link.{Link}
use Rattle.bgp_open.specs.declared.subcodes.OpenSubcodes.{OpenSubcodes}
use Rattle.bgp_machine.specs.declared.hearing.Heard.{Heard}
use Rattle.bgp_machine.specs.declared.hearing.Heard.TheVariants as heard
use Rattle.bgp_machine.specs.Heard.{Announces, Hears, received_limit, open_faults}

short : (octets : List ℕ) → length octets < 19 → 19 ≤ length octets → ⊥
short octets few many = absurd (omega arith)

types : (config : Config) (octets : List ℕ) (a b : ℕ) → Announces config a octets → Announces config b octets → (a ≡ b → ⊥) → ⊥
types config octets a b h k differ = differ (sym h.type_field ∙ k.type_field)

pub one_heard : (config : Config) (octets : List ℕ) (x y : Heard) → Hears config octets x → Hears config octets y → x ≡ y
one_heard c b heard.TooShort heard.TooShort h k = refl
one_heard c b heard.TooShort (heard.ValidOpen l2 s2) h k = absurd (short b h k.0.header)
one_heard c b heard.TooShort (heard.FaultyHeader f2) h k = absurd (short b h k.0)
one_heard c b heard.TooShort (heard.InvalidOpen s2) h k = absurd (short b h k.0.header)
one_heard c b heard.TooShort heard.BadVersion h k = absurd (short b h k.0.header)
one_heard c b heard.TooShort heard.Notification h k = absurd (short b h k.0.header)
one_heard c b heard.TooShort heard.Keepalive h k = absurd (short b h k.header)
one_heard c b heard.TooShort heard.Update h k = absurd (short b h k.header)
one_heard c b (heard.ValidOpen l1 s1) heard.TooShort h k = absurd (short b k h.0.header)
one_heard c b (heard.ValidOpen l1 s1) (heard.ValidOpen l2 s2) h k =
    let link : l1 ≡ l2 = h.2 ∙ sym k.2 in
    let set : s1 ≡ s2 = one_set (open_faults c b) s1 s2 h.3 k.3 in
    ap (λ (v : Link). heard.ValidOpen v s1) link ∙ ap (λ (v : OpenSubcodes). heard.ValidOpen l2 v) set
one_heard c b (heard.ValidOpen l1 s1) (heard.FaultyHeader f2) h k = absurd (k.1 h.0.sound)
one_heard c b (heard.ValidOpen l1 s1) (heard.InvalidOpen s2) h k = absurd (k.1 h.1)
one_heard c b (heard.ValidOpen l1 s1) heard.BadVersion h k = absurd (types c b 1 3 h.0 k.0 (λ e. absurd (omega arith)))
one_heard c b (heard.ValidOpen l1 s1) heard.Notification h k = absurd (types c b 1 3 h.0 k.0 (λ e. absurd (omega arith)))
one_heard c b (heard.ValidOpen l1 s1) heard.Keepalive h k = absurd (types c b 1 4 h.0 k (λ e. absurd (omega arith)))
one_heard c b (heard.ValidOpen l1 s1) heard.Update h k = absurd (types c b 1 2 h.0 k (λ e. absurd (omega arith)))
one_heard c b (heard.FaultyHeader f1) heard.TooShort h k = absurd (short b k h.0)
one_heard c b (heard.FaultyHeader f1) (heard.ValidOpen l2 s2) h k = absurd (h.1 k.0.sound)
one_heard c b (heard.FaultyHeader f1) (heard.FaultyHeader f2) h k = ap (λ (v : HeaderFaults). heard.FaultyHeader v) (one_fault_set (received_limit c) (header_of b) f1 f2 h.2 k.2)
one_heard c b (heard.FaultyHeader f1) (heard.InvalidOpen s2) h k = absurd (h.1 k.0.sound)
one_heard c b (heard.FaultyHeader f1) heard.BadVersion h k = absurd (h.1 k.0.sound)
one_heard c b (heard.FaultyHeader f1) heard.Notification h k = absurd (h.1 k.0.sound)
one_heard c b (heard.FaultyHeader f1) heard.Keepalive h k = absurd (h.1 k.sound)
one_heard c b (heard.FaultyHeader f1) heard.Update h k = absurd (h.1 k.sound)
one_heard c b (heard.InvalidOpen s1) heard.TooShort h k = absurd (short b k h.0.header)
one_heard c b (heard.InvalidOpen s1) (heard.ValidOpen l2 s2) h k = absurd (h.1 k.1)
one_heard c b (heard.InvalidOpen s1) (heard.FaultyHeader f2) h k = absurd (k.1 h.0.sound)
one_heard c b (heard.InvalidOpen s1) (heard.InvalidOpen s2) h k = ap (λ (v : OpenSubcodes). heard.InvalidOpen v) (one_set (open_faults c b) s1 s2 h.2 k.2)
one_heard c b (heard.InvalidOpen s1) heard.BadVersion h k = absurd (types c b 1 3 h.0 k.0 (λ e. absurd (omega arith)))
one_heard c b (heard.InvalidOpen s1) heard.Notification h k = absurd (types c b 1 3 h.0 k.0 (λ e. absurd (omega arith)))
one_heard c b (heard.InvalidOpen s1) heard.Keepalive h k = absurd (types c b 1 4 h.0 k (λ e. absurd (omega arith)))
one_heard c b (heard.InvalidOpen s1) heard.Update h k = absurd (types c b 1 2 h.0 k (λ e. absurd (omega arith)))
one_heard c b heard.BadVersion heard.TooShort h k = absurd (short b k h.0.header)
one_heard c b heard.BadVersion (heard.ValidOpen l2 s2) h k = absurd (types c b 3 1 h.0 k.0 (λ e. absurd (omega arith)))
one_heard c b heard.BadVersion (heard.FaultyHeader f2) h k = absurd (k.1 h.0.sound)
one_heard c b heard.BadVersion (heard.InvalidOpen s2) h k = absurd (types c b 3 1 h.0 k.0 (λ e. absurd (omega arith)))
one_heard c b heard.BadVersion heard.BadVersion h k = refl
one_heard c b heard.BadVersion heard.Notification h k = absurd (k.1 h.1)
one_heard c b heard.BadVersion heard.Keepalive h k = absurd (types c b 3 4 h.0 k (λ e. absurd (omega arith)))
one_heard c b heard.BadVersion heard.Update h k = absurd (types c b 3 2 h.0 k (λ e. absurd (omega arith)))
one_heard c b heard.Notification heard.TooShort h k = absurd (short b k h.0.header)
one_heard c b heard.Notification (heard.ValidOpen l2 s2) h k = absurd (types c b 3 1 h.0 k.0 (λ e. absurd (omega arith)))
one_heard c b heard.Notification (heard.FaultyHeader f2) h k = absurd (k.1 h.0.sound)
one_heard c b heard.Notification (heard.InvalidOpen s2) h k = absurd (types c b 3 1 h.0 k.0 (λ e. absurd (omega arith)))
one_heard c b heard.Notification heard.BadVersion h k = absurd (h.1 k.1)
one_heard c b heard.Notification heard.Notification h k = refl
one_heard c b heard.Notification heard.Keepalive h k = absurd (types c b 3 4 h.0 k (λ e. absurd (omega arith)))
one_heard c b heard.Notification heard.Update h k = absurd (types c b 3 2 h.0 k (λ e. absurd (omega arith)))
one_heard c b heard.Keepalive heard.TooShort h k = absurd (short b k h.header)
one_heard c b heard.Keepalive (heard.ValidOpen l2 s2) h k = absurd (types c b 4 1 h k.0 (λ e. absurd (omega arith)))
one_heard c b heard.Keepalive (heard.FaultyHeader f2) h k = absurd (k.1 h.sound)
one_heard c b heard.Keepalive (heard.InvalidOpen s2) h k = absurd (types c b 4 1 h k.0 (λ e. absurd (omega arith)))
one_heard c b heard.Keepalive heard.BadVersion h k = absurd (types c b 4 3 h k.0 (λ e. absurd (omega arith)))
one_heard c b heard.Keepalive heard.Notification h k = absurd (types c b 4 3 h k.0 (λ e. absurd (omega arith)))
one_heard c b heard.Keepalive heard.Keepalive h k = refl
one_heard c b heard.Keepalive heard.Update h k = absurd (types c b 4 2 h k (λ e. absurd (omega arith)))
one_heard c b heard.Update heard.TooShort h k = absurd (short b k h.header)
one_heard c b heard.Update (heard.ValidOpen l2 s2) h k = absurd (types c b 2 1 h k.0 (λ e. absurd (omega arith)))
one_heard c b heard.Update (heard.FaultyHeader f2) h k = absurd (k.1 h.sound)
one_heard c b heard.Update (heard.InvalidOpen s2) h k = absurd (types c b 2 1 h k.0 (λ e. absurd (omega arith)))
one_heard c b heard.Update heard.BadVersion h k = absurd (types c b 2 3 h k.0 (λ e. absurd (omega arith)))
one_heard c b heard.Update heard.Notification h k = absurd (types c b 2 3 h k.0 (λ e. absurd (omega arith)))
one_heard c b heard.Update heard.Keepalive h k = absurd (types c b 2 4 h k (λ e. absurd (omega arith)))
one_heard c b heard.Update heard.Update h k = refl
