-- What holds of whatever an item is judged to be: how many octets it has at the least, and that it
-- is no device that failed.
use Rattle.std.proofs.Common.{◌≡◌, ◌<◌, ◌∙◌, ◌==◌, ◌+◌, ◌-◌, ◌++◌, not, ℕ, List, [], ◌∷◌, length, take, drop, refl, sym, ap, subst, arith, nat_lt, length-append, append_assoc, Option, None, Some, slice_get}
use Rattle.std.proofs.lemmas.Bool.{cond_both}
use Rattle.packets.specs.declared.order.Order.{Order}
use Rattle.packets.specs.declared.headers.Magic.{Magic}
use Rattle.packets.specs.declared.blocks.BlockKind.{BlockKind}
use Rattle.packets.specs.declared.blocks.BlockKind.TheVariants as blocks
use Rattle.packets.specs.declared.blocks.Interface.{Interface}
use Rattle.packets.specs.declared.fault.FaultKind.{FaultKind}
use Rattle.packets.specs.declared.fault.FaultKind.TheVariants as kinds
use Rattle.packets.specs.Clock.{second_at}
use Rattle.packets.specs.Context.{Context, Packets, Blocks}
use Rattle.packets.specs.Fault.{device_count}
use Rattle.packets.specs.Judgement.{Judgement, End, Refused, Passed, Told, IsLonger}
use Rattle.packets.specs.Order.{number_in}
use Rattle.packets.specs.Packet.{Recorded}
use Rattle.packets.specs.Pcap.{PacketHeader, packet_header_in, pcap_packet, packet_by, packet_at, is_version_2, link_type_in, pcap_start}
use Rattle.packets.specs.Pcapng.{interface_in, EnhancedHeader, enhanced_in, told_at, told_by, described, whole_block, end_len, ended_block, left_block}
use Rattle.packets.specs.Reading.{IsBegunAs}
use Rattle.packets.proofs.Placing.{packet_front}

-- this holds of the end, of a fault in the octets, and of an item of so many octets
pub record Holds (P : Judgement → Type 0) (len : ℕ) : Type 0 where
  pub ended : P End
  pub refused : (kind : FaultKind) → device_count kind ≡ 0 → P (Refused kind)
  pub passed : (after : Context) → P (Passed len after)
  pub told : (packet : Recorded) → P (Told len packet)

pub longer : (count len : ℕ) → count < len → Holds (λ (j : Judgement). IsLonger count j) len
longer count len fewer = record {
  ended = tt;
  refused = λ kind other. tt;
  passed = λ after. fewer;
  told = λ packet. fewer;
}

-- ---- pcap

packet_by_holds : (P : Judgement → Type 0) (link_type : ℕ) (header : PacketHeader) (rest : List ℕ) → Holds P (16 + header.kept) → P (packet_by link_type header rest)
packet_by_holds P link_type header rest all =
    cond_both (nat_lt 262144 header.kept) (Refused kinds.TooLong) _ P (λ h. all.refused kinds.TooLong refl)
    (λ h. cond_both (nat_lt (length rest) header.kept) (Refused kinds.Truncated) (Told (16 + header.kept) (pcap_packet link_type header (take header.kept rest))) P
    (λ h. all.refused kinds.Truncated refl) (λ h. all.told (pcap_packet link_type header (take header.kept rest))))

pub packet_holds : (P : Judgement → Type 0) (magic : Magic) (link_type : ℕ) (octets : List ℕ) → Holds P (16 + (packet_header_in magic (take 16 octets)).kept)
    → P (packet_at magic link_type octets)
packet_holds P magic link_type octets all =
    cond_both (length octets == 0) End _ P (λ h. all.ended)
    (λ h. cond_both (nat_lt (length octets) 16) (Refused kinds.Truncated) _ P (λ h. all.refused kinds.Truncated refl)
    (λ h. packet_by_holds P link_type (packet_header_in magic (take 16 octets)) (drop 16 octets) all))

pub pcap_start_holds : (P : Judgement → Type 0) (magic : Magic) (octets : List ℕ) → Holds P 24 → P (pcap_start magic octets)
pcap_start_holds P magic octets all =
    cond_both (nat_lt (length octets) 24) (Refused kinds.Truncated) _ P (λ h. all.refused kinds.Truncated refl)
    (λ h. cond_both (not (is_version_2 magic.order (take 12 octets))) (Refused kinds.Format) (Passed 24 (Packets magic (link_type_in magic.order (take 12 (drop 12 octets))))) P
    (λ h. all.refused kinds.Format refl) (λ h. all.passed (Packets magic (link_type_in magic.order (take 12 (drop 12 octets))))))

-- ---- blocks

told_at_holds : (P : Judgement → Type 0) (len : ℕ) (interface : Interface) (header : EnhancedHeader) (rest : List ℕ) (second : Option ℕ) → Holds P len
    → P (told_at len interface header rest second)
told_at_holds P len interface header rest None all = all.refused kinds.Time refl
told_at_holds P len interface header rest (Some second) all = all.told _

told_by_holds : (P : Judgement → Type 0) (len : ℕ) (interface : Option Interface) (header : EnhancedHeader) (rest : List ℕ) → Holds P len
    → P (told_by len interface header rest)
told_by_holds P len None header rest all = all.refused kinds.Block refl
told_by_holds P len (Some interface) header rest all =
    cond_both (nat_lt len (32 + header.kept)) (Refused kinds.Block) _ P (λ h. all.refused kinds.Block refl)
    (λ h. told_at_holds P len interface header rest (second_at interface.clock header.ticks) all)

described_holds : (P : Judgement → Type 0) (order : Order) (interfaces : List Interface) (len : ℕ) (interface : Option Interface) → Holds P len
    → P (described order interfaces len interface)
described_holds P order interfaces len None all = all.refused kinds.Block refl
described_holds P order interfaces len (Some interface) all = all.passed (Blocks order (interfaces ++ interface ∷ []))

whole_holds : (P : Judgement → Type 0) (order : Order) (interfaces : List Interface) (kind : BlockKind) (len : ℕ) (head rest : List ℕ) → Holds P len
    → P (whole_block order interfaces kind len head rest)
whole_holds P order interfaces blocks.Section len head rest all =
    cond_both (not (number_in order 2 rest == 1)) (Refused kinds.Format) (Passed len (Blocks order [])) P (λ h. all.refused kinds.Format refl) (λ h. all.passed (Blocks order []))
whole_holds P order interfaces blocks.Interface len head rest all = described_holds P order interfaces len (interface_in order head rest) all
whole_holds P order interfaces blocks.Timeless len head rest all = all.refused kinds.Block refl
whole_holds P order interfaces blocks.Enhanced len head rest all =
    let header = enhanced_in order head rest in
    cond_both (nat_lt 262144 header.kept) (Refused kinds.TooLong) (told_by len (slice_get interfaces header.interface) header rest) P (λ h. all.refused kinds.TooLong refl)
    (λ h. told_by_holds P len (slice_get interfaces header.interface) header rest all)
whole_holds P order interfaces blocks.Other len head rest all = all.passed (Blocks order interfaces)

pub left_holds : (P : Judgement → Type 0) (order : Order) (interfaces : List Interface) (kind : BlockKind) (len : ℕ) (head left : List ℕ) → Holds P len
    → P (left_block order interfaces kind len head left)
left_holds P order interfaces kind len head left all =
    cond_both (nat_lt (length left) (len - 12)) (Refused kinds.Truncated) (ended_block order interfaces kind len head (take (len - 12) left)) P (λ h. all.refused kinds.Truncated refl)
    (λ h. cond_both (not (end_len order head (take (len - 12) left) == len)) (Refused kinds.Block) (whole_block order interfaces kind len head (take (len - 12) left)) P
    (λ h. all.refused kinds.Block refl) (λ h. whole_holds P order interfaces kind len head (take (len - 12) left) all))

-- ---- what was read of an item that isn't whole

pub packet_head_begun : (magic : Magic) (link_type : ℕ) (taken : List ℕ) → length taken < 16 → IsBegunAs (packet_at magic link_type) taken
packet_head_begun magic link_type taken fewer more =
    packet_holds (λ (j : Judgement). IsLonger (length taken) j) magic link_type (taken ++ more) (longer (length taken) _ (omega arith))

pub packet_begun : (magic : Magic) (link_type : ℕ) (head taken : List ℕ) → length head ≡ 16 → length taken < (packet_header_in magic head).kept
    → IsBegunAs (packet_at magic link_type) (head ++ taken)
packet_begun magic link_type head taken many fewer more =
    let both = length-append head taken in
    subst (λ (j : Judgement). IsLonger (length (head ++ taken)) j)
    (sym (ap (λ (o : List ℕ). packet_at magic link_type o) (append_assoc head taken more) ∙ packet_front magic link_type head (taken ++ more) many))
    (packet_by_holds (λ (j : Judgement). IsLonger (length (head ++ taken)) j) link_type (packet_header_in magic head) (taken ++ more)
    (longer (length (head ++ taken)) (16 + (packet_header_in magic head).kept) (omega arith)))

pub pcap_begun : (magic : Magic) (head taken : List ℕ) → length head ≡ 12 → length taken < 12 → IsBegunAs (pcap_start magic) (head ++ taken)
pcap_begun magic head taken many fewer more =
    let both = length-append head taken in
    pcap_start_holds (λ (j : Judgement). IsLonger (length (head ++ taken)) j) magic ((head ++ taken) ++ more) (longer (length (head ++ taken)) 24 (omega arith))
