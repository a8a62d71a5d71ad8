-- What stands at a place of a recording, by its first octets.
use Rattle.std.proofs.Common.{◌≡◌, ◌≤◌, ◌<◌, ◌∙◌, ◌==◌, ◌+◌, ◌++◌, true, false, ℕ, List, [], ◌∷◌, length, take, drop, refl, sym, ap, arith, nat_lt, length-append, append_assoc, rules}
use Rattle.std.proofs.Math.Seq.{take-append_seam, drop-append_seam}
use Rattle.std.proofs.lemmas.Bool.{cond-true, cond-false, lt-ltb, le-ltb}
use Rattle.packets.specs.declared.headers.Magic.{Magic}
use Rattle.packets.specs.declared.fault.FaultKind.TheVariants as kinds
use Rattle.packets.specs.Judgement.{End, Refused, Passed, Told}
use Rattle.packets.specs.Pcap.{PacketHeader, packet_header_in, pcap_packet, packet_by, packet_at, is_version_2, link_type_in, file_header, pcap_start}
use Rattle.packets.specs.Context.{Packets}

pub no_octets : (octets : List ℕ) → length octets ≡ 0 → octets ≡ []
no_octets [] none = refl
no_octets (x ∷ octets) none = absurd (omega (arith, none))

pub is_zero : (n : ℕ) → 0 < n → (n == 0) ≡ false
is_zero n some = search (rules)

-- the first octets of so many, and what stands behind them
pub front_of : (head rest : List ℕ) (n : ℕ) → length head ≡ n → take n (head ++ rest) ≡ head
front_of head rest n many = ap (λ (k : ℕ). take k (head ++ rest)) (sym many) ∙ take-append_seam head rest

pub behind_front : (head rest : List ℕ) (n : ℕ) → length head ≡ n → drop n (head ++ rest) ≡ rest
behind_front head rest n many = ap (λ (k : ℕ). drop k (head ++ rest)) (sym many) ∙ drop-append_seam head rest

-- ---- packets of pcap

pub packet_short : (magic : Magic) (link_type : ℕ) (octets : List ℕ) → 0 < length octets → length octets < 16
    → packet_at magic link_type octets ≡ Refused kinds.Truncated
packet_short magic link_type octets some few =
    cond-false (length octets == 0) End _ (is_zero (length octets) some)
    ∙ cond-true (nat_lt (length octets) 16) (Refused kinds.Truncated) _ (lt-ltb (length octets) 16 few)

pub packet_front : (magic : Magic) (link_type : ℕ) (head rest : List ℕ) → length head ≡ 16
    → packet_at magic link_type (head ++ rest) ≡ packet_by link_type (packet_header_in magic head) rest
packet_front magic link_type head rest many =
    let len = length-append head rest in
    cond-false (length (head ++ rest) == 0) End _ (is_zero (length (head ++ rest)) (omega arith))
    ∙ cond-false (nat_lt (length (head ++ rest)) 16) (Refused kinds.Truncated) _ (le-ltb (length (head ++ rest)) 16 (omega arith))
    ∙ ap (λ (o : List ℕ). packet_by link_type (packet_header_in magic o) (drop 16 (head ++ rest))) (front_of head rest 16 many)
    ∙ ap (λ (o : List ℕ). packet_by link_type (packet_header_in magic head) o) (behind_front head rest 16 many)

pub packet_long : (link_type : ℕ) (header : PacketHeader) (rest : List ℕ) → 262144 < header.kept → packet_by link_type header rest ≡ Refused kinds.TooLong
packet_long link_type header rest long = cond-true (nat_lt 262144 header.kept) (Refused kinds.TooLong) _ (lt-ltb 262144 header.kept long)

pub packet_cut : (link_type : ℕ) (header : PacketHeader) (rest : List ℕ) → header.kept ≤ 262144 → length rest < header.kept
    → packet_by link_type header rest ≡ Refused kinds.Truncated
packet_cut link_type header rest fits few =
    cond-false (nat_lt 262144 header.kept) (Refused kinds.TooLong) _ (le-ltb 262144 header.kept fits)
    ∙ cond-true (nat_lt (length rest) header.kept) (Refused kinds.Truncated) _ (lt-ltb (length rest) header.kept few)

pub packet_told : (link_type : ℕ) (header : PacketHeader) (body more : List ℕ) → header.kept ≤ 262144 → length body ≡ header.kept
    → packet_by link_type header (body ++ more) ≡ Told (16 + header.kept) (pcap_packet link_type header body)
packet_told link_type header body more fits many =
    let len = length-append body more in
    cond-false (nat_lt 262144 header.kept) (Refused kinds.TooLong) _ (le-ltb 262144 header.kept fits)
    ∙ cond-false (nat_lt (length (body ++ more)) header.kept) (Refused kinds.Truncated) _ (le-ltb (length (body ++ more)) header.kept (omega arith))
    ∙ ap (λ (o : List ℕ). Told (16 + header.kept) (pcap_packet link_type header o)) (front_of body more header.kept many)

-- ---- the header of pcap

pub start_short : (magic : Magic) (octets : List ℕ) → length octets < 24 → pcap_start magic octets ≡ Refused kinds.Truncated
start_short magic octets few = cond-true (nat_lt (length octets) 24) (Refused kinds.Truncated) _ (lt-ltb (length octets) 24 few)

pub start_front : (magic : Magic) (head rest more : List ℕ) → length head ≡ 12 → length rest ≡ 12
    → pcap_start magic ((head ++ rest) ++ more) ≡ file_header magic head rest
start_front magic head rest more many also =
    let len = length-append head rest in
    let all = length-append (head ++ rest) more in
    let apart = append_assoc head rest more in
    cond-false (nat_lt (length ((head ++ rest) ++ more)) 24) (Refused kinds.Truncated) _ (le-ltb (length ((head ++ rest) ++ more)) 24 (omega arith))
    ∙ ap (λ (o : List ℕ). file_header magic (take 12 o) (take 12 (drop 12 o))) apart
    ∙ ap (λ (o : List ℕ). file_header magic o (take 12 (drop 12 (head ++ (rest ++ more))))) (front_of head (rest ++ more) 12 many)
    ∙ ap (λ (o : List ℕ). file_header magic head (take 12 o)) (behind_front head (rest ++ more) 12 many)
    ∙ ap (λ (o : List ℕ). file_header magic head o) (front_of rest more 12 also)

pub start_other : (magic : Magic) (head rest : List ℕ) → is_version_2 magic.order head ≡ false → file_header magic head rest ≡ Refused kinds.Format
start_other magic head rest other = rw other refl

pub start_opened : (magic : Magic) (head rest : List ℕ) (link_type : ℕ) → is_version_2 magic.order head ≡ true → link_type ≡ link_type_in magic.order rest
    → file_header magic head rest ≡ Passed 24 (Packets magic link_type)
start_opened magic head rest link_type is same = rw is (ap (λ (n : ℕ). Passed 24 (Packets magic n)) (sym same))
