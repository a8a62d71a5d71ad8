-- What stands at the start of a file, by its first octets.
use Rattle.std.proofs.Common.{◌≡◌, ◌≤◌, ◌<◌, ◌∙◌, ◌++◌, min, not, Bool, true, false, ℕ, List, [], length, take, refl, sym, ap, subst, arith, nat_lt, length-append, append_assoc, append-nil, lit≤, Option, None, Some}
use Rattle.std.proofs.lemmas.Bool.{cond_both, cond-true, cond-false, le-ltb, ltb-false, ltb-true}
use Rattle.std.proofs.lemmas.List.{take-append-le, take-take, take_all, length-take}
use Rattle.packets.specs.declared.order.Order.{Order}
use Rattle.packets.specs.declared.headers.Magic.{Magic}
use Rattle.packets.specs.declared.blocks.Interface.{Interface}
use Rattle.packets.specs.declared.reading.Read.{Read}
use Rattle.packets.specs.declared.fault.FaultKind.TheVariants as kinds
use Rattle.packets.specs.Context.{Context, Start, Packets, Blocks}
use Rattle.packets.specs.Judgement.{Judgement, Refused, IsLonger}
use Rattle.packets.specs.Pcap.{magic_in, packet_at}
use Rattle.packets.specs.Pcapng.{block_at}
use Rattle.packets.specs.Recording.{begins_magic, start_by, start_at, judgement_at}
use Rattle.packets.specs.Reading.{IsReadAs, IsBegunAs}
use Rattle.packets.proofs.BlockPlaces.{block_short, block_holds}
use Rattle.packets.proofs.Longer.{Holds, longer, packet_holds, pcap_start_holds}
use Rattle.packets.proofs.Placing.{start_short}

-- ---- the magic number

-- the first four of octets of which there are so many, or behind which nothing stands
magic_front : (octets more : List ℕ) → (length octets < 12 → more ≡ []) → take 4 (octets ++ more) ≡ take 4 octets
magic_front octets more none =
    cond_both (nat_lt (length octets) 12) 0 0 (λ (n : ℕ). take 4 (octets ++ more) ≡ take 4 octets)
    (λ h. ap (λ (o : List ℕ). take 4 (octets ++ o)) (none (ltb-true (length octets) 12 h)) ∙ ap (λ (o : List ℕ). take 4 o) (append-nil octets))
    (λ h. take-append-le 4 octets more (let long = ltb-false (length octets) 12 h in omega arith))

pub no_magic : (octets more : List ℕ) → (length octets < 12 → more ≡ []) → begins_magic (take 4 octets) ≡ false → start_at (octets ++ more) ≡ Refused kinds.Format
no_magic octets more none other =
    cond-true (not (begins_magic (take 4 (octets ++ more)))) (Refused kinds.Format) _
    (ap (λ (o : List ℕ). not (begins_magic o)) (magic_front octets more none) ∙ ap not other)

-- the first four of a buffer's front that was filled
pub magic_of_taken : (buffer : List ℕ) (filled least : ℕ) → least ≡ min filled 4 → begins_magic (take 4 (take filled buffer)) ≡ begins_magic (take least buffer)
magic_of_taken buffer filled least is =
    cond_both (nat_lt 4 filled) 0 0 (λ (n : ℕ). begins_magic (take 4 (take filled buffer)) ≡ begins_magic (take least buffer))
    (λ h.
    let more = ltb-true 4 filled h in
    ap (λ (o : List ℕ). begins_magic o) (take-take 4 filled buffer (omega (arith, more)) ∙ ap (λ (n : ℕ). take n buffer) (let same : 4 ≡ least = omega (arith, is, more) in same)))
    (λ h.
    let less = ltb-false 4 filled h in
    let len = length-take filled buffer in
    ap (λ (o : List ℕ). begins_magic o) (take_all 4 (take filled buffer) (omega (arith, len, less)) ∙ ap (λ (n : ℕ). take n buffer) (let same : filled ≡ least = omega (arith, is, less) in same)))

pub nothing_behind : (octets more : List ℕ) → more ≡ [] → {judgement : Judgement} → start_at octets ≡ judgement → start_at (octets ++ more) ≡ judgement
nothing_behind octets more none is = ap (λ (o : List ℕ). start_at (octets ++ o)) none ∙ ap start_at (append-nil octets) ∙ is

start_by_cut : (found : Option Magic) (octets : List ℕ) → 0 < length octets → length octets < 12 → start_by found octets ≡ Refused kinds.Truncated
start_by_cut (Some magic) octets some few = start_short magic octets (omega arith)
start_by_cut None octets some few = block_short None [] octets some few

pub start_cut : (octets : List ℕ) → begins_magic (take 4 octets) ≡ true → length octets < 12 → start_at octets ≡ Refused kinds.Truncated
start_cut octets begins few =
    cond-false (not (begins_magic (take 4 octets))) (Refused kinds.Format) _ (ap not begins)
    ∙ cond_both (nat_lt (length octets) 4) (Refused kinds.Truncated) (start_by (magic_in (take 4 octets)) octets) (λ (j : Judgement). j ≡ Refused kinds.Truncated)
    (λ h. refl) (λ h. start_by_cut (magic_in (take 4 octets)) octets (let some = ltb-false (length octets) 4 h in omega arith) few)

-- behind the first 12
pub start_behind : (head octets more : List ℕ) (found : Option Magic) → length head ≡ 12 → begins_magic (take 4 head) ≡ true → found ≡ magic_in (take 4 head)
    → start_at ((head ++ octets) ++ more) ≡ start_by found ((head ++ octets) ++ more)
start_behind head octets more found many begins is =
    let all = head ++ octets ++ more in
    let both = length-append head (octets ++ more) in
    let front : take 4 ((head ++ octets) ++ more) ≡ take 4 head =
    ap (λ (o : List ℕ). take 4 o) (append_assoc head octets more) ∙ take-append-le 4 head (octets ++ more) (omega arith) in
    let long = ap length (append_assoc head octets more) in
    cond-false (not (begins_magic (take 4 ((head ++ octets) ++ more)))) (Refused kinds.Format) _ (ap (λ (o : List ℕ). not (begins_magic o)) front ∙ ap not begins)
    ∙ cond-false (nat_lt (length ((head ++ octets) ++ more)) 4) (Refused kinds.Truncated) _ (le-ltb (length ((head ++ octets) ++ more)) 4 (omega arith))
    ∙ ap (λ (o : List ℕ). start_by (magic_in o) ((head ++ octets) ++ more)) front
    ∙ ap (λ (o : Option Magic). start_by o ((head ++ octets) ++ more)) (sym is)

pub starts_as : (head octets : List ℕ) (found : Option Magic) (context : Context) (ended : Bool) (buffer : List ℕ) (read : Read) → length head ≡ 12
    → begins_magic (take 4 head) ≡ true → found ≡ magic_in (take 4 head)
    → IsReadAs (λ all. start_by found all) context (head ++ octets) ended buffer read → IsReadAs start_at context (head ++ octets) ended buffer read
starts_as head octets found context ended buffer read many begins is rest more told = start_behind head octets more found many begins is ∙ rest more told

pub starts_begun : (head taken : List ℕ) (found : Option Magic) → length head ≡ 12
    → begins_magic (take 4 head) ≡ true → found ≡ magic_in (take 4 head)
    → IsBegunAs (λ all. start_by found all) (head ++ taken) → IsBegunAs start_at (head ++ taken)
starts_begun head taken found many begins is rest more =
    subst (λ (j : Judgement). IsLonger (length (head ++ taken)) j) (sym (start_behind head taken more found many begins is)) (rest more)

-- ---- the least length

start_by_holds : (P : Judgement → Type 0) (found : Option Magic) (octets : List ℕ) → ((len : ℕ) → 12 ≤ len → Holds P len) → P (start_by found octets)
start_by_holds P (Some magic) octets all = pcap_start_holds P magic octets (all 24 (lit≤ tt))
start_by_holds P None octets all = block_holds P None [] octets all

pub start_holds : (P : Judgement → Type 0) (octets : List ℕ) → ((len : ℕ) → 12 ≤ len → Holds P len) → P (start_at octets)
start_holds P octets all =
    cond_both (not (begins_magic (take 4 octets))) (Refused kinds.Format) _ P (λ h. (all 12 (lit≤ tt)).refused kinds.Format refl)
    (λ h. cond_both (nat_lt (length octets) 4) (Refused kinds.Truncated) _ P (λ h. (all 12 (lit≤ tt)).refused kinds.Truncated refl)
    (λ h. start_by_holds P (magic_in (take 4 octets)) octets all))

pub start_head_begun : (taken : List ℕ) → length taken < 12 → IsBegunAs start_at taken
start_head_begun taken fewer more = start_holds (λ (j : Judgement). IsLonger (length taken) j) (taken ++ more) (λ len least. longer (length taken) len (omega arith))

-- whatever stands anywhere
pub judgement_holds : (P : Judgement → Type 0) (context : Context) (octets : List ℕ) → ((len : ℕ) → 12 ≤ len → Holds P len) → P (judgement_at context octets)
unfolding judgement_at
judgement_holds P Start octets all = start_holds P octets all
judgement_holds P (Packets magic link_type) octets all = packet_holds P magic link_type octets (all _ (omega arith))
judgement_holds P (Blocks order interfaces) octets all = block_holds P (Some order) interfaces octets all

-- ---- by how it is read

pub at_start : (octets : List ℕ) (ended : Bool) (buffer : List ℕ) (read : Read) → IsReadAs start_at Start octets ended buffer read
    → IsReadAs (judgement_at Start) Start octets ended buffer read
unfolding judgement_at
at_start octets ended buffer read is = is

pub at_packet : (magic : Magic) (link_type : ℕ) (octets : List ℕ) (ended : Bool) (buffer : List ℕ) (read : Read)
    → IsReadAs (packet_at magic link_type) (Packets magic link_type) octets ended buffer read
    → IsReadAs (judgement_at (Packets magic link_type)) (Packets magic link_type) octets ended buffer read
unfolding judgement_at
at_packet magic link_type octets ended buffer read is = is

pub at_block : (order : Order) (interfaces : List Interface) (octets : List ℕ) (ended : Bool) (buffer : List ℕ) (read : Read)
    → IsReadAs (block_at (Some order) interfaces) (Blocks order interfaces) octets ended buffer read
    → IsReadAs (judgement_at (Blocks order interfaces)) (Blocks order interfaces) octets ended buffer read
unfolding judgement_at
at_block order interfaces octets ended buffer read is = is

pub start_begun : (taken : List ℕ) → IsBegunAs start_at taken → IsBegunAs (judgement_at Start) taken
unfolding judgement_at
start_begun taken is = is

pub packet_is_begun : (magic : Magic) (link_type : ℕ) (taken : List ℕ) → IsBegunAs (packet_at magic link_type) taken
    → IsBegunAs (judgement_at (Packets magic link_type)) taken
unfolding judgement_at
packet_is_begun magic link_type taken is = is

pub block_is_begun : (order : Order) (interfaces : List Interface) (taken : List ℕ) → IsBegunAs (block_at (Some order) interfaces) taken
    → IsBegunAs (judgement_at (Blocks order interfaces)) taken
unfolding judgement_at
block_is_begun order interfaces taken is = is
