-- A recording: what its octets are, from the first on, and what packets they tell.
use Rattle.std.specs.Prelude.{◌≡◌, ◌==◌, ◌||◌, not, Bool, true, false, ℕ, zero, suc, List, []}
use Rattle.std.specs.Prelude.{◌∷◌, ◌++◌, length, take, drop, nat_lt, Option, None, Some}
use Rattle.std.specs.Prelude.{if◌then◌else◌}
use Rattle.std.specs.List.{starts_with}
use Rattle.packets.specs.declared.headers.Magic.{Magic}
use Rattle.packets.specs.declared.fault.FaultKind.{FaultKind}
use Rattle.packets.specs.declared.fault.FaultKind.TheVariants as kinds
use Rattle.packets.specs.Context.{Context, Start, Packets, Blocks}
use Rattle.packets.specs.Judgement.{Judgement, End, Refused, Passed, Told, IsLonger}
use Rattle.packets.specs.Packet.{Recorded}
use Rattle.packets.specs.Pcap.{magic_in, pcap_start, packet_at}
use Rattle.packets.specs.Pcapng.{block_at}

-- ---- a place

abbrev pub begins : List ℕ → List ℕ → Bool
begins magic octets = starts_with (λ a b. a == b) magic octets

-- four octets or fewer are the front of a magic number
abbrev pub begins_magic : List ℕ → Bool
begins_magic octets =
    begins (0xa1 ∷ 0xb2 ∷ 0xc3 ∷ 0xd4 ∷ []) octets
    || begins (0xd4 ∷ 0xc3 ∷ 0xb2 ∷ 0xa1 ∷ []) octets
    || begins (0xa1 ∷ 0xb2 ∷ 0x3c ∷ 0x4d ∷ []) octets
    || begins (0x4d ∷ 0x3c ∷ 0xb2 ∷ 0xa1 ∷ []) octets
    || begins (0x0a ∷ 0x0d ∷ 0x0d ∷ 0x0a ∷ []) octets

-- a file of the format pcap, or else pcapng
abbrev pub start_by : Option Magic → List ℕ → Judgement
start_by (Some magic) octets = pcap_start magic octets
start_by None octets = block_at None [] octets

abbrev pub start_at : List ℕ → Judgement
start_at octets =
    if not (begins_magic (take 4 octets)) then Refused kinds.Format
    else (if nat_lt (length octets) 4 then Refused kinds.Truncated
    else start_by (magic_in (take 4 octets)) octets)

-- the place from which on these octets are left
unfoldable pub judgement_at : Context → List ℕ → Judgement
judgement_at Start octets = start_at octets
judgement_at (Packets magic link_type) octets = packet_at magic link_type octets
judgement_at (Blocks order interfaces) octets = block_at (Some order) interfaces octets

-- These octets are the front of an item that has more, whatever follows them, or of none.
abbrev pub IsBegun : Context → List ℕ → Type 0
IsBegun context octets =
    (more : List ℕ) → IsLonger (length octets) (judgement_at context (octets ++ more))

-- ---- the whole

-- how a recording ends: where it has been read to its end; or within a packet or a block, of which
-- it lacks some, since it was cut short; or by a fault
pub data Ending : Type 0 where
  Whole : Ending
  CutShort : Ending
  Fault : FaultKind → Ending

-- The ending at a place that is refused. What is truncated there was cut short, but in a file's own
-- header.
abbrev pub cut_or : FaultKind → Ending
cut_or kinds.Truncated = CutShort
cut_or kinds.Format = Fault kinds.Format
cut_or kinds.TooLong = Fault kinds.TooLong
cut_or kinds.Block = Fault kinds.Block
cut_or kinds.Time = Fault kinds.Time
cut_or kinds.Device = Fault kinds.Device
cut_or kinds.Memory = Fault kinds.Memory

abbrev pub ending_at : Context → FaultKind → Ending
ending_at Start kind = Fault kind
ending_at (Packets magic link_type) kind = cut_or kind
ending_at (Blocks order interfaces) kind = cut_or kind

-- What stands at a place that is judged so is these packets and then this ending, where `Behind`
-- says which packets what is left after it is, by how that is read.
abbrev pub IsReadBy : (Context → List ℕ → List Recorded → Type 0) → Context → List ℕ
    → List Recorded → Ending → Judgement → Type 0
IsReadBy Behind context octets packets ending End = (packets ≡ []) × (ending ≡ Whole)
IsReadBy Behind context octets packets ending (Refused kind) =
    (packets ≡ []) × (ending ≡ ending_at context kind)
IsReadBy Behind context octets packets ending (Passed len after) =
    Behind after (drop len octets) packets
IsReadBy Behind context octets packets ending (Told len packet) =
    (later : List Recorded) × (packets ≡ packet ∷ later)
    × Behind context (drop len octets) later

-- The octets, of which so many items are read, are these packets and then this ending.
abbrev pub IsReadIn : ℕ → Context → List ℕ → List Recorded → Ending → Type 0
IsReadIn zero context octets packets ending = ⊥
IsReadIn (suc items) context octets packets ending =
    IsReadBy (λ after rest later. IsReadIn items after rest later ending) context octets packets
    ending (judgement_at context octets)

-- however many they are
abbrev pub IsRead : Context → List ℕ → List Recorded → Ending → Type 0
IsRead context octets packets ending =
    (items : ℕ) × IsReadIn items context octets packets ending

-- a file's octets are these packets, and then the end; or what it has of one that was cut short
abbrev pub end_by : Bool → Ending
end_by false = Whole
end_by true = CutShort

abbrev pub Spells : List ℕ → List Recorded → Bool → Type 0
Spells octets packets cut = IsRead Start octets packets (end_by cut)

-- or they are refused for this fault, after these packets: the fault's number is one more than
-- they are many
abbrev pub IsFirstFault : List ℕ → List Recorded → FaultKind → Type 0
IsFirstFault octets packets kind = IsRead Start octets packets (Fault kind)
