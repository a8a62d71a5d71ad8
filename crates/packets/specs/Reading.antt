-- What a read of one item of a recording tells of it: a header of the file, a packet or a block.
use Rattle.std.specs.Prelude.{◌≡◌, ◌≤◌, ◌<◌, ◌+◌, ◌++◌, ℕ, Bool, List, [], ◌∷◌, length, take, drop}
use Rattle.std.specs.Prelude.{◌≢◌, ◌⊎◌, IsTrue, Option, None, Some, Result, Ok, Err}
use Rattle.packets.specs.Pcapng.{end_len, left_block}
use Rattle.packets.specs.declared.order.Order.{Order}
use Rattle.packets.specs.declared.fault.FaultKind.{FaultKind}
use Rattle.packets.specs.declared.fault.FaultKind.TheVariants as kinds
use Rattle.packets.specs.Context.{Context, Start, Packets, Blocks}
use Rattle.packets.specs.Judgement as judged
use Rattle.packets.specs.Judgement.{Judgement, IsLonger}
use Rattle.packets.specs.Packet.{Recorded}
use Rattle.packets.specs.declared.blocks.BlockKind.{BlockKind}
use Rattle.packets.specs.declared.blocks.Interface.{Interface}
use Rattle.packets.specs.declared.progress.Format.{Format}
use Rattle.packets.specs.declared.progress.Format.TheVariants as formats
use Rattle.packets.specs.declared.reading.Found.{Found}
use Rattle.packets.specs.declared.reading.Read.{Read}
use Rattle.packets.specs.declared.reading.Read.TheVariants as reads

-- how a file of this format is read on, where these interfaces were described
abbrev pub context_of : Format → List Interface → Context
context_of formats.Unknown interfaces = Start
context_of (formats.Pcap magic link_type) interfaces = Packets magic link_type
context_of (formats.Pcapng order) interfaces = Blocks order interfaces

-- one interface more was described
abbrev pub with_interface : Context → Interface → Context
with_interface Start interface = Start
with_interface (Packets magic link_type) interface = Packets magic link_type
with_interface (Blocks order interfaces) interface =
    Blocks order (interfaces ++ interface ∷ [])

-- a found packet, whose octets the buffer holds
abbrev pub recorded_in : Found → List ℕ → Recorded
recorded_in found buffer = record {
  second = found.second;
  micro = found.micro;
  link_type = found.link_type;
  octets = take found.count (drop found.at buffer);
  wire_count = found.wire_count;
}

-- what an item of so many octets is judged that was read so
abbrev pub judgement_of : ℕ → Context → List ℕ → Read → Judgement
judgement_of len context buffer reads.End = judged.End
judgement_of len context buffer (reads.Refused kind) = judged.Refused kind
judgement_of len context buffer (reads.Opened format) = judged.Passed len (context_of format [])
judgement_of len context buffer (reads.Described interface) =
    judged.Passed len (with_interface context interface)
judgement_of len context buffer reads.Skipped = judged.Passed len context
judgement_of len context buffer (reads.Packet found) = judged.Told len (recorded_in found buffer)

-- nothing is read after it
abbrev pub IsStop : Read → Type 0
IsStop reads.End = Unit {0}
IsStop (reads.Refused kind) = Unit {0}
IsStop (reads.Opened format) = ⊥
IsStop (reads.Described interface) = ⊥
IsStop reads.Skipped = ⊥
IsStop (reads.Packet found) = ⊥

-- Whatever follows these octets, they are judged as they were read. Nothing follows the last of a
-- source that has ended, where nothing is read after it.
abbrev pub IsReadAs : (List ℕ → Judgement) → Context → List ℕ → Bool → List ℕ → Read → Type 0
IsReadAs judge context octets ended buffer read =
    (more : List ℕ) → (IsStop read → IsTrue ended → more ≡ [])
    → judge (octets ++ more) ≡ judgement_of (length octets) context buffer read

-- What isn't the end has octets, so many, and a found packet's are in the buffer. The source has
-- ended where what was read is truncated.
abbrev pub IsInBuffer : ℕ → Bool → List ℕ → Read → Type 0
IsInBuffer count ended buffer reads.End = (count ≡ 0) × IsTrue ended
IsInBuffer count ended buffer (reads.Refused kind) = kind ≡ kinds.Truncated → IsTrue ended
IsInBuffer count ended buffer (reads.Opened format) = 0 < count
IsInBuffer count ended buffer (reads.Described interface) = 0 < count
IsInBuffer count ended buffer reads.Skipped = 0 < count
IsInBuffer count ended buffer (reads.Packet found) =
    (0 < count) × (found.at + found.count ≤ length buffer)

-- These octets are the front of an item that has more, whatever follows them, or of none.
abbrev pub IsBegunAs : (List ℕ → Judgement) → List ℕ → Type 0
IsBegunAs judge octets =
    (more : List ℕ) → IsLonger (length octets) (judge (octets ++ more))

-- how blocks are judged in a section with this order of octets, or else at the start
abbrev pub section_context : Option Order → List Interface → Context
section_context None interfaces = Start
section_context (Some order) interfaces = Blocks order interfaces

-- The octets after the head of a block of this kind and total length were read so, 12 less than the
-- block has.
abbrev pub IsRestRead : Order → List Interface → BlockKind → ℕ → List ℕ → Context → List ℕ → Bool
    → List ℕ → Read → Type 0
IsRestRead order interfaces kind len head context octets ended buffer read =
    ((more : List ℕ) → (IsStop read → IsTrue ended → more ≡ [])
    → left_block order interfaces kind len head (octets ++ more)
    ≡ judgement_of (12 + length octets) context buffer read)
    × IsInBuffer (12 + length octets) ended buffer read

-- What an Enhanced Packet of so many octets is judged, the rest of which is this.
abbrev pub told_as : ℕ → List ℕ → Result Found FaultKind → Judgement
told_as len rest (Ok found) = judged.Told len (recorded_in found rest)
told_as len rest (Err kind) = judged.Refused kind

-- These octets after the head of a block were read, and no fault was found: they are all of the
-- block, and it ends as it has to. Or it doesn't; or the source has ended before.
abbrev pub IsPassedOver : Order → List ℕ → ℕ → List ℕ → Bool → Option FaultKind → Type 0
IsPassedOver order head len octets ended None =
    (12 + length octets ≡ len) × (end_len order head octets ≡ len)
IsPassedOver order head len octets ended (Some kind) =
    ((kind ≡ kinds.Truncated) × (12 + length octets < len) × IsTrue ended)
    ⊎ ((kind ≡ kinds.Block) × (12 + length octets ≡ len) × (end_len order head octets ≢ len))
