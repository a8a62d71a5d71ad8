-- A file of the format pcapng: blocks, one after another.
--
--  0      4              8      total length - 4   total length
-- +------+--------------+------+------------------+
-- | type | total length | body | total length     |
-- +------+--------------+------+------------------+
--
-- What is read here is the first 12 octets, its head, in which the body begins; and the rest. The
-- bodies, from octet 8 of the block on:
--
--  8                  12      14      16                24
--  Section Header     +-------+-------+-----------------+---------
--  | order of octets  | major | minor | section length  | options
--  8                  12                 16
--  Interface Description                 +-----------------
--  | link type, 2 not used | most kept   | options
--  8                  12           16          20     24     28
--  Enhanced Packet    +------------+-----------+------+------+--------------------------
--  | interface        | ticks high | ticks low | kept | wire | octets kept, filled to 4, options
--
-- A Section Header's type is 0a0d0d0a in either order of octets, and it tells the order of its
-- section: 1a2b3c4d. An option has a code and a length of two octets each, and a value that is
-- filled to 4 octets; code 0 is the last.
use Rattle.std.specs.Prelude.{ℕ, zero, suc, ◌+◌, ◌-◌, ◌*◌, ◌/◌, ◌%◌, ◌==◌, ◌||◌, not, Bool, false}
use Rattle.std.specs.Prelude.{ℤ, pos, List, [], ◌∷◌, ◌++◌, length, take, drop, slice_index}
use Rattle.std.specs.Prelude.{slice_get, nat_lt, Option, None, Some, if◌then◌else◌}
use Rattle.byteorder.specs.Endian.{big_number}
use Rattle.packets.specs.declared.order.Order.{Order}
use Rattle.packets.specs.declared.order.Order.TheVariants.{Big, Little}
use Rattle.packets.specs.declared.blocks.BlockKind.{BlockKind}
use Rattle.packets.specs.declared.blocks.BlockKind.TheVariants as blocks
use Rattle.packets.specs.declared.blocks.Interface.{Interface}
use Rattle.packets.specs.declared.clock.Clock.{Clock}
use Rattle.packets.specs.declared.fault.FaultKind.TheVariants as kinds
use Rattle.packets.specs.Clock.{second_at, micro_at}
use Rattle.packets.specs.Context.{Blocks}
use Rattle.packets.specs.Judgement.{Judgement, End, Refused, Passed, Told}
use Rattle.packets.specs.Order.{number_in, signed_in}

-- ---- the head

abbrev pub is_section : List ℕ → Bool
is_section head = big_number 4 head == 0x0a0d0d0a

-- the order of octets that a Section Header tells, if it tells one
abbrev pub section_order : List ℕ → Option Order
section_order head =
    if big_number 4 (drop 8 head) == 0x1a2b3c4d then Some Big
    else (if big_number 4 (drop 8 head) == 0x4d3c2b1a then Some Little else None)

-- the order of a block's numbers, where its section has this one
abbrev pub block_order : Option Order → List ℕ → Option Order
block_order section head = if is_section head then section_order head else section

-- the block of this type, if it is no Section Header
abbrev pub kind_of : ℕ → BlockKind
kind_of number =
    if number == 1 then blocks.Interface
    else (if (number == 2) || (number == 3) then blocks.Timeless
    else (if number == 6 then blocks.Enhanced else blocks.Other))

abbrev pub block_kind : Order → List ℕ → BlockKind
block_kind order head =
    if is_section head then blocks.Section else kind_of (number_in order 4 head)

-- the total length
abbrev pub block_len : Order → List ℕ → ℕ
block_len order head = number_in order 4 (drop 4 head)

-- the least total length of a block
abbrev pub least_len : BlockKind → ℕ
least_len blocks.Section = 28
least_len blocks.Interface = 20
least_len blocks.Timeless = 12
least_len blocks.Enhanced = 32
least_len blocks.Other = 12

-- a total length that is no multiple of 4, or below the least
abbrev pub has_bad_len : BlockKind → ℕ → Bool
has_bad_len kind len = not (len % 4 == 0) || nat_lt len (least_len kind)

-- the block is one that is held, and longer than any that is read
abbrev pub is_too_long : BlockKind → ℕ → Bool
is_too_long blocks.Section len = false
is_too_long blocks.Interface len = nat_lt 65536 len
is_too_long blocks.Timeless len = false
is_too_long blocks.Enhanced len = nat_lt 327680 len
is_too_long blocks.Other len = false

-- ---- an Interface Description

-- what an option says: it is the last, or runs over what is left, or isn't of its length; the
-- resolution; the offset; another one; the latter with how many octets they take
pub data Said : Type 0 where
  Last : Said
  Faulty : Said
  Resolution : ℕ → ℕ → Said
  Offset : ℤ → ℕ → Said
  Skips : ℕ → Said

-- how many octets an option takes whose value has so many
abbrev pub option_len : ℕ → ℕ
option_len len = 4 + 4 * ((len + 3) / 4)

-- the resolution is one octet, the offset eight
abbrev pub resolution_by : ℕ → List ℕ → Said
resolution_by len octets =
    if len == 1 then Resolution (slice_index octets 4) (option_len len) else Faulty

abbrev pub offset_by : Order → ℕ → List ℕ → Said
offset_by order len octets =
    if len == 8 then Offset (signed_in order (drop 4 octets)) (option_len len) else Faulty

-- an option with this code and length, which is there as a whole
unfoldable pub whole_option : Order → ℕ → ℕ → List ℕ → Said
whole_option order code len octets =
    if code == 9 then resolution_by len octets
    else (if code == 14 then offset_by order len octets else Skips (option_len len))

abbrev pub option_by : Order → ℕ → ℕ → List ℕ → Said
option_by order code len octets =
    if code == 0 then Last
    else (if nat_lt (length octets) (option_len len) then Faulty
    else whole_option order code len octets)

-- the option at the front of the octets
unfoldable pub option_at : Order → List ℕ → Said
option_at order octets =
    if length octets == 0 then Last
    else (if nat_lt (length octets) 4 then Faulty
    else option_by order (number_in order 2 octets) (number_in order 2 (drop 2 octets)) octets)

-- The clock that the options tell, where it was this one before them; none, where one is faulty.
-- Each option takes four octets at least, so there are no more of them than octets.
unfoldable pub clock_by : ℕ → Order → Clock → List ℕ → Option Clock
clock_by zero order clock octets = None
clock_by (suc most) order clock octets =
    elim (option_at order octets) [
      | Last ↦ Some clock
      | Faulty ↦ None
      | Resolution resolution len ↦
          clock_by most order (record clock { resolution = resolution }) (drop len octets)
      | Offset offset len ↦
          clock_by most order (record clock { offset = offset }) (drop len octets)
      | Skips len ↦ clock_by most order clock (drop len octets)
    ]

-- microseconds
abbrev pub fresh_clock : Clock
fresh_clock = record { resolution = 6; offset = pos 0 }

-- the options, which stand between the fixed fields and the total length at the end
abbrev pub options_in : List ℕ → List ℕ
options_in rest = drop 4 (take (length rest - 4) rest)

abbrev pub clock_in : Order → List ℕ → Option Clock
clock_in order options = clock_by (suc (length options)) order fresh_clock options

abbrev pub with_clock : ℕ → Option Clock → Option Interface
with_clock link_type None = None
with_clock link_type (Some clock) = Some (record { link_type = link_type; clock = clock })

-- the interface, by the head and the rest of its block
unfoldable pub interface_in : Order → List ℕ → List ℕ → Option Interface
interface_in order head rest =
    with_clock (number_in order 2 (drop 8 head)) (clock_in order (options_in rest))

-- ---- an Enhanced Packet

pub record EnhancedHeader : Type 0 where
  pub interface : ℕ
  pub ticks : ℕ
  pub kept : ℕ
  pub wire : ℕ

unfoldable pub enhanced_in : Order → List ℕ → List ℕ → EnhancedHeader
enhanced_in order head rest = record {
  interface = number_in order 4 (drop 8 head);
  ticks = number_in order 4 rest * 4294967296 + number_in order 4 (drop 4 rest);
  kept = number_in order 4 (drop 8 rest);
  wire = number_in order 4 (drop 12 rest);
}

abbrev pub told_at : ℕ → Interface → EnhancedHeader → List ℕ → Option ℕ → Judgement
told_at len interface header rest None = Refused kinds.Time
told_at len interface header rest (Some second) = Told len (record {
  second = second;
  micro = Some (micro_at interface.clock header.ticks);
  link_type = interface.link_type;
  octets = take header.kept (drop 16 rest);
  wire_count = header.wire;
})

-- the packet of this interface, if it was described
abbrev pub told_by : ℕ → Option Interface → EnhancedHeader → List ℕ → Judgement
told_by len None header rest = Refused kinds.Block
told_by len (Some interface) header rest =
    if nat_lt len (32 + header.kept) then Refused kinds.Block
    else told_at len interface header rest (second_at interface.clock header.ticks)

abbrev pub enhanced_by : List Interface → ℕ → EnhancedHeader → List ℕ → Judgement
enhanced_by interfaces len header rest =
    if nat_lt 262144 header.kept then Refused kinds.TooLong
    else told_by len (slice_get interfaces header.interface) header rest

-- ---- any block

abbrev pub described : Order → List Interface → ℕ → Option Interface → Judgement
described order interfaces len None = Refused kinds.Block
described order interfaces len (Some interface) =
    Passed len (Blocks order (interfaces ++ interface ∷ []))

-- a whole block
abbrev pub whole_block : Order → List Interface → BlockKind → ℕ → List ℕ → List ℕ → Judgement
whole_block order interfaces blocks.Section len head rest =
    if not (number_in order 2 rest == 1) then Refused kinds.Format
    else Passed len (Blocks order [])
whole_block order interfaces blocks.Interface len head rest =
    described order interfaces len (interface_in order head rest)
whole_block order interfaces blocks.Timeless len head rest = Refused kinds.Block
whole_block order interfaces blocks.Enhanced len head rest =
    enhanced_by interfaces len (enhanced_in order head rest) rest
whole_block order interfaces blocks.Other len head rest = Passed len (Blocks order interfaces)

-- the total length as the block ends with it
unfoldable pub end_len : Order → List ℕ → List ℕ → ℕ
end_len order head rest = number_in order 4 (drop (length rest) (drop 8 head ++ rest))

abbrev pub ended_block : Order → List Interface → BlockKind → ℕ → List ℕ → List ℕ → Judgement
ended_block order interfaces kind len head rest =
    if not (end_len order head rest == len) then Refused kinds.Block
    else whole_block order interfaces kind len head rest

-- a block of this total length: `left` is what is left after its head
abbrev pub left_block : Order → List Interface → BlockKind → ℕ → List ℕ → List ℕ → Judgement
left_block order interfaces kind len head left =
    if nat_lt (length left) (len - 12) then Refused kinds.Truncated
    else ended_block order interfaces kind len head (take (len - 12) left)

-- a block by its kind and its total length
abbrev pub sized_block : Order → List Interface → BlockKind → ℕ → List ℕ → List ℕ → Judgement
sized_block order interfaces kind len head left =
    if has_bad_len kind len then Refused kinds.Block
    else (if is_too_long kind len then Refused kinds.TooLong
    else left_block order interfaces kind len head left)

-- a block by the order of its octets
abbrev pub ordered_block : Option Order → List Interface → List ℕ → List ℕ → Judgement
ordered_block None interfaces head left = Refused kinds.Format
ordered_block (Some order) interfaces head left =
    sized_block order interfaces (block_kind order head) (block_len order head) head left

-- what stands there, after blocks of a section with this order of octets and these interfaces
abbrev pub block_at : Option Order → List Interface → List ℕ → Judgement
block_at section interfaces octets =
    if length octets == 0 then End
    else (if nat_lt (length octets) 12 then Refused kinds.Truncated
    else ordered_block (block_order section (take 12 octets)) interfaces (take 12 octets)
    (drop 12 octets))
