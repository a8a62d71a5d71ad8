-- What is printed of a recording, without the lines of its ends: its list.
use Rattle.std.specs.Prelude.{◌≡◌, ◌≢◌, ◌++◌, ℕ, Bool, false, List, [], map}
use Rattle.std.specs.List.{AllByRecursion, Contains, flat_map}
use Rattle.std.specs.List.Sorted.{IsStrictlySortedBy}
use Rattle.std.specs.Map.{keys_of}
use Rattle.std.specs.Ordering.{nat_cmp}
use Rattle.packets.specs.Packet.{Recorded}
use Rattle.bgp_import.specs.ListText.{end_of, other_side}
use Rattle.bgp_import.specs.Places.{HasAll}
use Rattle.bgp_import.specs.Reading.{AreKnown}
use Rattle.bgp_import.specs.declared.refusal.Refusal.TheVariants as refusals
use Rattle.bgp_list.specs.Lines.{IsLineAt, LineValue, line_text}
use Rattle.bgp_list.specs.Lines as lines
use Rattle.bgp_list.specs.Recording.{lines_text}
use Rattle.bgp_check_lines.specs.Printing.{Printing}
use Rattle.bgp_check_tool.specs.declared.options.CheckOptions.{CheckOptions}
use Rattle.bgp_check_tool.specs.Blocks.{AllRefused, Block, BothEnds, OneEnd, Refused}
use Rattle.bgp_check_tool.specs.Checking.{blocks_text}
use Rattle.bgp_check_tool.specs.Places.{IsToldAt}
use Rattle.bgp_check_tool.specs.Text.{one_end_line, told_lines}

-- ---- the first line of a block, which is that of a list, and those of its ends

abbrev pub heading : Block → LineValue
heading (BothEnds session opening outline first second opener other) =
    lines.Octets session opening outline first second
heading (OneEnd session opening outline first second) =
    lines.Octets session opening outline first second
heading (Refused session opening refusal) = lines.Refused session opening refusal
heading (AllRefused addresses refusal) = lines.AllRefused addresses refusal

abbrev pub end_lines : Bool → Block → List ℕ
end_lines routes (BothEnds session opening outline first second opener other) =
    told_lines routes opener ++ told_lines routes other
end_lines routes (OneEnd session opening outline first second) =
    one_end_line (end_of opening.opened_by session opening)
    ++ one_end_line (end_of (other_side opening.opened_by) session opening)
end_lines routes (Refused session opening refusal) = []
end_lines routes (AllRefused addresses refusal) = []

-- the first lines, each at its place
abbrev pub headings : List (ℕ × Block) → List (ℕ × LineValue)
headings blocks = map (λ (b : ℕ × Block). (b.0, heading b.1)) blocks

-- memory wasn't refused for the ends of a connection, which has no line in a list
abbrev pub HasMemory : ℕ → Block → Type 0
HasMemory last_packet (BothEnds session opening outline first second opener other) = Unit {0}
HasMemory last_packet (OneEnd session opening outline first second) = Unit {0}
HasMemory last_packet (Refused session opening refusal) = refusal ≢ refusals.Memory last_packet
HasMemory last_packet (AllRefused addresses refusal) = Unit {0}

-- ---- a list

-- These lines are a list of the recording: one at each packet at which there is something to list,
-- in the order of the packets. `bgp list` prints such a list, if memory isn't refused.
pub record IsList (port : ℕ) (packets : List Recorded) (last_packet : ℕ)
    (lines : List (ℕ × LineValue)) : Type 0 where
  pub are_lines : AllByRecursion
      (λ (l : ℕ × LineValue). IsLineAt port packets last_packet l.0 l.1) lines
  pub rise : IsStrictlySortedBy nat_cmp (keys_of lines)
  pub all : HasAll port packets (Contains (keys_of lines))

-- And they are the only one: each list of the recording has these lines, and their text.
pub record IsTheList (port : ℕ) (packets : List Recorded) (last_packet : ℕ)
    (lines : List (ℕ × LineValue)) : Type 0 where
  pub is_list : IsList port packets last_packet lines
  pub is_only : (others : List (ℕ × LineValue)) → IsList port packets last_packet others
      → (others ≡ lines) × (lines_text others ≡ lines_text lines)

-- ---- the laws

-- Where nothing is left out, what is printed of a recording are these lines, block by block. And each
-- first line is one that a list of the recording has, at the same place.
pub record PrintsListLines (printing : Printing) (port : ℕ) (packets : List Recorded)
    (last_packet : ℕ) (blocks : List (ℕ × Block)) : Type 0 where
  pub is_text : blocks_text printing blocks
      ≡ flat_map (λ (b : ℕ × Block). line_text (heading b.1) ++ end_lines printing.routes b.1)
      blocks
  pub are_lines : AllByRecursion
      (λ (l : ℕ × LineValue). IsLineAt port packets last_packet l.0 l.1) (headings blocks)
  pub are_places : keys_of (headings blocks) ≡ keys_of blocks

abbrev pub ListIsWithoutEnds : Type 0
ListIsWithoutEnds =
    (options : CheckOptions) (packets : List Recorded) (last_packet : ℕ)
    (blocks : List (ℕ × Block))
    → AllByRecursion
    (λ (b : ℕ × Block). IsToldAt options packets last_packet b.0 b.1) blocks
    → AllByRecursion (λ (b : ℕ × Block). HasMemory last_packet b.1) blocks
    → options.printing.quiet ≡ false
    → PrintsListLines options.printing options.port packets last_packet blocks

-- The first lines are the list of the recording, if the blocks stand at all packets at which there
-- is something to list, in their order.
abbrev pub HeadingsAreTheList : Type 0
HeadingsAreTheList =
    (options : CheckOptions) (packets : List Recorded) (last_packet : ℕ)
    (blocks : List (ℕ × Block)) → AreKnown packets
    → AllByRecursion
    (λ (b : ℕ × Block). IsToldAt options packets last_packet b.0 b.1) blocks
    → AllByRecursion (λ (b : ℕ × Block). HasMemory last_packet b.1) blocks
    → IsStrictlySortedBy nat_cmp (keys_of blocks)
    → HasAll options.port packets (Contains (keys_of blocks))
    → IsTheList options.port packets last_packet (headings blocks)
