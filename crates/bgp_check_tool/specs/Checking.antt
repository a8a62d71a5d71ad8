-- What checking a recording writes and answers.
use Rattle.std.specs.Prelude.{◌≡◌, ◌⊎◌, ◌+◌, ◌++◌, ℕ, Bool, true, false, List, [], ◌∷◌}
use Rattle.std.specs.Prelude.{Option, None, Some, if◌then◌else◌, map}
use Rattle.std.specs.List.{AllByRecursion, Contains, flat_map}
use Rattle.std.specs.List.Sorted.{IsStrictlySortedBy}
use Rattle.std.specs.Map.{keys_of}
use Rattle.std.specs.Option.{option_or}
use Rattle.std.specs.Ordering.{nat_cmp}
use Rattle.packets.specs.Packet.{Recorded}
use Rattle.mrt.specs.declared.sink.Sink as sinks
use Rattle.bgp_check_lines.specs.Lines.{PutsLines}
use Rattle.bgp_check_lines.specs.Printed.{IsWrittenIn}
use Rattle.bgp_check_lines.specs.Values.{cut_short_line, nothing_at_line}
use Rattle.bgp_check_lines.specs.declared.check_lines.CheckLines.{CheckLines}
use Rattle.bgp_import.specs.declared.cut_short.CutShort.{CutShort}
use Rattle.bgp_import.specs.declared.refusal.Refusal.{Refusal}
use Rattle.bgp_import.specs.declared.refusal.Refusal.TheVariants as refusals
use Rattle.bgp_check_lines.specs.Tally.{has_verdict, is_empty, is_incomplete, no_tally, status_of}
use Rattle.bgp_check_lines.specs.Tally.{last_text}
use Rattle.bgp_check_lines.specs.Printing.{Printing}
use Rattle.bgp_check_lines.specs.DeclaredTally.{Tally}
use Rattle.bgp_check_tool.specs.declared.nothing.NothingJudged.{NothingJudged}
use Rattle.bgp_check_tool.specs.declared.options.CheckOptions.{CheckOptions}
use Rattle.bgp_import.specs.declared.talks.Talks.{Talks}
use Rattle.bgp_list.specs.Connections.{refused_text}
use Rattle.bgp_list.specs.Firsts.{firsts_after, with_first}
use Rattle.bgp_check_tool.specs.Blocks.{Block, block_text, refusal_in}
use Rattle.bgp_check_tool.specs.Counted.{with_block, with_refused}
use Rattle.bgp_import.specs.Places.{HasAll}
use Rattle.bgp_check_tool.specs.Judging.{options_by}
use Rattle.bgp_check_tool.specs.Marks.{AddsMarks, block_marks, marks_of}
use Rattle.bgp_check_tool.specs.declared.marks.Marks.{Marks}
use Rattle.bgp_check_tool.specs.Places.{IsToldAt}
use Rattle.bgp_import.specs.Reading.{IsMemory, IsReadTo, cut_short_at, failures_of, looked_at}
use Rattle.bgp_import.specs.Talks.{HoldsEach, HoldsSome}

-- ---- the blocks, each with the packet at which it stands

abbrev pub blocks_text : Printing → List (ℕ × Block) → List ℕ
blocks_text printing blocks = flat_map (λ (b : ℕ × Block). block_text printing b.1) blocks

abbrev pub tally_from : Tally → List (ℕ × Block) → Tally
tally_from tally [] = tally
tally_from tally (block ∷ blocks) = tally_from (with_block tally block.1) blocks

abbrev pub refusals_in : List (ℕ × Block) → List (Option Refusal)
refusals_in blocks = map (λ (b : ℕ × Block). refusal_in b.1) blocks

-- One block was put, and is counted; its refusal is added, where it has one and none of that number
-- is there.
pub record PutsBlock {Y T : Type 0} {sink : sinks.Ghosts T} (options : CheckOptions)
    (packets : List Recorded) (last_packet place : ℕ) (lines lines' : CheckLines Y T sink)
    (tally tally' : Tally) (firsts firsts' : List (Option Refusal)) (marks marks' : Marks Y)
    : Type 0 where
  pub block : Block
  pub told : IsToldAt options packets last_packet place block
  pub wrote : PutsLines lines lines' (block_text options.printing block)
  pub tallied : tally' ≡ with_block tally block
  pub added : firsts' ≡ with_first firsts (refusal_in block)
  pub marked : AddsMarks marks marks' (block_marks options.printing block)

-- Blocks were put at these places, and are counted; of their refusals the first of each number is
-- added.
pub record PutsBlocks {Y T : Type 0} {sink : sinks.Ghosts T} (options : CheckOptions)
    (packets : List Recorded) (last_packet : ℕ) (places : List ℕ) (lines lines' : CheckLines Y T sink)
    (tally tally' : Tally) (firsts firsts' : List (Option Refusal)) (marks marks' : Marks Y)
    : Type 0 where
  pub blocks : List (ℕ × Block)
  pub told : AllByRecursion
      (λ (b : ℕ × Block). IsToldAt options packets last_packet b.0 b.1) blocks
  pub are_places : keys_of blocks ≡ places
  pub wrote : PutsLines lines lines' (blocks_text options.printing blocks)
  pub tallied : tally' ≡ tally_from tally blocks
  pub added : firsts' ≡ firsts_after firsts (refusals_in blocks)
  pub marked : AddsMarks marks marks' (marks_of options.printing blocks)

-- The blocks of these packets were put, in the order of their places; or none, where there was no
-- memory for a list of them: that memory was refused is no answer beside a block, nor where there
-- is nothing to tell of.
pub record PutsAll {Y T : Type 0} {sink : sinks.Ghosts T} (options : CheckOptions)
    {Z : Type 0} (packets : List Recorded) (talks : Talks Z) (last_packet : ℕ)
    (lines lines' : CheckLines Y T sink) (tally tally' : Tally) (firsts firsts' : List (Option Refusal))
    (marks marks' : Marks Y) (lacking : Option Refusal) : Type 0 where
  pub places : List ℕ
  pub rise : IsStrictlySortedBy nat_cmp places
  pub puts : PutsBlocks options packets last_packet places lines lines' tally tally' firsts
      firsts' marks marks'
  pub lacks : (lacking ≡ None) ⊎ (lacking ≡ Some (refusals.Memory last_packet))
  pub none : (lacking ≡ None) ⊎ (places ≡ [])
  pub some : (lacking ≡ None) ⊎ (¬ HasAll options.port packets (Contains places))
  pub all : lacking ≡ None → HoldsEach options.port packets talks
      → HasAll options.port packets (Contains places)

-- what is told of the file, where that is refused
abbrev pub file_text : Option Refusal → List ℕ
file_text None = []
file_text (Some refusal) = refused_text refusal

-- that the file was cut short, where it was; left out with all that is well
abbrev pub cut_note : Bool → Option CutShort → List ℕ
cut_note quiet None = []
cut_note true (Some cut) = []
cut_note false (Some cut) = cut_short_line (cut.before + 1)

abbrev pub with_file : Tally → Option Refusal → Tally
with_file tally None = tally
with_file tally (Some refusal) = with_refused tally refusal

-- that no connection has this port, where nothing was told
abbrev pub nothing_text : ℕ → Tally → List ℕ
nothing_text port tally = if is_empty tally then nothing_at_line port else []

-- that no end is judged is told where the file was read to its end, and whether more could be, if
-- more were recorded
abbrev pub nothing_where : ℕ → Bool → Bool → Option Refusal → Option NothingJudged
nothing_where port true incomplete refusal = None
nothing_where port false incomplete (Some refusal) = None
nothing_where port false incomplete None =
    Some (record { port = port; is_incomplete = incomplete })

abbrev pub nothing_by : ℕ → Tally → Option Refusal → Option NothingJudged
nothing_by port tally refusal =
    nothing_where port (has_verdict tally) (is_incomplete tally) refusal

-- These packets are read, up to the end, or to where the file was cut short, or to what keeps it
-- from being read on; the source counts one failure more where that is a device that failed. Of
-- them these blocks are told, in the order of their places: all, unless memory was refused. Then
-- why the file can't be read on, if it can't, of which `judge` then gives no verdict; that there
-- was no memory for a list of the blocks, if there was none: then none of them is told, and there
-- is something to tell of. Then that the file was cut short, if it was; and last how many ends
-- there are of each verdict. All of that was written, if the sink didn't fail. Of all refusals
-- those are answered that are the first of their number.
pub record ChecksRecording {S T : Type 0} (gives : S → S → List ℕ → Type 0) (has_ended : S → Bool)
    (takes : T → T → List ℕ → Type 0) (source_failures : S → ℕ) (failures : T → ℕ)
    (options : CheckOptions) (source source' : S) (sink sink' : T) (status : ℕ)
    (cut_short : Option CutShort) (firsts : List (Option Refusal))
    (refusal : Option Refusal) (nothing : Option NothingJudged) : Type 0 where
  pub packets : List Recorded
  pub short : Bool
  pub stopped : Option Refusal
  pub read : IsReadTo gives has_ended source source' packets short stopped
  pub counted : source_failures source' ≡ source_failures source + failures_of stopped
  pub is_cut_short : cut_short ≡ cut_short_at (looked_at packets stopped) short stopped
  pub lacking : Option Refusal
  pub lacks : (lacking ≡ None)
      ⊎ (lacking ≡ Some (refusals.Memory (looked_at packets stopped)))
  pub is_refusal : refusal ≡ option_or stopped lacking
  pub blocks : List (ℕ × Block)
  pub told : AllByRecursion (λ (b : ℕ × Block). IsToldAt (options_by stopped options) packets
      (looked_at packets stopped) b.0 b.1) blocks
  pub rise : IsStrictlySortedBy nat_cmp (keys_of blocks)
  pub none : (lacking ≡ None) ⊎ (blocks ≡ [])
  pub some : (lacking ≡ None) ⊎ (¬ HasAll options.port packets (Contains (keys_of blocks)))
  pub all : lacking ≡ None → ¬ IsMemory stopped
      → HasAll options.port packets (Contains (keys_of blocks))
  pub tally : Tally
  pub counts : tally ≡ with_file (with_file (tally_from no_tally blocks) stopped) lacking
  pub are_firsts : firsts
      ≡ with_first (with_first (firsts_after [] (refusals_in blocks)) stopped) lacking
  pub is_nothing : nothing ≡ nothing_by options.port tally refusal
  pub written : IsWrittenIn options.form takes failures
      (blocks_text options.printing blocks
      ++ (file_text stopped ++ (file_text lacking ++ (cut_note options.printing.quiet cut_short
      ++ (nothing_text options.port tally ++ last_text options.printing.quiet tally)))))
      (status_of tally) sink sink' status

-- And of these blocks it is known where a no stands; the connections of the packets are held.
pub record ChecksMarked {S T Y : Type 0} (gives : S → S → List ℕ → Type 0) (has_ended : S → Bool)
    (takes : T → T → List ℕ → Type 0) (source_failures : S → ℕ) (failures : T → ℕ)
    (options : CheckOptions) (source source' : S) (sink sink' : T) (status : ℕ)
    (cut_short : Option CutShort) (firsts : List (Option Refusal))
    (refusal : Option Refusal) (nothing : Option NothingJudged) (talks : Talks Y)
    (marks marks' : Marks Y) : Type 0 where
  pub checks : ChecksRecording gives has_ended takes source_failures failures options source
      source' sink sink' status cut_short firsts refusal nothing
  pub held : HoldsSome options.port checks.packets talks
  pub marked : AddsMarks marks marks' (marks_of options.printing checks.blocks)
