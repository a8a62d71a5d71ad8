-- What is left out of a recording's lines where only what isn't well is told.
use Rattle.std.specs.Prelude.{◌≡◌, ◌⊎◌, ℕ, Bool, true, false, IsFalse, List, [], Some}
use Rattle.std.specs.Prelude.{if◌then◌else◌}
use Rattle.std.specs.List.{Contains, flat_map}
use Rattle.bgp_import.specs.declared.refusal.Refusal.{Refusal}
use Rattle.bgp_check_lines.specs.Quiet.{is_well}
use Rattle.bgp_check_lines.specs.Printing.{Printing}
use Rattle.bgp_check_tool.specs.Blocks.{AllRefused, Block, BothEnds, OneEnd, Refused, block_text}
use Rattle.bgp_check_tool.specs.Blocks.{refusal_in}
use Rattle.bgp_check_tool.specs.Text.{told_lines}
use Rattle.bgp_check_tool.specs.Told.{EndTold}

-- all is printed, or only what isn't well
abbrev pub aloud : Bool → Printing
aloud routes = record { routes = routes; quiet = false }

abbrev pub quietly : Bool → Printing
quietly routes = record { routes = routes; quiet = true }

-- One text is another without some of its pieces, each of which is kept or not.
pub record IsThinned (whole part : List ℕ) : Type 0 where
  pub pieces : List (List ℕ × Bool)
  pub is_whole : whole ≡ flat_map (λ (p : List ℕ × Bool). p.0) pieces
  pub is_part : part ≡ flat_map (λ (p : List ℕ × Bool). if p.1 then p.0 else []) pieces

-- an end that is told in a block
abbrev pub IsEndIn : EndTold → Block → Type 0
IsEndIn told (BothEnds session opening outline first second opener other) =
    (told ≡ opener) ⊎ (told ≡ other)
IsEndIn told (OneEnd session opening outline first second) = ⊥
IsEndIn told (Refused session opening refusal) = ⊥
IsEndIn told (AllRefused addresses refusal) = ⊥

-- What is printed of a block where what is well is left out is what is printed of it otherwise,
-- without some pieces. Kept are all lines of an end that is a no or unfinished, and of a refusal.
pub record KeepsTrouble (routes : Bool) (block : Block) : Type 0 where
  pub thinned : IsThinned (block_text (aloud routes) block) (block_text (quietly routes) block)
  pub ends : (told : EndTold) → IsEndIn told block → IsFalse (is_well told.answer)
      → Contains thinned.pieces (told_lines routes told, true)
  pub refusals : (refusal : Refusal) → refusal_in block ≡ Some refusal
      → block_text (quietly routes) block ≡ block_text (aloud routes) block

-- so it is of each block
abbrev pub QuietKeepsTrouble : Type 0
QuietKeepsTrouble = (routes : Bool) (block : Block) → KeepsTrouble routes block
