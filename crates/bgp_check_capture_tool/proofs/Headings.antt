-- The list of a capture is what is told of it without the lines of its ends.
use Rattle.std.proofs.Common.{◌≡◌, ◌∙◌, ◌++◌, ℕ, Bool, false, List, [], ◌∷◌, refl, ap, map}
use Rattle.std.specs.List.{flat_map}
use Rattle.mrt_sessions.specs.File.{Located}
use Rattle.mrt_sessions.specs.Sessions.{records_between}
use Rattle.mrt_sessions.specs.declared.addresses.Addresses.{Addresses}
use Rattle.bgp_check_lines.specs.Sessions.{session_line}
use Rattle.bgp_check_capture_tool.specs.Checking.{Block, blocks_text}
use Rattle.bgp_check_capture_tool.specs.Headings.{ListIsWithoutEnds, end_lines, heading}
use Rattle.bgp_check_capture_tool.specs.Text.{session_text}
use Rattle.bgp_check_lines.specs.Printing.{Printing}

each_heading : (named : List Located) (blocks : List Block)
    → flat_map (heading named) blocks ≡ flat_map (λ (a : Addresses). session_line a (records_between a named)) (map (λ (b : Block). b.addresses) blocks)
each_heading named [] = refl
each_heading named (block ∷ blocks) = ap (λ (text : List ℕ). heading named block ++ text) (each_heading named blocks)

-- where nothing is left out
each_text : (printing : Printing) (named : List Located) (blocks : List Block) → printing.quiet ≡ false
    → blocks_text printing named blocks ≡ flat_map (λ block. heading named block ++ end_lines printing block) blocks
each_text printing named [] loud = refl
each_text printing named (block ∷ blocks) loud =
    ap (λ (q : Bool). session_text q (heading named block) (end_lines printing block) ++ blocks_text printing named blocks) loud
    ∙ ap (λ (text : List ℕ). (heading named block ++ end_lines printing block) ++ text) (each_text printing named blocks loud)

pub without_ends : ListIsWithoutEnds
without_ends options octets ending text tally firsts fault all loud = record {
  is_text = all.is_text ∙ each_text options.printing all.named all.blocks loud;
  lists = record {
    named = all.named;
    offset = all.offset;
    refusal = all.refusal;
    has = all.has.has;
    is_text = each_heading all.named all.blocks ∙ ap (λ (those : List Addresses). flat_map (λ (a : Addresses). session_line a (records_between a all.named)) those) all.are;
    is_fault = all.is_fault;
  };
}
