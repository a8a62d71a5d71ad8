-- The list of a recording is what is printed of it without the lines of its ends.
use Rattle.std.proofs.Common.{◌≡◌, ◌∙◌, ◌++◌, ℕ, Bool, false, List, [], ◌∷◌, inl, inr, refl, sym, ap, append-nil, subst}
use Rattle.std.specs.List.{AllByRecursion, Contains, flat_map}
use Rattle.std.specs.List.Sorted.{IsStrictlySortedBy}
use Rattle.std.specs.Map.{keys_of}
use Rattle.std.specs.Ordering.{nat_cmp}
use Rattle.packets.specs.Packet.{Recorded}
use Rattle.bgp_list.specs.Lines.{IsLineAt, LineValue, line_text}
use Rattle.bgp_check_lines.specs.Printing.{Printing}
use Rattle.bgp_check_tool.specs.declared.options.CheckOptions.{CheckOptions}
use Rattle.bgp_check_tool.specs.Blocks.{AllRefused, Block, BothEnds, OneEnd, Refused, block_text}
use Rattle.bgp_check_tool.specs.Checking.{blocks_text}
use Rattle.bgp_list.specs.Recording.{lines_text}
use Rattle.bgp_import.specs.Places.{HasAll}
use Rattle.bgp_check_tool.specs.Headings.{HasMemory, HeadingsAreTheList, IsList, ListIsWithoutEnds, end_lines, heading, headings}
use Rattle.bgp_check_tool.specs.Places.{IsToldAt}
use Rattle.bgp_check_tool.proofs.OneList.{one_list}

-- ---- the text

-- where nothing is left out
abbrev aloud : Bool → Printing
aloud routes = record { routes = routes; quiet = false }

one_text : (routes : Bool) (block : Block) → block_text (aloud routes) block ≡ line_text (heading block) ++ end_lines routes block
one_text routes (BothEnds session opening outline first second opener other) = refl
one_text routes (OneEnd session opening outline first second) = refl
one_text routes (Refused session opening refusal) = sym (append-nil (line_text (heading (Refused session opening refusal))))
one_text routes (AllRefused addresses refusal) = sym (append-nil (line_text (heading (AllRefused addresses refusal))))

all_text : (routes : Bool) (blocks : List (ℕ × Block))
    → blocks_text (aloud routes) blocks ≡ flat_map (λ (b : ℕ × Block). line_text (heading b.1) ++ end_lines routes b.1) blocks
all_text routes [] = refl
all_text routes (block ∷ blocks) =
    ap (λ (o : List ℕ). o ++ blocks_text (aloud routes) blocks) (one_text routes block.1)
    ∙ ap (λ (o : List ℕ). (line_text (heading block.1) ++ end_lines routes block.1) ++ o) (all_text routes blocks)

loud_text : (printing : Printing) (blocks : List (ℕ × Block)) → printing.quiet ≡ false
    → blocks_text printing blocks ≡ flat_map (λ (b : ℕ × Block). line_text (heading b.1) ++ end_lines printing.routes b.1) blocks
loud_text printing blocks loud =
    subst (λ (q : Bool). blocks_text (record { routes = printing.routes; quiet = q }) blocks ≡ flat_map (λ (b : ℕ × Block). line_text (heading b.1) ++ end_lines printing.routes b.1) blocks) (sym loud)
    (all_text printing.routes blocks)

-- ---- the lines

module _ (options : CheckOptions) (packets : List Recorded) (last_packet : ℕ) where
  one_line : (place : ℕ) (block : Block) → IsToldAt options packets last_packet place block → HasMemory last_packet block
      → IsLineAt options.port packets last_packet place (heading block)
  one_line place (BothEnds session opening outline first second opener other) told has = let its = told.is_block.2 in record {
    addresses = told.addresses;
    segments = told.segments;
    has = told.has;
    is_session = told.is_session;
    is_place = told.is_place;
    is_line = (refl, refl, record { connection = its.connection; chosen = its.chosen; outlined = its.is_outline; is_first = its.is_first; is_second = its.is_second });
  }
  one_line place (OneEnd session opening outline first second) told has = let its = told.is_block.2 in record {
    addresses = told.addresses;
    segments = told.segments;
    has = told.has;
    is_session = told.is_session;
    is_place = told.is_place;
    is_line = (refl, refl, record { connection = its.connection; chosen = its.chosen; outlined = its.is_outline; is_first = its.is_first; is_second = its.is_second });
  }
  one_line place (Refused session opening refusal) told has = elim told.is_block.2 [
    | inl spoilt ↦ record {
      addresses = told.addresses;
      segments = told.segments;
      has = told.has;
      is_session = told.is_session;
      is_place = told.is_place;
      is_line = (refl, refl, record { fault = spoilt.fault; refused = spoilt.refused; is = spoilt.is });
    }
    | inr lacks ↦ absurd (has lacks.is)
  ]
  one_line place (AllRefused addresses refusal) told has = record { ordered = told.ordered; fault = told.fault; refused = told.refused; is = told.is }

  all_lines : (blocks : List (ℕ × Block)) → AllByRecursion (λ (b : ℕ × Block). IsToldAt options packets last_packet b.0 b.1) blocks
      → AllByRecursion (λ (b : ℕ × Block). HasMemory last_packet b.1) blocks
      → AllByRecursion (λ (l : ℕ × LineValue). IsLineAt options.port packets last_packet l.0 l.1) (headings blocks)
  all_lines [] told has = tt
  all_lines (block ∷ blocks) told has = (one_line block.0 block.1 told.0 has.0, all_lines blocks told.1 has.1)

same_places : (blocks : List (ℕ × Block)) → keys_of (headings blocks) ≡ keys_of blocks
same_places [] = refl
same_places (block ∷ blocks) = ap (λ (places : List ℕ). block.0 ∷ places) (same_places blocks)

pub without_ends : ListIsWithoutEnds
without_ends options packets last_packet blocks told has loud = record {
  is_text = loud_text options.printing blocks loud;
  are_lines = all_lines options packets last_packet blocks told has;
  are_places = same_places blocks;
}

pub the_list : HeadingsAreTheList
the_list options packets last_packet blocks known told has rise all =
    let is : IsList options.port packets last_packet (headings blocks) = record {
      are_lines = all_lines options packets last_packet blocks told has;
      rise = subst (λ (places : List ℕ). IsStrictlySortedBy nat_cmp places) (sym (same_places blocks)) rise;
      all = subst (λ (places : List ℕ). HasAll options.port packets (Contains places)) (sym (same_places blocks)) all;
    } in
    record {
      is_list = is;
      is_only = λ others other.
          let same = one_list options.port last_packet packets known others (headings blocks) other is in
          (same, ap lines_text same);
    }
