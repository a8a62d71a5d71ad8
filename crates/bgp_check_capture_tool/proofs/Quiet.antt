-- Where what is well is left out, just what isn't stays.
use Rattle.std.proofs.Common.{◌≡◌, ◌∙◌, ◌+◌, ◌++◌, ◌||◌, ℕ, Bool, true, false, not, List, [], ◌∷◌, Option, None, Some, if◌then◌else◌, is_some, inl, inr, refl, sym, ap, ap₂, append-nil, append_assoc, length, map}
use Rattle.std.specs.List.{AllByRecursion, flat_map, list_any}
use Rattle.std.proofs.lemmas.Bool.{cases_Bool, false≢true}
use Rattle.bgp_prefix.specs.Shown.{ShownRecord}
use Rattle.bgp_prefix.specs.declared.address.Address.{Address}
use Rattle.mrt.specs.declared.fault.CaptureFault.{CaptureFault}
use Rattle.mrt_sessions.specs.File.{Located}
use Rattle.mrt_sessions.specs.declared.addresses.Addresses.{Addresses}
use Rattle.bgp_judge.specs.Verdict.{No, Unfinished, Yes}
use Rattle.bgp_check.specs.Answered.{AnswerValue, JudgedAs, Unjudged}
use Rattle.bgp_check.specs.Cut.{joined}
use Rattle.bgp_check_lines.specs.Sessions.{fault_text, refused_text}
use Rattle.bgp_check_lines.specs.Quiet.{is_well}
use Rattle.bgp_check_lines.specs.Tally as tallies
use Rattle.bgp_check_lines.specs.Tally.{tally_line}
use Rattle.bgp_check_lines.specs.Text.{no_line, unfinished_line}
use Rattle.bgp_check_lines.specs.Printing.{Printing}
use Rattle.bgp_check_lines.specs.DeclaredTally.{Tally}
use Rattle.bgp_check_capture_tool.specs.Checking.{Block, IsBlock, block_text, blocks_text, nothing_text, telling_of}
use Rattle.bgp_check_capture_tool.specs.Counted.{with_fault}
use Rattle.bgp_check_capture_tool.specs.Ends.{AreTold, End, IsSessionTold, IsToldOf, Silent, Staying, Stretch, TellsRecords, TellsStretches}
use Rattle.bgp_check_capture_tool.specs.Headings.{heading}
use Rattle.bgp_check_capture_tool.specs.Quiet.{QuietKeepsTrouble, file_pieces, has_trouble, is_end_well, kept_of, pieces_of, printed, whole_of}
use Rattle.bgp_check_capture_tool.specs.Stretches.{first_of}
use Rattle.bgp_check_capture_tool.specs.StretchEnd.{IsStretchEnd, StretchEnd, View}
use Rattle.bgp_check_capture_tool.specs.Text.{answer_text, end_text, ends_text, headed, kept_text}
use Rattle.bgp_check_capture_tool.specs.declared.telling.Telling.{Telling}

-- ---- pieces

abbrev Pieces : Type 0
Pieces = List (List ℕ × Bool)

whole_both : (xs ys : Pieces) → whole_of (xs ++ ys) ≡ whole_of xs ++ whole_of ys
whole_both [] ys = refl
whole_both (x ∷ xs) ys = ap (λ (t : List ℕ). x.0 ++ t) (whole_both xs ys) ∙ sym (append_assoc x.0 (whole_of xs) (whole_of ys))

abbrev if_kept : List ℕ × Bool → List ℕ
if_kept piece = if piece.1 then piece.0 else []

kept_both : (xs ys : Pieces) → kept_of (xs ++ ys) ≡ kept_of xs ++ kept_of ys
kept_both [] ys = refl
kept_both (x ∷ xs) ys = ap (λ (t : List ℕ). if_kept x ++ t) (kept_both xs ys) ∙ sym (append_assoc (if_kept x) (kept_of xs) (kept_of ys))

-- ---- the ends of a session

abbrev loudly : Bool → Printing
loudly routes = record { routes = routes; quiet = false }

abbrev quietly : Bool → Printing
quietly routes = record { routes = routes; quiet = true }

flipped : (b : Bool) (t : List ℕ) → (if b then [] else t) ≡ (if not b then t else [])
flipped true t = refl
flipped false t = refl

module _ (routes : Bool) (local : Address) where
  abbrev end_piece : End → List ℕ × Bool
  end_piece end = (end_text routes local end, not (is_end_well end))

  end_whole : (end : End) → kept_text (loudly routes) local end ≡ end_text routes local end
  end_whole (Silent count) = refl
  end_whole (Staying count) = refl
  end_whole (Stretch end) = refl

  ends_whole : (ends : List End) → ends_text (loudly routes) local ends ≡ whole_of (map end_piece ends)
  ends_whole [] = refl
  ends_whole (end ∷ ends) = ap₂ ◌++◌ (end_whole end) (ends_whole ends)

  ends_kept : (ends : List End) → ends_text (quietly routes) local ends ≡ kept_of (map end_piece ends)
  ends_kept [] = refl
  ends_kept (end ∷ ends) = ap₂ ◌++◌ (flipped (is_end_well end) (end_text routes local end)) (ends_kept ends)

  -- the lines of an end that isn't well are some
  answer_some : (end : StretchEnd) (answer : AnswerValue) (x : List ℕ) → is_well answer ≡ false → answer_text routes end answer ++ x ≡ [] → ⊥
  unfolding no_line unfinished_line
  answer_some end (Unjudged why) x trouble e = false≢true (sym trouble)
  answer_some end (JudgedAs number peer under (Yes ends)) x trouble e = false≢true (sym trouble)
  answer_some end (JudgedAs number peer under (No count)) x trouble e = cc
  answer_some end (JudgedAs number peer under Unfinished) x trouble e = cc

  end_some : (end : End) (x : List ℕ) → is_end_well end ≡ false → end_text routes local end ++ x ≡ [] → ⊥
  end_some (Silent count) x trouble e = false≢true (sym trouble)
  end_some (Staying count) x trouble e = false≢true (sym trouble)
  end_some (Stretch end) x trouble e = answer_some end end.told.answer x trouble e

  fault_some : (fault : Option CaptureFault) → is_some fault ≡ true → fault_text fault ≡ [] → ⊥
  unfolding refused_text
  fault_some None is e = false≢true is
  fault_some (Some fault) is e = cc

  fault_none : (fault : Option CaptureFault) → is_some fault ≡ false → fault_text fault ≡ []
  fault_none None is = refl
  fault_none (Some fault) is = absurd (false≢true (sym is))

  -- what stands behind a session's own line
  abbrev rest_text : List End → Option CaptureFault → List ℕ
  rest_text ends fault = ends_text (quietly routes) local ends ++ fault_text fault

  abbrev is_troubled : List End → Option CaptureFault → Bool
  is_troubled ends fault = list_any (λ end. not (is_end_well end)) ends || is_some fault

  rest_some : (ends : List End) (fault : Option CaptureFault) → is_troubled ends fault ≡ true → rest_text ends fault ≡ [] → ⊥
  rest_some [] fault trouble e = fault_some fault trouble e
  rest_some (end ∷ ends) fault trouble e =
      let first = kept_text (quietly routes) local end in
      let whole : first ++ rest_text ends fault ≡ [] = sym (append_assoc first (ends_text (quietly routes) local ends) (fault_text fault)) ∙ e in
      elim (cases_Bool (is_end_well end)) [
        | inl well ↦ rest_some ends fault (rw well at trouble) (rw well at whole)
        | inr isnt ↦ end_some end (rest_text ends fault) isnt (rw isnt at whole)
      ]

  rest_none : (ends : List End) (fault : Option CaptureFault) → is_troubled ends fault ≡ false → rest_text ends fault ≡ []
  rest_none [] fault none = fault_none fault none
  rest_none (end ∷ ends) fault none =
      elim (cases_Bool (is_end_well end)) [
        | inl well ↦
            let later = rest_none ends fault (rw well at none) in
            append_assoc (kept_text (quietly routes) local end) (ends_text (quietly routes) local ends) (fault_text fault)
            ∙ (rw well later)
        | inr isnt ↦ absurd (false≢true (sym (rw isnt at none)))
      ]

-- ---- a session

headed_kept : (head rest : List ℕ) (has : Bool) → (has ≡ true → rest ≡ [] → ⊥) → (has ≡ false → rest ≡ []) → headed head rest ≡ (if has then head else []) ++ rest
headed_kept head [] true some none = absurd (some refl refl)
headed_kept head (c ∷ rest) true some none = refl
headed_kept head rest false some none = rw (none refl) refl

module _ (routes : Bool) (named : List Located) where
  abbrev last_piece : Block → Pieces
  last_piece block = (fault_text block.fault, true) ∷ []

  abbrev end_pieces : Block → Pieces
  end_pieces block = map (end_piece routes block.addresses.local) block.ends

  block_whole : (block : Block) → block_text (loudly routes) named block ≡ whole_of (pieces_of routes named block)
  block_whole block =
      ap (λ (t : List ℕ). heading named block ++ t)
      (ap₂ ◌++◌ (ends_whole routes block.addresses.local block.ends) (sym (append-nil (fault_text block.fault)))
      ∙ sym (whole_both (end_pieces block) (last_piece block)))

  block_kept : (block : Block) → block_text (quietly routes) named block ≡ kept_of (pieces_of routes named block)
  block_kept block =
      let local = block.addresses.local in
      headed_kept (heading named block) (rest_text routes local block.ends block.fault) (has_trouble block)
      (rest_some routes local block.ends block.fault) (rest_none routes local block.ends block.fault)
      ∙ ap (λ (t : List ℕ). (if has_trouble block then heading named block else []) ++ t)
      (ap₂ ◌++◌ (ends_kept routes local block.ends) (sym (append-nil (fault_text block.fault)))
      ∙ sym (kept_both (end_pieces block) (last_piece block)))

  abbrev all_pieces : List Block → Pieces
  all_pieces blocks = flat_map (pieces_of routes named) blocks

  blocks_whole : (blocks : List Block) → blocks_text (loudly routes) named blocks ≡ whole_of (all_pieces blocks)
  blocks_whole [] = refl
  blocks_whole (block ∷ blocks) = ap₂ ◌++◌ (block_whole block) (blocks_whole blocks) ∙ sym (whole_both (pieces_of routes named block) (all_pieces blocks))

  blocks_kept : (blocks : List Block) → blocks_text (quietly routes) named blocks ≡ kept_of (all_pieces blocks)
  blocks_kept [] = refl
  blocks_kept (block ∷ blocks) = ap₂ ◌++◌ (block_kept block) (blocks_kept blocks) ∙ sym (kept_both (pieces_of routes named block) (all_pieces blocks))

  -- ---- the file

  abbrev behind : Option CaptureFault → Tally → Pieces
  behind fault tally = (fault_text fault, true) ∷ (nothing_text tally, true) ∷ (tally_line tally, tallies.has_trouble tally) ∷ []

  last_kept : (trouble : Bool) (line : List ℕ) → (if not trouble then [] else line) ≡ (if trouble then line else []) ++ []
  last_kept true line = sym (append-nil line)
  last_kept false line = refl

  file_whole : (blocks : List Block) (fault : Option CaptureFault) (tally : Tally)
      → printed false (blocks_text (loudly routes) named blocks) fault tally ≡ whole_of (file_pieces routes named blocks fault tally)
  file_whole blocks fault tally =
      ap₂ ◌++◌ (blocks_whole blocks) (ap (λ (t : List ℕ). fault_text fault ++ (nothing_text tally ++ t)) (sym (append-nil (tally_line tally))))
      ∙ sym (whole_both (all_pieces blocks) (behind fault tally))

  file_kept : (blocks : List Block) (fault : Option CaptureFault) (tally : Tally)
      → printed true (blocks_text (quietly routes) named blocks) fault tally ≡ kept_of (file_pieces routes named blocks fault tally)
  file_kept blocks fault tally =
      ap₂ ◌++◌ (blocks_kept blocks) (ap (λ (t : List ℕ). fault_text fault ++ (nothing_text tally ++ t)) (last_kept (tallies.has_trouble tally) (tally_line tally)))
      ∙ sym (kept_both (all_pieces blocks) (behind fault tally))

-- ---- what is told is the same

module _ (printing : Printing) where
  abbrev other : Telling → Telling
  other telling = record telling { printing = printing }

  abbrev other_view : View → View
  other_view view = record view { telling = other view.telling }

  same_stretch : (view : View) (before : ℕ) (stretch : List ShownRecord) (leaving : Option ShownRecord) (end : StretchEnd)
      → IsStretchEnd view before stretch leaving end → IsStretchEnd (other_view view) before stretch leaving end
  same_stretch view before stretch leaving end it = record {
    is_part = it.is_part;
    is_name = it.is_name;
    is_told = it.is_told;
    is_reached = it.is_reached;
    tells_end = it.tells_end;
    is_place = it.is_place;
    explains = it.explains;
    judges = it.judges;
  }

  same_told : (view : View) (before : ℕ) (stretch : List ShownRecord) (leaving : Option ShownRecord) (end : End)
      → IsToldOf view before stretch leaving end → IsToldOf (other_view view) before stretch leaving end
  same_told view before stretch leaving (Silent count) it = it
  same_told view before stretch leaving (Staying count) it = it
  same_told view before stretch leaving (Stretch end) it = same_stretch view before stretch leaving end it

  all_told : (view : View) (before : ℕ) (stretches : List (List ShownRecord)) (rest : List ShownRecord) (ends : List End)
      → AreTold view before stretches rest ends → AreTold (other_view view) before stretches rest ends
  all_told view before [] rest [] it = it
  all_told view before [] rest (end ∷ ends) it = it
  all_told view before (stretch ∷ stretches) rest [] it = it
  all_told view before (stretch ∷ stretches) rest (end ∷ ends) it = (
    same_told view before stretch (first_of (joined stretches ++ rest)) end it.0,
    all_told view (before + length stretch) stretches rest ends it.1,
  )

  same_stretches : (view : View) (records rest : List ShownRecord) (ends : List End) → TellsStretches view records rest ends → TellsStretches (other_view view) records rest ends
  same_stretches view records rest ends it = record {
    front = it.front;
    stretches = it.stretches;
    later = it.later;
    cut = it.cut;
    told = all_told view _ it.stretches rest it.later it.told;
    are = it.are;
  }

  same_records : (view : View) (records rest : List ShownRecord) (ends : List End) → TellsRecords view records rest ends → TellsRecords (other_view view) records rest ends
  same_records view records rest ends (inl silent) = inl silent
  same_records view records rest ends (inr it) = inr (it.0, same_stretches view records rest ends it.1)

  same_session : (telling : Telling) (addresses : Addresses) (named : List Located) (ends : List End) (fault : Option CaptureFault)
      → IsSessionTold telling addresses named ends fault → IsSessionTold (other telling) addresses named ends fault
  same_session telling addresses named ends fault (inl it) = inl record {
    extended = it.extended;
    is_received = it.is_received;
    is_sent = it.is_sent;
    records = it.records;
    refusal = it.refusal;
    reading = it.reading;
    rest = it.rest;
    tells = same_records _ it.records it.rest ends it.tells;
    is_fault = it.is_fault;
  }
  same_session telling addresses named ends fault (inr none) = inr none

  same_blocks : (telling : Telling) (named : List Located) (blocks : List Block) → AllByRecursion (IsBlock telling named) blocks → AllByRecursion (IsBlock (other telling) named) blocks
  same_blocks telling named [] it = it
  same_blocks telling named (block ∷ blocks) it = (same_session telling block.addresses _ block.ends block.fault it.0, same_blocks telling named blocks it.1)

pub quiet_keeps : QuietKeepsTrouble
quiet_keeps options octets ending text tally firsts fault all quiet =
    let routes = options.printing.routes in
    let is_text : text ≡ blocks_text (quietly routes) all.named all.blocks =
    all.is_text ∙ ap (λ (q : Bool). blocks_text (record { routes = routes; quiet = q }) all.named all.blocks) quiet in
    let counted = with_fault tally fault in
    record {
      whole = blocks_text (loudly routes) all.named all.blocks;
      tells = record {
        named = all.named;
        offset = all.offset;
        refusal = all.refusal;
        plain = all.plain;
        has = all.has;
        blocks = all.blocks;
        are = all.are;
        told = same_blocks (loudly routes) (telling_of options all.plain fault) all.named all.blocks all.told;
        is_text = refl;
        is_tally = all.is_tally;
        are_firsts = all.are_firsts;
        is_fault = all.is_fault;
      };
      same_records = refl;
      same_blocks = refl;
      is_whole = file_whole routes all.named all.blocks fault counted;
      is_part = ap (λ (t : List ℕ). printed true t fault counted) is_text ∙ file_kept routes all.named all.blocks fault counted;
    }
