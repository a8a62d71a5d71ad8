-- The blocks of sessions that are put so far.
use Rattle.std.proofs.Common.{◌≡◌, ◌∙◌, ◌+◌, ◌<◌, ◌≤◌, ◌++◌, ℕ, Bool, true, false, List, [], ◌∷◌, Option, if◌then◌else◌, refl, sym, ap, subst, append-nil, length, take, get_or}
use Rattle.std.specs.List.{AllByRecursion, filter}
use Rattle.std.proofs.lemmas.Grind.{flat_map-append}
use Rattle.std.proofs.lemmas.List.{map-append, take_all, take_more}
use Rattle.mrt.specs.declared.fault.CaptureFault.{CaptureFault}
use Rattle.mrt.specs.declared.sink.Sink as sinks
use Rattle.mrt_sessions.specs.File.{Located}
use Rattle.mrt_sessions.specs.Sessions.{HoldsSessions, held_records, held_sessions, is_between, records_between, sessions_in}
use Rattle.mrt_sessions.specs.declared.addresses.Addresses.{Addresses}
use Rattle.mrt_sessions.specs.declared.sessions.Sessions.{Sessions}
use Rattle.bgp_text.proofs.Pieces.{Joins}
use Rattle.bgp_check_lines.specs.Lines.{PutsLines}
use Rattle.bgp_check_lines.specs.declared.check_lines.CheckLines.{CheckLines}
use Rattle.bgp_check_lines.proofs.Puts.{then_lines}
use Rattle.bgp_check_lines.specs.Tally.{no_tally}
use Rattle.bgp_check_lines.specs.Printing.{Printing}
use Rattle.bgp_check_lines.specs.DeclaredTally.{Tally}
use Rattle.bgp_check_capture_tool.specs.Checking.{Block, IsBlock, PutsBlocks, block_text, blocks_text, faults_in, tally_from, with_block}
use Rattle.bgp_check_capture_tool.specs.Firsts.{firsts_after, with_first}
use Rattle.bgp_check_lines.specs.Sessions.{fault_text, session_line}
use Rattle.bgp_check_capture_tool.specs.Ends.{IsSessionTold}
use Rattle.bgp_check_capture_tool.specs.Putting.{PutsSession}
use Rattle.bgp_check_capture_tool.specs.Marks.{AddsMarks, ends_marks}
use Rattle.bgp_check_capture_tool.specs.Text.{ends_text, session_text}
use Rattle.bgp_check_capture_tool.specs.declared.marks.StretchMarks.{StretchMarks}
use Rattle.bgp_check_capture_tool.specs.declared.telling.Telling.{Telling}
use Rattle.bgp_check_capture_tool.proofs.Marked.{adds_block, adds_nothing}

-- what is left of a list is left of it again
kept_twice : {X : Type 0} (p : X → Bool) (xs : List X) → filter p (filter p xs) ≡ filter p xs
kept_twice p [] = refl
kept_twice {X} p (x ∷ xs) = by (p x) refl (kept_twice p xs) where
  by : (b : Bool) → p x ≡ b → filter p (filter p xs) ≡ filter p xs → filter p (if b then x ∷ filter p xs else filter p xs) ≡ (if b then x ∷ filter p xs else filter p xs)
  by true is rest = ap (λ (c : Bool). if c then x ∷ filter p (filter p xs) else filter p (filter p xs)) is ∙ ap (λ (ys : List X). x ∷ ys) rest
  by false is rest = rest

-- a session's records are all its own
pub held_are_own : {Z : Type 0} (named : List Located) (sessions : Sessions Z) (addresses : Addresses) → HoldsSessions named sessions
    → records_between addresses (held_records sessions addresses) ≡ held_records sessions addresses
held_are_own named sessions addresses holds =
    ap (records_between addresses) (holds.each addresses) ∙ kept_twice (is_between addresses) named ∙ sym (holds.each addresses)

text_of : (printing : Printing) (named : List Located) (blocks : List Block) (one : Block) → blocks_text printing named blocks ++ block_text printing named one ≡ blocks_text printing named (blocks ++ one ∷ [])
text_of printing named blocks one =
    ap (λ (o : List ℕ). blocks_text printing named blocks ++ o) (sym (append-nil (block_text printing named one)))
    ∙ sym (flat_map-append (block_text printing named) blocks (one ∷ []))

firsts_of : (firsts : List (Option CaptureFault)) (blocks : List Block) (one : Block) → with_first (firsts_after firsts (faults_in blocks)) one.fault ≡ firsts_after firsts (faults_in (blocks ++ one ∷ []))
firsts_of firsts [] one = refl
firsts_of firsts (b ∷ blocks) one = firsts_of (with_first firsts b.fault) blocks one

tally_of : (tally : Tally) (blocks : List Block) (one : Block) → with_block (tally_from tally blocks) one ≡ tally_from tally (blocks ++ one ∷ [])
tally_of tally [] one = refl
tally_of tally (b ∷ blocks) one = tally_of (with_block tally b) blocks one

all_of : {X : Type 0} (P : X → Type 0) (xs : List X) (one : X) → AllByRecursion P xs → P one → AllByRecursion P (xs ++ one ∷ [])
all_of P [] one all p = (p, tt)
all_of P (b ∷ xs) one all p = (all.0, all_of P xs one all.1 p)

pub none_put : {Y T : Type 0} {sink : sinks.Ghosts T} (telling : Telling) (named : List Located) (lines : CheckLines Y T sink) (tally : Tally) (firsts : List (Option CaptureFault)) (marks : StretchMarks Y) → PutsLines lines lines [] → tally ≡ no_tally
    → firsts ≡ [] → PutsBlocks telling named [] lines lines no_tally tally [] firsts marks marks
none_put telling named lines tally firsts marks wrote none nothing = record { blocks = []; are = refl; told = tt; wrote = wrote; tallied = none; added = nothing; marked = adds_nothing marks }

pub one_put : {Y T Z : Type 0} {sink : sinks.Ghosts T} → Joins sink → (telling : Telling) (named : List Located) (sessions : Sessions Z) (known : List Addresses) (i : ℕ) (d : Addresses)
    (lines middle lines' : CheckLines Y T sink) (between tally : Tally) (among firsts : List (Option CaptureFault)) (marks met marks' : StretchMarks Y) → known ≡ held_sessions sessions → i < length known → HoldsSessions named sessions
    → PutsBlocks telling named (take i (held_sessions sessions)) lines middle no_tally between [] among marks met
    → PutsSession telling (get_or known i d) (held_records sessions (get_or known i d)) middle lines' between tally among firsts met marks'
    → PutsBlocks telling named (take (i + 1) (held_sessions sessions)) lines lines' no_tally tally [] firsts marks marks'
one_put {Y} {T} {Z} law telling named sessions known i d lines middle lines' between tally among firsts marks met marks' same within holds so_far puts =
    let addresses = get_or known i d in
    let block : Block = record { addresses = addresses; ends = puts.ends; fault = puts.fault } in
    let mine = holds.each addresses in
    record {
      blocks = so_far.blocks ++ block ∷ [];
      are = map-append (λ (b : Block). b.addresses) so_far.blocks (block ∷ []) ∙ ap (λ (xs : List Addresses). xs ++ addresses ∷ []) so_far.are
          ∙ subst (λ (ks : List Addresses). take i ks ++ addresses ∷ [] ≡ take (i + 1) ks) same (sym (take_more known i d within));
      told = all_of (IsBlock telling named) so_far.blocks block so_far.told (subst (λ (rs : List Located). IsSessionTold telling addresses rs puts.ends puts.fault) mine puts.told);
      wrote = subst (λ (text : List ℕ). PutsLines lines lines' text) (text_of telling.printing named so_far.blocks block) (then_lines law so_far.wrote (subst (λ (rs : List Located). PutsLines middle lines' (session_text telling.printing.quiet (session_line addresses rs) (ends_text telling.printing addresses.local puts.ends ++ fault_text puts.fault))) mine puts.wrote));
      tallied = puts.tallied ∙ ap (λ (t : Tally). with_block t block) so_far.tallied ∙ tally_of no_tally so_far.blocks block;
      added = puts.added ∙ ap (λ (fs : List (Option CaptureFault)). with_first fs block.fault) so_far.added ∙ firsts_of [] so_far.blocks block;
      marked = adds_block telling.printing named so_far.blocks block marks met marks' so_far.marked (subst (λ (rs : List Located). AddsMarks met marks' (ends_marks telling.printing.quiet addresses rs puts.ends)) mine puts.marked);
    }

pub all_put : {Y T Z : Type 0} {sink : sinks.Ghosts T} (telling : Telling) (named : List Located) (sessions : Sessions Z) (known : List Addresses) (i : ℕ) (lines lines' : CheckLines Y T sink) (tally : Tally) (firsts : List (Option CaptureFault)) (marks marks' : StretchMarks Y)
    → known ≡ held_sessions sessions → length known ≤ i → HoldsSessions named sessions → PutsBlocks telling named (take i (held_sessions sessions)) lines lines' no_tally tally [] firsts marks marks'
    → PutsBlocks telling named (sessions_in named) lines lines' no_tally tally [] firsts marks marks'
all_put {Y} {T} {Z} telling named sessions known i lines lines' tally firsts marks marks' same past holds puts =
    subst (λ (ks : List Addresses). PutsBlocks telling named ks lines lines' no_tally tally [] firsts marks marks')
    (take_all i (held_sessions sessions) (subst (λ (ks : List Addresses). length ks ≤ i) same past) ∙ holds.in_order) puts
