-- Blocks are put one after another.
use Rattle.std.proofs.Common.{◌≡◌, ◌∙◌, ◌++◌, ℕ, List, [], ◌∷◌, Option, None, Some, Result, Ok, Err, refl, sym, ap, subst, arith, inl, inr, append-nil, append_assoc}
use Rattle.std.specs.BTreeMap.{BTreeMap, IsOrdered}
use Rattle.std.specs.List.{AllByRecursion, Contains, flat_map}
use Rattle.std.specs.List.Sorted.{IsStrictlySortedBy}
use Rattle.std.specs.Map.{keys_of}
use Rattle.std.specs.Ordering.{nat_cmp}
use Rattle.packets.specs.Packet.{Recorded}
use Rattle.mrt.specs.declared.sink.Sink as sinks
use Rattle.bgp_text.proofs.Pieces.{Joins}
use Rattle.bgp_check_lines.specs.Lines.{PutsLines}
use Rattle.bgp_check_lines.specs.declared.check_lines.CheckLines.{CheckLines}
use Rattle.bgp_check_lines.proofs.Puts.{then_lines}
use Rattle.bgp_check_tool.specs.declared.options.CheckOptions.{CheckOptions}
use Rattle.bgp_check_lines.specs.DeclaredTally.{Tally}
use Rattle.bgp_prefix.specs.declared.session.Session.{Session}
use Rattle.segments.specs.declared.found.Addresses.{Addresses}
use Rattle.streams.specs.Clock.{AreInOrder}
use Rattle.streams.specs.Held.{HoldsConnections}
use Rattle.streams.specs.Passed.{Segment}
use Rattle.streams.specs.declared.connection.Opening.{Opening}
use Rattle.bgp_import.specs.declared.refusal.Refusal.{Refusal}
use Rattle.bgp_import.specs.declared.refusal.Refusal.TheVariants as refusals
use Rattle.bgp_import.proofs.InOrder.{in_order}
use Rattle.bgp_check_tool.specs.declared.connection.EndsTold.{EndsTold}
use Rattle.bgp_check_tool.specs.declared.connection.EndsTold.TheVariants.{Both, One}
use Rattle.bgp_import.specs.declared.listed.Listed.{Listed}
use Rattle.bgp_import.specs.declared.talk.Talk.{Talk}
use Rattle.bgp_check_tool.specs.Blocks.{Block, IsBlock, block_of, block_text, refusal_in}
use Rattle.bgp_import.specs.declared.talks.Talks.{Talks}
use Rattle.bgp_check_tool.specs.Checking.{PutsAll, PutsBlock, blocks_text, refusals_in, tally_from}
use Rattle.bgp_import.specs.Listed.{AreListed, IsListed, IsPlaceOf, ListsOne}
use Rattle.bgp_import.specs.Pairs.{selection_of}
use Rattle.bgp_import.specs.Places.{HasAll, HasEach}
use Rattle.bgp_check_tool.specs.Places.{IsToldAt}
use Rattle.bgp_import.specs.Talks.{HoldsEach}
use Rattle.bgp_list.specs.Firsts.{firsts_after, with_first}
use Rattle.std.proofs.lemmas.List.{map-append}
use Rattle.bgp_check_tool.specs.Counted.{with_block}
use Rattle.bgp_check_tool.specs.Marks.{AddsMarks, marks_of}
use Rattle.bgp_check_tool.specs.declared.marks.Marks.{Marks}
use Rattle.bgp_check_tool.proofs.Marked.{adds_block, adds_nothing}
use Rattle.bgp_import.proofs.ListedSoFar.{among_keys}

text_of : (f : ℕ × Block → List ℕ) (blocks : List (ℕ × Block)) (one : ℕ × Block) → flat_map f blocks ++ f one ≡ flat_map f (blocks ++ one ∷ [])
text_of f [] one = sym (append-nil (f one))
text_of f (b ∷ blocks) one = append_assoc (f b) (flat_map f blocks) (f one) ∙ ap (λ (rest : List ℕ). f b ++ rest) (text_of f blocks one)

tally_of : (tally : Tally) (blocks : List (ℕ × Block)) (one : ℕ × Block) → with_block (tally_from tally blocks) one.1 ≡ tally_from tally (blocks ++ one ∷ [])
tally_of tally [] one = refl
tally_of tally (b ∷ blocks) one = tally_of (with_block tally b.1) blocks one

all_of : {X : Type 0} (P : X → Type 0) (xs : List X) (one : X) → AllByRecursion P xs → P one → AllByRecursion P (xs ++ one ∷ [])
all_of P [] one all p = (p, tt)
all_of P (b ∷ xs) one all p = (all.0, all_of P xs one all.1 p)

keys_with : {X : Type 0} (xs : List (ℕ × X)) (one : ℕ × X) (rest : List ℕ) → keys_of (xs ++ one ∷ []) ++ rest ≡ keys_of xs ++ one.0 ∷ rest
keys_with [] one rest = refl
keys_with (x ∷ xs) one rest = ap (λ (ks : List ℕ). x.0 ∷ ks) (keys_with xs one rest)

-- one more is added to those that were
firsts_more : (firsts refusals : List (Option Refusal)) (one : Option Refusal) → with_first (firsts_after firsts refusals) one ≡ firsts_after firsts (refusals ++ one ∷ [])
firsts_more firsts [] one = refl
firsts_more firsts (refusal ∷ later) one = firsts_more (with_first firsts refusal) later one

-- the blocks of the first entries are put, and these are left
pub record PutsFront {Y T Z : Type 0} {sink : sinks.Ghosts T} (options : CheckOptions) (packets : List Recorded) (last_packet : ℕ) (entries rest : List (ℕ × Listed Z))
    (lines lines' : CheckLines Y T sink) (tally tally' : Tally) (firsts firsts' : List (Option Refusal)) (marks marks' : Marks Y) : Type 0 where
  pub blocks : List (ℕ × Block)
  pub told : AllByRecursion (λ (b : ℕ × Block). IsToldAt options packets last_packet b.0 b.1) blocks
  pub places : keys_of blocks ++ keys_of rest ≡ keys_of entries
  pub left : AreListed options.port packets rest
  pub wrote : PutsLines lines lines' (blocks_text options.printing blocks)
  pub tallied : tally' ≡ tally_from tally blocks
  pub added : firsts' ≡ firsts_after firsts (refusals_in blocks)
  pub marked : AddsMarks marks marks' (marks_of options.printing blocks)

pub one_more : {Y T Z : Type 0} {sink : sinks.Ghosts T} → Joins sink → (options : CheckOptions) (packets : List Recorded) (last_packet place : ℕ) (one : Listed Z)
    (entries before rest : List (ℕ × Listed Z)) (lines middle lines' : CheckLines Y T sink) (tally between tally' : Tally) (firsts few firsts' : List (Option Refusal))
    (marks known marks' : Marks Y) → before ≡ (place, one) ∷ rest → PutsFront options packets last_packet entries before lines middle tally between firsts few marks known
    → (IsListed options.port packets place one → PutsBlock options packets last_packet place middle lines' between tally' few firsts' known marks')
    → PutsFront options packets last_packet entries rest lines lines' tally tally' firsts firsts' marks marks'
one_more {Y} {T} {Z} law options packets last_packet place one entries before rest lines middle lines' tally between tally' firsts few firsts' marks known marks' is so_far puts =
    let left : AreListed options.port packets ((place, one) ∷ rest) = subst (λ (es : List (ℕ × Listed Z)). AreListed options.port packets es) is so_far.left in
    let put = puts left.0 in
    let places : keys_of so_far.blocks ++ place ∷ keys_of rest ≡ keys_of entries =
    subst (λ (es : List (ℕ × Listed Z)). keys_of so_far.blocks ++ keys_of es ≡ keys_of entries) is so_far.places in
    record {
      blocks = so_far.blocks ++ (place, put.block) ∷ [];
      told = all_of (λ (b : ℕ × Block). IsToldAt options packets last_packet b.0 b.1) so_far.blocks (place, put.block) so_far.told put.told;
      places = keys_with so_far.blocks (place, put.block) (keys_of rest) ∙ places;
      left = left.1;
      wrote = subst (λ (text : List ℕ). PutsLines lines lines' text) (text_of (λ (b : ℕ × Block). block_text options.printing b.1) so_far.blocks (place, put.block)) (then_lines law so_far.wrote put.wrote);
      tallied = put.tallied ∙ ap (λ (t : Tally). with_block t put.block) so_far.tallied ∙ tally_of tally so_far.blocks (place, put.block);
      added = put.added ∙ ap (λ (f : List (Option Refusal)). with_first f (refusal_in put.block)) so_far.added ∙ firsts_more firsts (refusals_in so_far.blocks) (refusal_in put.block)
          ∙ ap (firsts_after firsts) (sym (map-append (λ (b : ℕ × Block). refusal_in b.1) so_far.blocks ((place, put.block) ∷ [])));
      marked = adds_block options.printing so_far.blocks (place, put.block) marks known marks' so_far.marked put.marked;
    }

pub one_listed : {Z : Type 0} (port : ℕ) (packets : List Recorded) (place : ℕ) (one : Listed Z) (before rest : List (ℕ × Listed Z)) → before ≡ (place, one) ∷ rest
    → AreListed port packets before → IsListed port packets place one
one_listed {Z} port packets place one before rest is all = (subst (λ (es : List (ℕ × Listed Z)). AreListed port packets es) is all).0

-- what is told of a connection
pub is_told : {X Z : Type 0} (options : CheckOptions) (packets : List Recorded) (last_packet place : ℕ) (addresses : Addresses) (talk : Talk Z) (opening : Opening)
    (session : Session) (answer : Result (EndsTold X) Refusal) → session ≡ (selection_of addresses options.port).session
    → (is : ListsOne options.port packets place addresses talk opening)
    → ((segments : List Segment) → HoldsConnections segments talk.connections → AreInOrder segments → IsBlock options last_packet segments session opening (block_of session opening answer))
    → IsToldAt options packets last_packet place (block_of session opening answer)
is_told options packets last_packet place addresses talk opening session (Ok (Both both)) its is told = record {
  addresses = addresses;
  segments = is.segments;
  has = is.has;
  is_session = its;
  is_place = is.is_place;
  is_block = told _ is.holds (in_order (selection_of addresses options.port) packets is.segments is.has.taken);
}
is_told options packets last_packet place addresses talk opening session (Ok (One outline first second)) its is told = record {
  addresses = addresses;
  segments = is.segments;
  has = is.has;
  is_session = its;
  is_place = is.is_place;
  is_block = told _ is.holds (in_order (selection_of addresses options.port) packets is.segments is.has.taken);
}
is_told options packets last_packet place addresses talk opening session (Err refusal) its is told = record {
  addresses = addresses;
  segments = is.segments;
  has = is.has;
  is_session = its;
  is_place = is.is_place;
  is_block = told _ is.holds (in_order (selection_of addresses options.port) packets is.segments is.has.taken);
}

some_none : (r : Refusal) → Some r ≡ None → ⊥
some_none r e = cc

no_keys : IsStrictlySortedBy nat_cmp []
unfolding IsStrictlySortedBy
no_keys = tt

-- none is put yet
pub start_put : {Y T Z : Type 0} {sink : sinks.Ghosts T} (options : CheckOptions) (packets : List Recorded) (last_packet : ℕ) (entries first : List (ℕ × Listed Z)) (lines : CheckLines Y T sink) (tally : Tally)
    (firsts : List (Option Refusal)) (marks : Marks Y) → first ≡ entries → AreListed options.port packets entries → PutsLines lines lines []
    → PutsFront options packets last_packet first first lines lines tally tally firsts firsts marks marks
start_put {Y} {T} {Z} options packets last_packet entries first lines tally firsts marks is listed wrote = record {
  blocks = [];
  told = tt;
  places = refl;
  left = subst (λ (es : List (ℕ × Listed Z)). AreListed options.port packets es) (sym is) listed;
  wrote = wrote;
  tallied = refl;
  added = refl;
  marked = adds_nothing marks;
}

-- all are
pub all_put : {Y T Z : Type 0} {sink : sinks.Ghosts T} (options : CheckOptions) (packets : List Recorded) (talks : Talks Z) (last_packet : ℕ) (listed : BTreeMap ℕ (Listed Z))
    (first rest : List (ℕ × Listed Z)) (lines lines' : CheckLines Y T sink) (tally tally' : Tally) (firsts firsts' : List (Option Refusal)) (marks marks' : Marks Y) (lacking : Option Refusal)
    → first ≡ listed.entries → rest ≡ [] → IsOrdered nat_cmp listed → (HoldsEach options.port packets talks → HasAll options.port packets (IsPlaceOf listed)) → lacking ≡ None
    → PutsFront options packets last_packet first rest lines lines' tally tally' firsts firsts' marks marks'
    → PutsAll options packets talks last_packet lines lines' tally tally' firsts firsts' marks marks' lacking
all_put {Y} {T} {Z} options packets talks last_packet listed first rest lines lines' tally tally' firsts firsts' marks marks' lacking is done rises all calm front =
    let whole : keys_of front.blocks ≡ keys_of listed.entries =
    sym (append-nil (keys_of front.blocks)) ∙ subst (λ (es : List (ℕ × Listed Z)). keys_of front.blocks ++ keys_of es ≡ keys_of first) done front.places
    ∙ ap (λ (es : List (ℕ × Listed Z)). keys_of es) is in
    record {
      places = keys_of listed.entries;
      rise = rises;
      puts = record { blocks = front.blocks; told = front.told; are_places = whole; wrote = front.wrote; tallied = front.tallied; added = front.added; marked = front.marked };
      lacks = inl calm;
      none = inl calm;
      some = inl calm;
      all = λ ample each. among_keys options.port packets listed (all each);
    }

in_none : (place : ℕ) → Contains [] place → ⊥
in_none place (k, within, is) = omega (arith, within)

at_none : (port : ℕ) (packets : List Recorded) (q : Addresses) → HasEach port packets (Contains []) q → HasEach port packets (λ place. ⊥) q
at_none port packets q (inl theirs) = inl record { segments = theirs.segments; taken = theirs.taken; each = λ number is. in_none _ (theirs.each number is) }
at_none port packets q (inr refused) = absurd (in_none refused.place refused.is_place)

pub none_put : {Y T Z : Type 0} {sink : sinks.Ghosts T} (options : CheckOptions) (packets : List Recorded) (talks : Talks Z) (last_packet : ℕ) (lines : CheckLines Y T sink) (tally : Tally)
    (firsts : List (Option Refusal)) (marks : Marks Y) (lacking : Option Refusal) → PutsLines lines lines [] → lacking ≡ Some (refusals.Memory last_packet)
    → ¬ HasAll options.port packets (λ place. ⊥) → PutsAll options packets talks last_packet lines lines tally tally firsts firsts marks marks lacking
none_put options packets talks last_packet lines tally firsts marks lacking wrote lacks few = record {
  places = [];
  rise = no_keys;
  puts = record { blocks = []; told = tt; are_places = refl; wrote = wrote; tallied = refl; added = refl; marked = adds_nothing marks };
  lacks = inr lacks;
  none = inr refl;
  some = inr (λ all. few (λ q is. at_none options.port packets q (all q is)));
  all = λ ample each. absurd (some_none (refusals.Memory last_packet) (sym lacks ∙ ample));
}
