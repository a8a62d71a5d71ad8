-- The ends of a session that are told so far.
use Rattle.std.proofs.Common.{◌≡◌, ◌↔◌, ◌∙◌, ◌+◌, ◌<◌, ◌++◌, ℕ, Bool, IsTrue, List, [], ◌∷◌, refl, sym, ap, subst, append-nil, append_assoc, arith, length, not}
use Rattle.std.proofs.lemmas.Grind.{flat_map-append}
use Rattle.std.proofs.lemmas.List.{length-append}
use Rattle.bgp_prefix.specs.Shown.{ShownRecord}
use Rattle.bgp_prefix.specs.declared.address.Address.{Address}
use Rattle.mrt.specs.declared.sink.Sink as sinks
use Rattle.bgp_machine.specs.Lists.{Each}
use Rattle.bgp_check_lines.specs.declared.check_lines.CheckLines.{CheckLines}
use Rattle.bgp_text.proofs.Pieces.{Joins}
use Rattle.bgp_check.specs.Cut.{IsWholeStretch, joined}
use Rattle.bgp_check.specs.Stretch.{LeavesIdle}
use Rattle.bgp_check.specs.BeforeLeaving.{IsAtLeaving, IsBeforeLeaving}
use Rattle.bgp_check_lines.specs.Printing.{Printing}
use Rattle.bgp_check_lines.specs.DeclaredTally.{Tally}
use Rattle.bgp_check_capture_tool.specs.Counted.{with_ends, with_one}
use Rattle.bgp_check_capture_tool.specs.Ends.{AreTold, End, IsToldOf, addresses_of, front_ends}
use Rattle.bgp_check_capture_tool.specs.Marks.{AddsMarks, end_marks, ends_marks}
use Rattle.bgp_check_capture_tool.specs.Putting.{Adds, Puts, StretchesUpTo, heading_of}
use Rattle.bgp_check_capture_tool.specs.declared.ends.Put.{Put}
use Rattle.bgp_check_capture_tool.specs.declared.marks.StretchMarks.{StretchMarks}
use Rattle.bgp_check_capture_tool.proofs.Adds.{adds_then}
use Rattle.bgp_check_capture_tool.proofs.Marked.{adds_end, adds_front}
use Rattle.bgp_check_capture_tool.specs.StretchEnd.{View}
use Rattle.bgp_check_capture_tool.specs.Stretches.{AreCut, IsFirst, first_of}
use Rattle.bgp_check_capture_tool.specs.Text.{ends_text, kept_text}

-- ---- lists

joined_more : (stretches : List (List ShownRecord)) (stretch rest : List ShownRecord) → joined (stretches ++ stretch ∷ []) ++ rest ≡ joined stretches ++ (stretch ++ rest)
joined_more [] stretch rest = ap (λ xs. xs ++ rest) (append-nil stretch)
joined_more (s ∷ stretches) stretch rest =
    append_assoc s (joined (stretches ++ stretch ∷ [])) rest ∙ ap (λ xs. s ++ xs) (joined_more stretches stretch rest) ∙ sym (append_assoc s (joined stretches) (stretch ++ rest))

joined_length : (stretches : List (List ShownRecord)) (stretch : List ShownRecord) → length (joined (stretches ++ stretch ∷ [])) ≡ length (joined stretches) + length stretch
joined_length [] stretch = let e = ap (λ (xs : List ShownRecord). length xs) (append-nil stretch) in omega (arith, e)
joined_length (s ∷ stretches) stretch =
    let a = length-append s (joined (stretches ++ stretch ∷ [])) in
    let b = length-append s (joined stretches) in
    let e = joined_length stretches stretch in
    omega (arith, a, b, e)

each_more : {X : Type 0} (P : X → Type 0) (xs : List X) (x : X) → Each P xs → P x → Each P (xs ++ x ∷ [])
each_more P [] x each is = (is, tt)
each_more P (y ∷ xs) x each is = (each.0, each_more P xs x each.1 is)

counted_more : (tally : Tally) (ends : List End) (end : End) → with_one (with_ends tally ends) end ≡ with_ends tally (ends ++ end ∷ [])
counted_more tally [] end = refl
counted_more tally (e ∷ ends) end = counted_more (with_one tally e) ends end

pub counted_then : (tally : Tally) (front ends : List End) → with_ends (with_ends tally front) ends ≡ with_ends tally (front ++ ends)
counted_then tally [] ends = refl
counted_then tally (e ∷ front) ends = counted_then (with_one tally e) front ends

text_more : (printing : Printing) (local : Address) (ends : List End) (end : End) → ends_text printing local ends ++ kept_text printing local end ≡ ends_text printing local (ends ++ end ∷ [])
text_more printing local ends end =
    ap (λ (o : List ℕ). ends_text printing local ends ++ o) (sym (append-nil (kept_text printing local end)))
    ∙ sym (flat_map-append (kept_text printing local) ends (end ∷ []))

-- ---- one stretch more

told_more : (view : View) (before : ℕ) (stretches : List (List ShownRecord)) (stretch behind : List ShownRecord) (ends : List End) (end : End)
    → AreTold view before stretches (stretch ++ behind) ends → IsToldOf view (before + length (joined stretches)) stretch (first_of behind) end
    → AreTold view before (stretches ++ stretch ∷ []) behind (ends ++ end ∷ [])
told_more view before [] stretch behind [] end told is =
    (subst (λ (n : ℕ). IsToldOf view n stretch (first_of behind) end) (let e : before + 0 ≡ before = omega arith in e) is, tt)
told_more view before [] stretch behind (e ∷ ends) end told is = absurd told
told_more view before (s ∷ stretches) stretch behind [] end told is = absurd told
told_more view before (s ∷ stretches) stretch behind (e ∷ ends) end told is = (
  subst (λ (xs : List ShownRecord). IsToldOf view before s (first_of xs) e) (sym (joined_more stretches stretch behind)) told.0,
  told_more view (before + length s) stretches stretch behind ends end told.1
      (subst (λ (n : ℕ). IsToldOf view n stretch (first_of behind) end)
      (let a = length-append s (joined stretches) in
      let e : before + length (joined (s ∷ stretches)) ≡ before + length s + length (joined stretches) = omega (arith, a) in e) is),
)

-- These records are told so far, of which so many are: what stands before the first stretch and some
-- stretches. This rest is left.
pub record SoFar {Y T : Type 0} {sink : sinks.Ghosts T} (printing : Printing) (view : View) (records rest : List ShownRecord) (before : ℕ)
    (lines lines' : CheckLines Y T sink) (tally : Tally) (put : Put) (marks marks' : StretchMarks Y) : Type 0 where
  pub front : List ShownRecord
  pub stretches : List (List ShownRecord)
  pub ends : List End
  pub cut : AreCut records front stretches rest
  pub told : AreTold view (length front) stretches rest ends
  pub many : before ≡ length front + length (joined stretches)
  pub adds : Adds (heading_of view) lines lines' (not printing.quiet) put.is_headed (ends_text printing view.session.local (front_ends front ++ ends))
  pub tallied : put.tally ≡ with_ends tally (front_ends front ++ ends)
  pub marked : AddsMarks marks marks' (ends_marks printing.quiet (addresses_of view.session) view.named (front_ends front ++ ends))

-- none is yet
pub none_told : {Y T : Type 0} {sink : sinks.Ghosts T} (printing : Printing) (view : View) (records front rest : List ShownRecord) (count before : ℕ) (lines lines' : CheckLines Y T sink) (tally : Tally) (put : Put)
    (marks : StretchMarks Y) → before ≡ length front → (is : IsBeforeLeaving records count) → front ≡ is.front → rest ≡ is.rest
    → Adds (heading_of view) lines lines' (not printing.quiet) put.is_headed (ends_text printing view.session.local (front_ends front))
    → put.tally ≡ with_ends tally (front_ends front) → SoFar printing view records rest before lines lines' tally put marks marks
none_told {Y} {T} {sink} printing view records front rest count before lines lines' tally put marks is_before is is_front is_rest adds tallied =
    let none : front_ends front ++ [] ≡ front_ends front = append-nil (front_ends front) in
    record {
      front = front;
      stretches = [];
      ends = [];
      cut = record {
        whole = is.whole ∙ ap (λ (xs : List ShownRecord). xs ++ is.rest) (sym is_front) ∙ ap (λ (xs : List ShownRecord). front ++ xs) (sym is_rest);
        none = subst (Each (λ shown. ¬ LeavesIdle shown)) (sym is_front) is.none;
        each = tt;
        next = subst IsAtLeaving (sym is_rest) is.next;
      };
      told = tt;
      many = omega (arith, is_before);
      adds = subst (λ (es : List End). Adds (heading_of view) lines lines' (not printing.quiet) put.is_headed (ends_text printing view.session.local es)) (sym none) adds;
      tallied = tallied ∙ ap (with_ends tally) (sym none);
      marked = subst (λ (es : List End). AddsMarks marks marks (ends_marks printing.quiet (addresses_of view.session) view.named es)) (sym none) (adds_front printing.quiet (addresses_of view.session) view.named front marks);
    }

-- one more is
pub one_told : {Y T : Type 0} {sink : sinks.Ghosts T} → Joins sink → (printing : Printing) (view : View) (records rest stretch behind : List ShownRecord) (before count : ℕ) (end : End)
    (lines middle lines' : CheckLines Y T sink) (tally : Tally) (between put : Put) (marks known marks' : StretchMarks Y) → SoFar printing view records rest before lines middle tally between marks known
    → IsFirst rest stretch behind → count ≡ length stretch → IsToldOf view before stretch (first_of behind) end
    → Adds (heading_of view) middle lines' between.is_headed put.is_headed (kept_text printing view.session.local end)
    → put.tally ≡ with_one between.tally end → AddsMarks known marks' (end_marks printing.quiet (addresses_of view.session) view.named end)
    → SoFar printing view records behind (before + count) lines lines' tally put marks marks'
one_told {Y} {T} {sink} law printing view records rest stretch behind before count end lines middle lines' tally between put marks known marks' so_far first is_count is adds tallied marked =
    let heading = heading_of view in
    let front = so_far.front in
    let stretches = so_far.stretches in
    let longer : front_ends front ++ (so_far.ends ++ end ∷ []) ≡ (front_ends front ++ so_far.ends) ++ end ∷ [] = sym (append_assoc (front_ends front) so_far.ends (end ∷ [])) in
    let many = so_far.many in
    let lengths = joined_length stretches stretch in
    record {
      front = front;
      stretches = stretches ++ stretch ∷ [];
      ends = so_far.ends ++ end ∷ [];
      cut = record {
        whole = so_far.cut.whole ∙ ap (λ (xs : List ShownRecord). front ++ (joined stretches ++ xs)) first.whole ∙ ap (λ (xs : List ShownRecord). front ++ xs) (sym (joined_more stretches stretch behind));
        none = so_far.cut.none;
        each = each_more IsWholeStretch stretches stretch so_far.cut.each first.stretched;
        next = first.next;
      };
      told = told_more view (length front) stretches stretch behind so_far.ends end
          (subst (λ (xs : List ShownRecord). AreTold view (length front) stretches xs so_far.ends) first.whole so_far.told)
          (subst (λ (n : ℕ). IsToldOf view n stretch (first_of behind) end) many is);
      many = omega (arith, many, lengths, is_count);
      adds = subst (λ (es : List End). Adds heading lines lines' (not printing.quiet) put.is_headed (ends_text printing view.session.local es)) (sym longer)
          (subst (λ (text : List ℕ). Adds heading lines lines' (not printing.quiet) put.is_headed text) (text_more printing view.session.local (front_ends front ++ so_far.ends) end)
          (adds_then law heading lines middle lines' (not printing.quiet) between.is_headed put.is_headed _ _ so_far.adds adds));
      tallied = tallied ∙ ap (λ (t : Tally). with_one t end) so_far.tallied ∙ counted_more tally (front_ends front ++ so_far.ends) end ∙ ap (with_ends tally) (sym longer);
      marked = subst (λ (es : List End). AddsMarks marks marks' (ends_marks printing.quiet (addresses_of view.session) view.named es)) (sym longer)
          (adds_end printing.quiet (addresses_of view.session) view.named (front_ends front ++ so_far.ends) end marks known marks' so_far.marked marked);
    }

-- all are, or all but the rest
pub told_up_to : {Y T : Type 0} {sink : sinks.Ghosts T} (printing : Printing) (view : View) (records rest : List ShownRecord) (before : ℕ) (all : Bool) (lines lines' : CheckLines Y T sink) (tally : Tally) (put : Put)
    (marks marks' : StretchMarks Y) → (IsTrue all ↔ rest ≡ []) → SoFar printing view records rest before lines lines' tally put marks marks'
    → Puts printing (addresses_of view.session) view.named lines lines' tally put marks marks' (StretchesUpTo view records all)
told_up_to printing view records rest before all lines lines' tally put marks marks' done so_far = record {
  ends = front_ends so_far.front ++ so_far.ends;
  told = (rest, done, record { front = so_far.front; stretches = so_far.stretches; later = so_far.ends; cut = so_far.cut; told = so_far.told; are = refl });
  adds = so_far.adds;
  tallied = so_far.tallied;
  marked = so_far.marked;
}

-- ---- a rest

pub shorter : (rest stretch behind : List ShownRecord) → IsFirst rest stretch behind → length behind < length rest
shorter rest [] behind first = absurd first.stretched
shorter rest (s ∷ stretch) behind first =
    let e = ap (λ (xs : List ShownRecord). length xs) first.whole in
    let l = length-append (s ∷ stretch) behind in
    omega (arith, e, l)

pub both_lengths : (rest stretch behind : List ShownRecord) → IsFirst rest stretch behind → length stretch + length behind ≡ length rest
both_lengths rest stretch behind first =
    sym (ap (λ (xs : List ShownRecord). length xs) first.whole ∙ length-append stretch behind)

pub none_left : {X : Type 0} (xs : List X) → length xs ≡ 0 → xs ≡ []
none_left [] none = refl
none_left (x ∷ xs) none = absurd (omega (arith, none))
