-- Marks are added one after another.
use Rattle.std.proofs.Common.{◌≡◌, ◌∙◌, ◌++◌, Bool, List, [], ◌∷◌, append-nil, append_assoc, ap, map, refl, subst, sym}
use Rattle.std.specs.List.{flat_map}
use Rattle.std.proofs.lemmas.Grind.{flat_map-append}
use Rattle.bgp_prefix.specs.Shown.{ShownRecord}
use Rattle.mrt_sessions.specs.File.{Located}
use Rattle.mrt_sessions.specs.declared.addresses.Addresses.{Addresses}
use Rattle.bgp_check_lines.specs.Printing.{Printing}
use Rattle.bgp_check_capture_tool.specs.Checking.{Block, block_marks, marks_of}
use Rattle.bgp_check_capture_tool.specs.Ends.{End, front_ends, silent_ends}
use Rattle.bgp_check_capture_tool.specs.Marks.{AddsMarks, MarkValue, end_marks, ends_marks, mark_value}
use Rattle.bgp_check_capture_tool.specs.declared.marks.StretchMarks.{StretchMarks}

pub adds_nothing : {Y : Type 0} (marks : StretchMarks Y) → AddsMarks marks marks []
adds_nothing marks none = (none, sym (append-nil (map mark_value marks.stretches.items)))

pub adds_both : {Y : Type 0} (old middle new : StretchMarks Y) (some more : List MarkValue) → AddsMarks old middle some → AddsMarks middle new more → AddsMarks old new (some ++ more)
adds_both old middle new some more first second none =
    let later = second none in
    let earlier = first later.0 in (
      earlier.0,
      later.1 ∙ ap (λ (marks : List MarkValue). marks ++ more) earlier.1 ∙ append_assoc (map mark_value old.stretches.items) some more,
    )

-- those of one more of several
with_one_more : {X : Type 0} (f : X → List MarkValue) (xs : List X) (one : X) → flat_map f xs ++ f one ≡ flat_map f (xs ++ one ∷ [])
with_one_more f xs one =
    ap (λ (o : List MarkValue). flat_map f xs ++ o) (sym (append-nil (f one))) ∙ sym (flat_map-append f xs (one ∷ []))

-- those of records of which no message is sent
silent_unmarked : (quiet : Bool) (addresses : Addresses) (named : List Located) (records : List ShownRecord) → ends_marks quiet addresses named (silent_ends records) ≡ []
silent_unmarked quiet addresses named [] = refl
silent_unmarked quiet addresses named (first ∷ records) = refl

pub adds_silent : {Y : Type 0} (quiet : Bool) (addresses : Addresses) (named : List Located) (records : List ShownRecord) (marks : StretchMarks Y) → AddsMarks marks marks (ends_marks quiet addresses named (silent_ends records))
adds_silent quiet addresses named records marks = subst (AddsMarks marks marks) (sym (silent_unmarked quiet addresses named records)) (adds_nothing marks)

-- and of those before the first stretch
front_unmarked : (quiet : Bool) (addresses : Addresses) (named : List Located) (front : List ShownRecord) → ends_marks quiet addresses named (front_ends front) ≡ []
front_unmarked quiet addresses named [] = refl
front_unmarked quiet addresses named (first ∷ front) = refl

pub adds_front : {Y : Type 0} (quiet : Bool) (addresses : Addresses) (named : List Located) (front : List ShownRecord) (marks : StretchMarks Y) → AddsMarks marks marks (ends_marks quiet addresses named (front_ends front))
adds_front quiet addresses named front marks = subst (AddsMarks marks marks) (sym (front_unmarked quiet addresses named front)) (adds_nothing marks)

-- those of one end more
pub adds_end : {Y : Type 0} (quiet : Bool) (addresses : Addresses) (named : List Located) (ends : List End) (one : End) (old middle new : StretchMarks Y)
    → AddsMarks old middle (ends_marks quiet addresses named ends) → AddsMarks middle new (end_marks quiet addresses named one) → AddsMarks old new (ends_marks quiet addresses named (ends ++ one ∷ []))
adds_end quiet addresses named ends one old middle new first second =
    subst (λ (marks : List MarkValue). AddsMarks old new marks) (with_one_more (end_marks quiet addresses named) ends one)
    (adds_both old middle new (ends_marks quiet addresses named ends) (end_marks quiet addresses named one) first second)

-- those of one block more
pub adds_block : {Y : Type 0} (printing : Printing) (named : List Located) (blocks : List Block) (one : Block) (old middle new : StretchMarks Y)
    → AddsMarks old middle (marks_of printing named blocks) → AddsMarks middle new (block_marks printing named one) → AddsMarks old new (marks_of printing named (blocks ++ one ∷ []))
adds_block printing named blocks one old middle new first second =
    subst (λ (marks : List MarkValue). AddsMarks old new marks) (with_one_more (block_marks printing named) blocks one)
    (adds_both old middle new (marks_of printing named blocks) (block_marks printing named one) first second)
