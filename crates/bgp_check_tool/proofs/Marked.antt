-- Marks are added one after another.
use Rattle.std.proofs.Common.{◌≡◌, ◌∙◌, ◌++◌, ℕ, List, [], ◌∷◌, append-nil, append_assoc, ap, subst, sym}
use Rattle.bgp_check_lines.specs.Printing.{Printing}
use Rattle.bgp_check_tool.specs.Blocks.{Block}
use Rattle.bgp_check_tool.specs.Marks.{AddsMarks, block_marks, marks_of}
use Rattle.bgp_check_tool.specs.declared.marks.BothMarks.{BothMarks}
use Rattle.bgp_check_tool.specs.declared.marks.Marks.{Marks}

pub adds_nothing : {Y : Type 0} (marks : Marks Y) → AddsMarks marks marks []
adds_nothing marks none = (none, sym (append-nil marks.both.items))

pub adds_both : {Y : Type 0} (old middle new : Marks Y) (some more : List BothMarks) → AddsMarks old middle some → AddsMarks middle new more → AddsMarks old new (some ++ more)
adds_both old middle new some more first second none =
    let later = second none in
    let earlier = first later.0 in (
      earlier.0,
      later.1 ∙ ap (λ (marks : List BothMarks). marks ++ more) earlier.1 ∙ append_assoc old.both.items some more,
    )

marks_with : (printing : Printing) (blocks : List (ℕ × Block)) (one : ℕ × Block) → marks_of printing blocks ++ block_marks printing one.1 ≡ marks_of printing (blocks ++ one ∷ [])
marks_with printing [] one = sym (append-nil (block_marks printing one.1))
marks_with printing (b ∷ blocks) one =
    append_assoc (block_marks printing b.1) (marks_of printing blocks) (block_marks printing one.1)
    ∙ ap (λ (rest : List BothMarks). block_marks printing b.1 ++ rest) (marks_with printing blocks one)

-- those of one block more
pub adds_block : {Y : Type 0} (printing : Printing) (blocks : List (ℕ × Block)) (one : ℕ × Block) (old middle new : Marks Y)
    → AddsMarks old middle (marks_of printing blocks) → AddsMarks middle new (block_marks printing one.1) → AddsMarks old new (marks_of printing (blocks ++ one ∷ []))
adds_block printing blocks one old middle new first second =
    subst (λ (marks : List BothMarks). AddsMarks old new marks) (marks_with printing blocks one)
    (adds_both old middle new (marks_of printing blocks) (block_marks printing one.1) first second)
