-- The words before the rows of a stretch.
use Rattle.std.proofs.Common.{◌≡◌, ◌∙◌, ℕ, Bool, List, ap, codes}
use Rattle.bgp_prefix.specs.Text.{address_text}
use Rattle.bgp_html.specs.declared.tag.Column.TheVariants.{Right}
use Rattle.bgp_ladder.specs.declared.numbering.Numbering.TheVariants.{Session}
use Rattle.bgp_ladder.specs.declared.rows.Ladder.{Ladder}
use Rattle.bgp_check_capture_tool.specs.Marks.{MarkValue}
use Rattle.bgp_report.specs.Ladders.{start_by}
use Rattle.bgp_report.specs.Stretches.{stretch_ladder, stretch_start, stretch_words}

abbrev order : List ℕ
order = codes "in the order of the file"

pub stretch_start_is : (is_open : Bool) (mark : MarkValue) (ladder : Ladder) (summary left right : List ℕ) → ladder ≡ stretch_ladder mark ladder.framings
    → summary ≡ stretch_words mark → left ≡ address_text mark.addresses.peer → right ≡ address_text mark.addresses.local
    → start_by is_open ladder.column ladder.numbering order summary left right ≡ stretch_start is_open mark
stretch_start_is is_open mark ladder summary left right is in_words is_left is_right =
    ap (λ (l : Ladder). start_by is_open l.column l.numbering order summary left right) is
    ∙ ap (λ (x : List ℕ). start_by is_open Right Session order x left right) in_words
    ∙ ap (λ (x : List ℕ). start_by is_open Right Session order (stretch_words mark) x right) is_left
    ∙ ap (λ (x : List ℕ). start_by is_open Right Session order (stretch_words mark) (address_text mark.addresses.peer) x) is_right
