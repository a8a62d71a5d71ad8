-- The parts of an UPDATE, one by one.
use Rattle.std.proofs.Common.{◌≡◌, ◌∙◌, Bool, ◌++◌, ◌+◌, ◌∷◌, ◌<◌, ◌≤◌, ℕ, List, [], ap, sym, refl, length, drop, get_or, map, codes, append-nil, append_assoc, add-one}
use Rattle.std.proofs.Math.ListN.{drop_of_length-le}
use Rattle.std.proofs.Math.Seq.{drop-cons}
use Rattle.bgp_parts.specs.declared.update.UpdatePart.{UpdatePart}
use Rattle.bgp_parts.specs.UpdateParts.{shown_part}
use Rattle.bgp_why_parts.specs.Updates.{part_text, update_parts_by}

-- one part more was written, the one at i
pub one_more : (is_sent : Bool) (before written whole : List ℕ) (parts : List UpdatePart) (i : ℕ) (other : UpdatePart) → i < length parts
    → written ++ update_parts_by is_sent before (map shown_part (drop i parts)) ≡ whole
    → (written ++ (before ++ part_text is_sent (shown_part (get_or parts i other)))) ++ update_parts_by is_sent (codes "; ") (map shown_part (drop (i + 1) parts)) ≡ whole
one_more is_sent before written whole parts i other within so_far =
    let rest : drop i parts ≡ get_or parts i other ∷ drop (i + 1) parts = rw add-one (drop-cons parts i other within) in
    append_assoc written _ _
    ∙ ap (λ (o : List ℕ). written ++ o) (append_assoc before _ _)
    ∙ ap (λ (left : List UpdatePart). written ++ update_parts_by is_sent before (map shown_part left)) (sym rest)
    ∙ so_far

-- none is left
pub none_left : (is_sent : Bool) (before written whole : List ℕ) (parts : List UpdatePart) (i : ℕ) → length parts ≤ i
    → written ++ update_parts_by is_sent before (map shown_part (drop i parts)) ≡ whole → written ≡ whole
none_left is_sent before written whole parts i past so_far =
    sym (append-nil written)
    ∙ ap (λ (left : List UpdatePart). written ++ update_parts_by is_sent before (map shown_part left)) (sym (drop_of_length-le parts past))
    ∙ so_far
