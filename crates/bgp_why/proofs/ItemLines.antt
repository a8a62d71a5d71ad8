-- The lines of items, one by one.
use Rattle.std.proofs.Common.{◌≡◌, ◌∙◌, ◌++◌, ◌+◌, ◌∷◌, ◌<◌, ◌≤◌, ℕ, List, [], Option, None, Some, ap, sym, refl, length, drop, get_or, append-nil, append_assoc, add-one}
use Rattle.std.proofs.Math.ListN.{drop_of_length-le}
use Rattle.std.proofs.Math.Seq.{drop-cons}
use Rattle.bgp_why.specs.declared.items.Item.{Item}
use Rattle.bgp_why.specs.Items.{next_word, those_possible}
use Rattle.bgp_why.specs.Possible.{item_line, item_lines, other_item_lines}

-- the line of an item, if it is possible, and then those of the others
pub item_by_item : (first : ℕ) (but : Item → List ℕ) (word : List ℕ) (item : Option Item) (items : List (Option Item))
    → item_lines first but word (those_possible (item ∷ items))
    ≡ item_lines first but word (those_possible (item ∷ [])) ++ item_lines first but (next_word word item) (those_possible items)
item_by_item first but word None items = refl
item_by_item first but word (Some item) items = simp append_assoc

-- one more of the items was written, the one at i
pub one_more : (first : ℕ) (but : Item → List ℕ) (word written whole : List ℕ) (items : List (Option Item)) (i : ℕ) → i < length items
    → written ++ item_lines first but word (those_possible (drop i items)) ≡ whole
    → (written ++ item_lines first but word (those_possible (get_or items i None ∷ [])))
    ++ item_lines first but (next_word word (get_or items i None)) (those_possible (drop (i + 1) items))
    ≡ whole
one_more first but word written whole items i within so_far =
    let item = get_or items i None in
    let rest : drop i items ≡ item ∷ drop (i + 1) items = rw add-one (drop-cons items i None within) in
    append_assoc written _ _
    ∙ ap (λ (o : List ℕ). written ++ o) (sym (item_by_item first but word item (drop (i + 1) items)))
    ∙ ap (λ (left : List (Option Item)). written ++ item_lines first but word (those_possible left)) (sym rest)
    ∙ so_far

-- none of the items is left
pub none_left : (first : ℕ) (but : Item → List ℕ) (word written whole : List ℕ) (items : List (Option Item)) (i : ℕ) → length items ≤ i
    → written ++ item_lines first but word (those_possible (drop i items)) ≡ whole → written ≡ whole
none_left first but word written whole items i past so_far =
    sym (append-nil written)
    ∙ ap (λ (left : List (Option Item)). written ++ item_lines first but word (those_possible left)) (sym (drop_of_length-le items past))
    ∙ so_far

-- ---- of other orders

-- the line of an item, if it is possible, and then those of the others
other_by_other : (first : ℕ) (item : Option Item) (items : List (Option Item))
    → other_item_lines first (those_possible (item ∷ items))
    ≡ other_item_lines first (those_possible (item ∷ [])) ++ other_item_lines first (those_possible items)
other_by_other first None items = refl
other_by_other first (Some item) items = simp append_assoc

-- one more of the items was written, the one at i
pub one_more_other : (first : ℕ) (written whole : List ℕ) (items : List (Option Item)) (i : ℕ) → i < length items
    → written ++ other_item_lines first (those_possible (drop i items)) ≡ whole
    → (written ++ other_item_lines first (those_possible (get_or items i None ∷ [])))
    ++ other_item_lines first (those_possible (drop (i + 1) items))
    ≡ whole
one_more_other first written whole items i within so_far =
    let item = get_or items i None in
    let rest : drop i items ≡ item ∷ drop (i + 1) items = rw add-one (drop-cons items i None within) in
    append_assoc written _ _
    ∙ ap (λ (o : List ℕ). written ++ o) (sym (other_by_other first item (drop (i + 1) items)))
    ∙ ap (λ (left : List (Option Item)). written ++ other_item_lines first (those_possible left)) (sym rest)
    ∙ so_far

-- none of the items is left
pub none_left_other : (first : ℕ) (written whole : List ℕ) (items : List (Option Item)) (i : ℕ) → length items ≤ i
    → written ++ other_item_lines first (those_possible (drop i items)) ≡ whole → written ≡ whole
none_left_other first written whole items i past so_far =
    sym (append-nil written)
    ∙ ap (λ (left : List (Option Item)). written ++ other_item_lines first (those_possible left)) (sym (drop_of_length-le items past))
    ∙ so_far
