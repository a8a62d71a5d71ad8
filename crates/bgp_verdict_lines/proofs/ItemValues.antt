-- The objects of items, and those of notes, one by one.
use Rattle.std.proofs.Common.{◌≡◌, ◌∙◌, ◌++◌, ◌+◌, ◌∷◌, ◌<◌, ◌≤◌, ℕ, Bool, List, [], Option, None, Some, ap, sym, refl, length, drop, get_or, append-nil, append_assoc, add-one}
use Rattle.std.proofs.Math.ListN.{drop_of_length-le}
use Rattle.std.proofs.Math.Seq.{drop-cons}
use Rattle.bgp_why.specs.declared.items.Item.{Item}
use Rattle.bgp_why.specs.declared.note_lines.Note.{Note}
use Rattle.bgp_why.specs.Items.{those_possible}
use Rattle.bgp_json_verdicts.specs.Lines.{LineValue, item_values, note_values, other_item_values, still_first}

-- ---- items

module _ (is_owed is_next : Bool) (first : ℕ) (but : Item → List ℕ) where
  abbrev values : Bool → List (Option Item) → List LineValue
  values is_first items = item_values is_owed is_next is_first first but (those_possible items)

  -- an item, if it is possible, and then the others
  item_by_item : (is_first : Bool) (item : Option Item) (items : List (Option Item))
      → values is_first (item ∷ items) ≡ values is_first (item ∷ []) ++ values (still_first is_first item) items
  item_by_item is_first None items = refl
  item_by_item is_first (Some item) items = refl

  -- one more of the items was told, the one at i
  pub one_item : (is_first : Bool) (told whole : List LineValue) (items : List (Option Item)) (i : ℕ) → i < length items
      → told ++ values is_first (drop i items) ≡ whole
      → (told ++ values is_first (get_or items i None ∷ [])) ++ values (still_first is_first (get_or items i None)) (drop (i + 1) items) ≡ whole
  one_item is_first told whole items i within so_far =
      let item = get_or items i None in
      let rest : drop i items ≡ item ∷ drop (i + 1) items = rw add-one (drop-cons items i None within) in
      append_assoc told _ _
      ∙ ap (λ (o : List LineValue). told ++ o) (sym (item_by_item is_first item (drop (i + 1) items)))
      ∙ ap (λ (left : List (Option Item)). told ++ values is_first left) (sym rest)
      ∙ so_far

  -- none of the items is left
  pub no_item : (is_first : Bool) (told whole : List LineValue) (items : List (Option Item)) (i : ℕ) → length items ≤ i
      → told ++ values is_first (drop i items) ≡ whole → told ≡ whole
  no_item is_first told whole items i past so_far =
      sym (append-nil told)
      ∙ ap (λ (left : List (Option Item)). told ++ values is_first left) (sym (drop_of_length-le items past))
      ∙ so_far

-- ---- notes

note_by_note : (note : Option Note) (notes : List (Option Note)) → note_values (note ∷ notes) ≡ note_values (note ∷ []) ++ note_values notes
note_by_note None notes = refl
note_by_note (Some note) notes = refl

-- one more of the notes was told, the one at i
pub one_note : (told whole : List LineValue) (notes : List (Option Note)) (i : ℕ) → i < length notes → told ++ note_values (drop i notes) ≡ whole
    → (told ++ note_values (get_or notes i None ∷ [])) ++ note_values (drop (i + 1) notes) ≡ whole
one_note told whole notes i within so_far =
    let note = get_or notes i None in
    let rest : drop i notes ≡ note ∷ drop (i + 1) notes = rw add-one (drop-cons notes i None within) in
    append_assoc told _ _
    ∙ ap (λ (o : List LineValue). told ++ o) (sym (note_by_note note (drop (i + 1) notes)))
    ∙ ap (λ (left : List (Option Note)). told ++ note_values left) (sym rest)
    ∙ so_far

-- none of the notes is left
pub no_note : (told whole : List LineValue) (notes : List (Option Note)) (i : ℕ) → length notes ≤ i → told ++ note_values (drop i notes) ≡ whole → told ≡ whole
no_note told whole notes i past so_far =
    sym (append-nil told)
    ∙ ap (λ (left : List (Option Note)). told ++ note_values left) (sym (drop_of_length-le notes past))
    ∙ so_far

-- ---- other orders

module _ (first : ℕ) where
  abbrev others : List (Option Item) → List LineValue
  others items = other_item_values first (those_possible items)

  other_by_other : (item : Option Item) (items : List (Option Item)) → others (item ∷ items) ≡ others (item ∷ []) ++ others items
  other_by_other None items = refl
  other_by_other (Some item) items = refl

  -- one more of the items was told, the one at i
  pub one_other : (told whole : List LineValue) (items : List (Option Item)) (i : ℕ) → i < length items → told ++ others (drop i items) ≡ whole
      → (told ++ others (get_or items i None ∷ [])) ++ others (drop (i + 1) items) ≡ whole
  one_other told whole items i within so_far =
      let item = get_or items i None in
      let rest : drop i items ≡ item ∷ drop (i + 1) items = rw add-one (drop-cons items i None within) in
      append_assoc told _ _
      ∙ ap (λ (o : List LineValue). told ++ o) (sym (other_by_other item (drop (i + 1) items)))
      ∙ ap (λ (left : List (Option Item)). told ++ others left) (sym rest)
      ∙ so_far

  -- none of the items is left
  pub no_other : (told whole : List LineValue) (items : List (Option Item)) (i : ℕ) → length items ≤ i → told ++ others (drop i items) ≡ whole → told ≡ whole
  no_other told whole items i past so_far =
      sym (append-nil told)
      ∙ ap (λ (left : List (Option Item)). told ++ others left) (sym (drop_of_length-le items past))
      ∙ so_far
