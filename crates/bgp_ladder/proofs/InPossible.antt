-- Rows of what could have come, one octet further.
use Rattle.std.proofs.Common.{◌≡◌, ◌≢◌, ◌∙◌, ◌++◌, ◌==◌, ◌||◌, ◌+◌, ◌-◌, ◌<◌, ◌≤◌, ℕ, Bool, true, false, List, [], ◌∷◌, ap, append-nil, append_assoc, arith, drop, get_or, if◌then◌else◌, length, length-drop, refl, sym, take}
use Rattle.std.proofs.lemmas.Bool.{eq-eqb, false≢true, ne_eqb}
use Rattle.std.proofs.lemmas.List.{drop_all, drop_more, get_or-drop, take_more}
use Rattle.std.specs.List.{list_any}
use Rattle.bgp_html.specs.Pieces.{Piece}
use Rattle.bgp_ladder.specs.Possible.{EachLineHasARow, possible_row, possible_rows, rows_from}
use Rattle.bgp_ladder.specs.declared.numbering.Numbering.{Numbering}

-- ---- each line has a row

neither : (x y : Bool) → (x || y) ≡ false → (x ≡ false) × (y ≡ false)
neither true y is = absurd (false≢true (sym is))
neither false y is = (refl, is)

line_by : (numbering : Numbering) (octet : ℕ) (so_far line text : List ℕ) (last : Bool) → last ≡ false
    → (if last then possible_row numbering so_far ++ rows_from numbering [] (line ++ 10 ∷ text) else rows_from numbering (so_far ++ octet ∷ []) (line ++ 10 ∷ text))
    ≡ rows_from numbering (so_far ++ octet ∷ []) (line ++ 10 ∷ text)
line_by numbering octet so_far line text true is = absurd (false≢true (sym is))
line_by numbering octet so_far line text false is = refl

its_row : (numbering : Numbering) (line so_far text : List ℕ) → list_any (λ (octet : ℕ). octet == 10) line ≡ false
    → rows_from numbering so_far (line ++ 10 ∷ text) ≡ possible_row numbering (so_far ++ line) ++ possible_rows numbering text
its_row numbering [] so_far text none = ap (λ (l : List ℕ). possible_row numbering l ++ possible_rows numbering text) (sym (append-nil so_far))
its_row numbering (octet ∷ line) so_far text none =
    let both = neither (octet == 10) (list_any (λ (o : ℕ). o == 10) line) none in
    line_by numbering octet so_far line text (octet == 10) both.0 ∙ its_row numbering line (so_far ++ octet ∷ []) text both.1
    ∙ ap (λ (l : List ℕ). possible_row numbering l ++ possible_rows numbering text) (append_assoc so_far (octet ∷ []) line)

pub each_line : EachLineHasARow
each_line numbering line text none = its_row numbering line [] text none

-- ---- one octet further

none_between : (n : ℕ) → n - n ≡ 0
none_between n = omega arith

module _ (numbering : Numbering) (text : List ℕ) (first place : ℕ) (within : place < length text) (after : first ≤ place) where
  here : drop place text ≡ get_or text place 0 ∷ drop (place + 1) text
  here = drop_more text place 0 within

  abbrev line : List ℕ
  line = take (place - first) (drop first text)

  -- it ends a line
  pub line_ends : get_or text place 0 ≡ 10
      → possible_row numbering line ++ rows_from numbering (take (place + 1 - (place + 1)) (drop (place + 1) text)) (drop (place + 1) text) ≡ rows_from numbering line (drop place text)
  line_ends is =
      ap (λ (n : ℕ). possible_row numbering line ++ rows_from numbering (take n (drop (place + 1) text)) (drop (place + 1) text)) (none_between (place + 1))
      ∙ sym (ap (λ (os : List ℕ). rows_from numbering line os) here ∙ (rw (eq-eqb (get_or text place 0) 10 is) refl))

  longer : take (place + 1 - first) (drop first text) ≡ line ++ get_or text place 0 ∷ []
  longer =
      let more : place + 1 - first ≡ place - first + 1 = omega arith in
      let count = length-drop first text in
      let some : place - first < length (drop first text) = omega (arith, count) in
      let same : first + (place - first) ≡ place = omega arith in
      ap (λ (n : ℕ). take n (drop first text)) more ∙ take_more (drop first text) (place - first) 0 some
      ∙ ap (λ (o : ℕ). line ++ o ∷ []) (get_or-drop first text (place - first) 0 ∙ ap (λ (n : ℕ). get_or text n 0) same)

  -- or doesn't
  pub line_goes_on : get_or text place 0 ≢ 10
      → [] ++ rows_from numbering (take (place + 1 - first) (drop first text)) (drop (place + 1) text) ≡ rows_from numbering line (drop place text)
  line_goes_on is =
      ap (λ (l : List ℕ). rows_from numbering l (drop (place + 1) text)) longer
      ∙ sym (ap (λ (os : List ℕ). rows_from numbering line os) here ∙ (rw (ne_eqb (get_or text place 0) 10 is) refl))

-- the rows so far, one more octet, and no octet more
pub further : (rows more : List Piece) (so_far next all : List Piece) → rows ++ so_far ≡ all → more ++ next ≡ so_far → (rows ++ more) ++ next ≡ all
further rows more so_far next all is one = append_assoc rows more next ∙ ap (λ (ps : List Piece). rows ++ ps) one ∙ is

pub none_left : (numbering : Numbering) (text line : List ℕ) (place : ℕ) (rows all : List Piece) → length text ≤ place → rows ++ rows_from numbering line (drop place text) ≡ all → rows ≡ all
none_left numbering text line place rows all ends is =
    sym (append-nil rows) ∙ ap (λ (os : List ℕ). rows ++ rows_from numbering line os) (sym (drop_all place text ends)) ∙ is
