-- The ladder of one stretch more, and what is no line of them.
use Rattle.std.proofs.Common.{◌≡◌, ◌∙◌, ◌++◌, ◌+◌, ◌<◌, ◌==◌, ◌||◌, ℕ, zero, suc, Bool, true, false, List, [], ◌∷◌, add-one, ap, append-nil, append_assoc, arith, drop, get_or, inl, inr, length, length-take-le, map, refl, subst, sym, take}
use Rattle.std.proofs.Math.ListN.{get_or-map}
use Rattle.std.proofs.Math.Seq.{drop-cons}
use Rattle.std.proofs.lemmas.Bool.{false≢true}
use Rattle.std.proofs.lemmas.List.{length-map, map-append, take_more}
use Rattle.std.specs.List.{list_any}
use Rattle.bgp_html.specs.Pieces.{Piece, printed_of}
use Rattle.bgp_ladder.specs.Ladder.{RowsAreNotPrinted}
use Rattle.bgp_check_capture_tool.specs.Marks.{MarkValue, mark_value}
use Rattle.bgp_check_capture_tool.specs.declared.marks.StretchMark.{StretchMark}
use Rattle.bgp_report.proofs.InLadders.{both_silent, end_silent, rows_silent}
use Rattle.bgp_report.specs.Ladders.{end_pieces}
use Rattle.bgp_report.specs.Stretches.{AreFrom, AreStretchesBehind, IsJudged, has_no, stretch_is_open, stretch_ladder, stretch_start}

-- ---- one record more

module _ {A B : Type 0} (f : A → B) where
  pub one_mapped : (xs : List A) (x : A) (ys : List B) (i : ℕ) (d : B) → i < length ys → map f xs ≡ take i ys → f x ≡ get_or ys i d
      → map f (xs ++ x ∷ []) ≡ take (i + 1) ys
  one_mapped xs x ys i d within so_far is =
      map-append f xs (x ∷ []) ∙ ap (λ (o : List B). o ++ f x ∷ []) so_far ∙ ap (λ (y : B). take i ys ++ y ∷ []) is ∙ sym (take_more ys i d within)

-- ---- whether a stretch has a no

module _ {X : Type 0} (marks : List (StretchMark X)) (i : ℕ) (d : StretchMark X) (within : i < length marks) where
  abbrev some_no : List (StretchMark X) → Bool
  some_no ms = list_any has_no (map mark_value ms)

  here : drop i marks ≡ get_or marks i d ∷ drop (i + 1) marks
  here = rw add-one (drop-cons marks i d within)

  -- this one has one
  pub this_no : has_no (mark_value (get_or marks i d)) ≡ true → some_no (drop i marks) ≡ true
  this_no is = ap some_no here ∙ ap (λ (x : Bool). x || some_no (drop (i + 1) marks)) is

  -- or has none
  pub a_later_no : has_no (mark_value (get_or marks i d)) ≡ false → some_no (drop i marks) ≡ some_no (drop (i + 1) marks)
  a_later_no is = ap some_no here ∙ ap (λ (x : Bool). x || some_no (drop (i + 1) marks)) is

-- ---- one stretch more

longer : (mark : MarkValue) (marks : List MarkValue) → length (mark ∷ marks) ≡ length marks + 1
longer mark marks = omega arith

module _ (text : List ℕ) (all : List MarkValue) where
  abbrev IsIts : ℕ → MarkValue → List Piece → Type 0
  IsIts number mark one = IsJudged text (stretch_is_open all number mark) number mark one

  one_more : (number : ℕ) (marks : List MarkValue) (mark : MarkValue) (pieces one : List Piece) → AreFrom text all number marks pieces
      → IsIts (number + length marks) mark one → AreFrom text all number (marks ++ mark ∷ []) (pieces ++ one)
  one_more number [] mark pieces one are is =
      let same : number + 0 ≡ number = omega arith in (
        one,
        [],
        subst (λ (n : ℕ). IsIts n mark one) same is,
        refl,
        ap (λ (ps : List Piece). ps ++ one) are ∙ sym (append-nil one),
      )
  one_more number (first ∷ marks) mark pieces one (its, rest, so, more, whole) is =
      let long = longer first marks in
      let same : number + length (first ∷ marks) ≡ number + 1 + length marks = omega (arith, long) in (
        its,
        rest ++ one,
        so,
        one_more (number + 1) marks mark rest one more (subst (λ (n : ℕ). IsIts n mark one) same is),
        ap (λ (ps : List Piece). ps ++ one) whole ∙ append_assoc its rest one,
      )

taken_length : (i : ℕ) (marks : List MarkValue) → i < length marks → 0 + length (take i marks) ≡ i
taken_length i marks within = (let same = length-take-le i marks (omega (arith, within)) in omega (arith, same))

-- the one with this number
module _ {X : Type 0} (marks : List (StretchMark X)) (i : ℕ) (mark : StretchMark X) (within : i < length marks) (is_mark : mark ≡ get_or marks i mark) where
  abbrev all : List MarkValue
  all = map mark_value marks

  abbrev it : MarkValue
  it = mark_value mark

  its_place : i < length all
  its_place = (let same = length-map marks mark_value in omega (arith, same, within))

  is_it : get_or all i it ≡ it
  is_it = get_or-map mark_value marks i mark ∙ ap (λ (m : StretchMark X). mark_value m) (sym is_mark)

  so_far : take (i + 1) all ≡ take i all ++ it ∷ []
  so_far = take_more all i it its_place ∙ ap (λ (m : MarkValue). take i all ++ m ∷ []) is_it

  pub stretches_on : (text : List ℕ) (is_open : Bool) (pieces one : List Piece) → is_open ≡ stretch_is_open all i it → AreFrom text all 0 (take i all) pieces
      → IsJudged text is_open i it one → AreFrom text all 0 (take (i + 1) all) (pieces ++ one)
  stretches_on text is_open pieces one opens are is =
      subst (λ (ms : List MarkValue). AreFrom text all 0 ms (pieces ++ one)) (sym so_far)
      (one_more text all 0 (take i all) it pieces one are
      (subst (λ (n : ℕ). IsIts text all n it one) (sym (taken_length i all its_place))
      (subst (λ (b : Bool). IsJudged text b i it one) opens is)))

-- there are some
pub some_of : (n m : ℕ) → (n == 0) ≡ false → n ≡ m → 0 < m
some_of zero m is same = absurd (false≢true (sym is))
some_of (suc n) m is same = omega (arith, same)

-- ---- no line is printed

module _ (silent : RowsAreNotPrinted) (text : List ℕ) where
  judged_silent : (is_open : Bool) (count : ℕ) (mark : MarkValue) (pieces : List Piece) → IsJudged text is_open count mark pieces → printed_of pieces ≡ []
  judged_silent is_open count mark pieces (inl (possible, noted, its)) =
      ap (λ (ps : List Piece). printed_of ps) its.is
      ∙ both_silent (stretch_start is_open mark) (its.rows ++ end_pieces its.is_whole) refl
      (both_silent its.rows (end_pieces its.is_whole) (rows_silent silent (stretch_ladder mark its.framings) possible its.entries its.is_whole its.rows its.are_rows)
      (end_silent its.is_whole))
  judged_silent is_open count mark pieces (inr lost) = ap (λ (ps : List Piece). printed_of ps) lost

  stretches_silent : (marks : List MarkValue) (number : ℕ) (some : List MarkValue) (pieces : List Piece) → AreFrom text marks number some pieces → printed_of pieces ≡ []
  stretches_silent marks number [] pieces are = ap (λ (ps : List Piece). printed_of ps) are
  stretches_silent marks number (mark ∷ some) pieces (one, rest, its, more, whole) =
      ap (λ (ps : List Piece). printed_of ps) whole
      ∙ both_silent one rest (judged_silent _ number mark one its) (stretches_silent marks (number + 1) some rest more)

  pub stretches_behind_silent : (marks : List MarkValue) (behind : List Piece) → AreStretchesBehind text marks behind → printed_of behind ≡ []
  stretches_behind_silent marks behind (inl (none, is)) = ap (λ (ps : List Piece). printed_of ps) is
  stretches_behind_silent marks behind (inr (inl is)) = ap (λ (ps : List Piece). printed_of ps) is
  stretches_behind_silent marks behind (inr (inr (some, ladders, are, is))) =
      ap (λ (ps : List Piece). printed_of ps) is ∙ both_silent ladders _ (stretches_silent marks 0 marks ladders are) refl
