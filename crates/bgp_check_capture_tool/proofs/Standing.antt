-- No more records stand before one that a verdict names than its session has.
use Rattle.std.proofs.Common.{◌≤◌, ◌++◌, ℕ, zero, suc, List, [], ◌∷◌, Option, None, Some, length, slice_index_or, unwrap_or, sym, subst, arith}
use Rattle.std.specs.List.{AllByRecursion, slice_get}
use Rattle.bgp_prefix.specs.Shown.{ShownRecord}
use Rattle.bgp_prefix.specs.declared.session.Session.{Session}
use Rattle.bgp_judge.specs.Verdict.{No, Unfinished, Yes}
use Rattle.bgp_check.specs.Answered.{AnswerValue, JudgedAs, Unjudged}
use Rattle.bgp_check.specs.StretchTold.{IsStretchTold, ToldValue, place_of, with_place}
use Rattle.bgp_check.proofs.Places.{few_places}
use Rattle.bgp_check_capture_tool.specs.Places.{last_place}

module _ (P : ℕ → Type 0) where
  -- what holds of each and of the default holds at a place, or of the default
  held_at : (xs : List ℕ) (i d : ℕ) → AllByRecursion P xs → P d → P (unwrap_or (slice_get xs i) d)
  held_at [] i d all is = is
  held_at (x ∷ xs) zero d all is = all.0
  held_at (x ∷ xs) (suc i) d all is = held_at xs i d all.1 is

  index_held : (xs : List ℕ) (i d : ℕ) → AllByRecursion P xs → P d → P (slice_index_or xs i d)
  index_held [] i d all is = is
  index_held (x ∷ xs) zero d all is = all.0
  index_held (x ∷ xs) (suc i) d all is = index_held xs i d all.1 is

  without_last : (xs : List ℕ) (x : ℕ) → AllByRecursion P (xs ++ x ∷ []) → AllByRecursion P xs
  without_last [] x all = tt
  without_last (y ∷ xs) x all = (all.0, without_last xs x all.1)

  of_the_stretch : (places : List ℕ) (leaving : Option ShownRecord) (all : ℕ) → AllByRecursion P (with_place places leaving all) → AllByRecursion P places
  of_the_stretch places None all each = each
  of_the_stretch places (Some leaving) all each = without_last places all each

  place_held : (answer : AnswerValue) (places : List ℕ) (all : ℕ) → AllByRecursion P places → P all → P 0 → P (unwrap_or (place_of answer places all) 0)
  place_held (Unjudged why) places all each is none = none
  place_held (JudgedAs number peer under (Yes ends)) places all each is none = none
  place_held (JudgedAs number peer under (No count)) places all each is none = index_held places count all each is
  place_held (JudgedAs number peer under Unfinished) places all each is none = none

  module _ (session : Session) (stretch : List ShownRecord) (leaving : Option ShownRecord) (told : ToldValue) (is : IsStretchTold session stretch (length stretch) leaving told)
      (few : (place : ℕ) → place ≤ length stretch → P place) where
    pub few_at_last : P (last_place told.places)
    few_at_last = held_at told.places _ 0 (few_places P session stretch leaving told is few) (few 0 (omega arith))

    pub few_at_no : P (unwrap_or told.impossible 0)
    few_at_no =
        let each = subst (AllByRecursion P) is.are_places (few_places P session stretch leaving told is few) in
        subst (λ (o : Option ℕ). P (unwrap_or o 0)) (sym is.is_place)
        (place_held is.answer is.left.places (length stretch) (of_the_stretch is.left.places leaving (length stretch) each) (few (length stretch) (omega arith)) (few 0 (omega arith)))
