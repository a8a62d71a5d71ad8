-- Which record of a stretch is named where it is a no.
use Rattle.std.proofs.Common.{◌≡◌, ◌∙◌, ◌+◌, ◌<◌, ◌++◌, ℕ, zero, suc, List, [], ◌∷◌, Option, None, Some, refl, sym, ap, subst, inl, inr, arith, length, get_or, append_assoc, append-nil}
use Rattle.std.specs.List.{slice_get}
use Rattle.bgp_prefix.specs.Shown.{Changed, Received, Sent, ShownRecord}
use Rattle.bgp_judge.specs.Verdict.{HasVerdict, No}
use Rattle.bgp_check.specs.Answered.{AnswerValue, HasItsVerdict, IsAnswerTo, IsJudged, JudgedAs}
use Rattle.bgp_check.specs.declared.passing.RefreshOffers.{RefreshOffers}
use Rattle.bgp_check.specs.Named.{NamesTheRecord, NoNamesItsRecord}
use Rattle.bgp_check.specs.Passed.{Keeps, Left, Takes, nothing_left, one_passed}
use Rattle.bgp_check.specs.StretchTold.{place_of, with_leaving, with_place}
use Rattle.bgp_check.proofs.Places.{passed_places}
use Rattle.bgp_check.proofs.Stretched.{no_by, passed_same}

-- each of the records stands in all of them at its place
abbrev StandAt : List ShownRecord → List ℕ → List ShownRecord → Type 0
StandAt all [] [] = Unit {0}
StandAt all [] (shown ∷ records) = ⊥
StandAt all (place ∷ places) [] = ⊥
StandAt all (place ∷ places) (shown ∷ records) = (slice_get all place ≡ Some shown) × StandAt all places records

stand_more : (all : List ShownRecord) (places : List ℕ) (records : List ShownRecord) (place : ℕ) (shown : ShownRecord) → StandAt all places records
    → slice_get all place ≡ Some shown → StandAt all (places ++ place ∷ []) (records ++ shown ∷ [])
stand_more all [] [] place shown so is = (is, tt)
stand_more all [] (x ∷ records) place shown so is = absurd so
stand_more all (p ∷ places) [] place shown so is = absurd so
stand_more all (p ∷ places) (x ∷ records) place shown so is = (so.0, stand_more all places records place shown so.1 is)

behind : (front : List ShownRecord) (shown : ShownRecord) (rest : List ShownRecord) → slice_get (front ++ shown ∷ rest) (length front) ≡ Some shown
behind [] shown rest = refl
behind (x ∷ front) shown rest = behind front shown rest

one_longer : (front : List ShownRecord) (shown : ShownRecord) → length (front ++ shown ∷ []) ≡ length front + 1
one_longer [] shown = refl
one_longer (x ∷ front) shown = omega (arith, one_longer front shown)

keep_standing : (offers : RefreshOffers) (all front : List ShownRecord) (at : ℕ) (records rest : List ShownRecord) (old new : Left) → all ≡ front ++ (records ++ rest) → at ≡ length front
    → Keeps offers at records old new → StandAt all old.places old.records → StandAt all new.places new.records
keep_standing offers all front at [] rest old new whole is keeps so = subst (λ (l : Left). StandAt all l.places l.records) (sym keeps) so
keep_standing offers all front at (shown ∷ records) rest old new whole is keeps so =
    keep_standing offers all (front ++ shown ∷ []) (at + 1) records rest keeps.0 new (whole ∙ sym (append_assoc front (shown ∷ []) (records ++ rest)))
    (ap (λ (n : ℕ). n + 1) is ∙ sym (one_longer front shown)) keeps.2 (by keeps.1) where
      here : slice_get all at ≡ Some shown
      here = subst (λ (n : ℕ). slice_get all n ≡ Some shown) (sym is)
          (subst (λ (v : List ShownRecord). slice_get v (length front) ≡ Some shown) (sym whole) (behind front shown (records ++ rest)))

      by : Takes offers at shown old keeps.0 → StandAt all keeps.0.places keeps.0.records
      by (inl passed) =
          let places = ap (λ (l : Left). l.places) passed.1 ∙ passed_places shown old in
          let left = ap (λ (l : Left). l.records) passed.1 ∙ passed_same shown old in
          subst (λ (ps : List ℕ). StandAt all ps keeps.0.records) (sym places) (subst (λ (rs : List ShownRecord). StandAt all old.places rs) (sym left) so)
      by (inr kept) = subst (λ (l : Left). StandAt all l.places l.records) (sym kept.1) (stand_more all old.places old.records at shown so here)

record Found (all : List ShownRecord) (places : List ℕ) (records : List ShownRecord) (count default : ℕ) : Type 0 where
  pub shown : ShownRecord
  pub is_judged : slice_get records count ≡ Some shown
  pub stands : slice_get all (get_or places count default) ≡ Some shown

found : (all : List ShownRecord) (places : List ℕ) (records : List ShownRecord) (count default : ℕ) → StandAt all places records → count < length records
    → Found all places records count default
found all places [] count default so within = absurd (omega (arith, within))
found all [] (x ∷ records) count default so within = absurd so
found all (p ∷ places) (x ∷ records) zero default so within = record { shown = x; is_judged = refl; stands = so.0 }
found all (p ∷ places) (x ∷ records) (suc count) default so within =
    let later = found all places records count default so.1 (omega (arith, within)) in
    record { shown = later.shown; is_judged = later.is_judged; stands = later.stands }

-- behind the last one stands the default
same_place : (places : List ℕ) (all count : ℕ) → get_or (places ++ all ∷ []) count all ≡ get_or places count all
same_place [] all zero = refl
same_place [] all (suc count) = refl
same_place (p ∷ places) all zero = refl
same_place (p ∷ places) all (suc count) = same_place places all count

found_with : (leaving : Option ShownRecord) (stretch : List ShownRecord) (offers : RefreshOffers) (left : Left) (count : ℕ) → Keeps offers 0 stretch nothing_left left
    → count < length (with_leaving left.records leaving) → Found (with_leaving stretch leaving) left.places (with_leaving left.records leaving) count (length stretch)
found_with None stretch offers left count keeps within =
    found stretch left.places left.records count (length stretch) (keep_standing offers stretch [] 0 stretch [] nothing_left left (sym (append-nil stretch)) refl keeps tt) within
found_with (Some leaving) stretch offers left count keeps within =
    let all = stretch ++ leaving ∷ [] in
    let so = keep_standing offers all [] 0 stretch (leaving ∷ []) nothing_left left refl refl keeps tt in
    let more = stand_more all left.places left.records (length stretch) leaving so (behind stretch leaving []) in
    let it = found all (left.places ++ length stretch ∷ []) (left.records ++ leaving ∷ []) count (length stretch) more within in
    record {
      shown = it.shown;
      is_judged = it.is_judged;
      stands = subst (λ (n : ℕ). slice_get all n ≡ Some it.shown) (same_place left.places (length stretch) count) it.stands;
    }

pub names_its_record : HasItsVerdict → NoNamesItsRecord
names_its_record law session stretch leaving told number peer under count is answered =
    let judged = with_leaving is.left.records leaving in
    let answer = no_by leaving is.answer number peer under count (sym is.is_answer ∙ answered) in
    let its : IsJudged session judged number peer under (No count) = subst (λ (a : AnswerValue). IsAnswerTo session judged a) answer is.answers in
    let holds : HasVerdict under judged (No count) = (law session judged number peer under (No count) its).0 in
    let it = found_with leaving stretch _ is.left count is.keeps holds.0 in
    record {
      place = get_or is.left.places count (length stretch);
      shown = it.shown;
      is_named = is.is_place ∙ ap (λ (a : AnswerValue). place_of a is.left.places (length stretch)) answer;
      is_judged = subst (λ (rs : List ShownRecord). slice_get rs count ≡ Some it.shown) (sym is.are_records) it.is_judged;
      stands = it.stands;
    }
