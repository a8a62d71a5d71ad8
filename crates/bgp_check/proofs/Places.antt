-- What is judged of a stretch: what is answered of it where that is no yes, and where it stands.
use Rattle.std.proofs.Common.{◌≡◌, ◌∙◌, ◌+◌, ◌≤◌, ◌++◌, ℕ, List, [], ◌∷◌, Option, None, Some, inl, inr, refl, sym, subst, ap, arith, length, map}
use Rattle.std.specs.List.{AllByRecursion}
use Rattle.std.specs.Prelude.{option_map}
use Rattle.std.proofs.lemmas.List.{map-append}
use Rattle.mrt.specs.Reader.{shown_of}
use Rattle.mrt.specs.declared.record.Record.{Record}
use Rattle.bgp_prefix.specs.Shown.{Changed, Received, Sent, ShownRecord}
use Rattle.bgp_prefix.specs.declared.session.Session.{Session}
use Rattle.bgp_judge.specs.Verdict.{No, Unfinished, Yes}
use Rattle.bgp_check.specs.Answered.{AnswerValue, IsAnswerTo, JudgedAs, Unjudged}
use Rattle.bgp_check.specs.declared.passing.RefreshOffers.{RefreshOffers}
use Rattle.bgp_check.specs.Passed.{Keeps, Left, Takes, nothing_left, one_passed}
use Rattle.bgp_check.specs.StretchTold.{IsStretchTold, ToldValue, answer_by, left_answer, with_leaving, with_place}

-- ---- what is answered

-- it isn't a yes
abbrev pub IsNoYes : AnswerValue → Type 0
IsNoYes (Unjudged why) = Unit {0}
IsNoYes (JudgedAs number peer under (Yes ends)) = ⊥
IsNoYes (JudgedAs number peer under (No count)) = Unit {0}
IsNoYes (JudgedAs number peer under Unfinished) = Unit {0}

not_left : (answer : AnswerValue) → IsNoYes (left_answer answer) → left_answer answer ≡ answer
not_left (Unjudged why) is = refl
not_left (JudgedAs number peer under (Yes ends)) is = absurd is
not_left (JudgedAs number peer under (No count)) is = refl
not_left (JudgedAs number peer under Unfinished) is = absurd is

as_judged : (leaving : Option ShownRecord) (answer : AnswerValue) → IsNoYes (answer_by leaving answer) → answer_by leaving answer ≡ answer
as_judged None answer is = refl
as_judged (Some leaving) answer is = not_left answer is

-- then it is what is answered of the records that are judged
pub answered_so : (session : Session) (stretch : List ShownRecord) (all : ℕ) (leaving : Option ShownRecord) (told : ToldValue) → IsStretchTold session stretch all leaving told
    → IsNoYes told.answer → IsAnswerTo session told.records told.answer
answered_so session stretch all leaving told is_told nought =
    let same = as_judged leaving is_told.answer (subst IsNoYes is_told.is_answer nought) in
    subst (λ (rs : List ShownRecord). IsAnswerTo session rs told.answer) (sym is_told.are_records)
    (subst (λ (a : AnswerValue). IsAnswerTo session (with_leaving is_told.left.records leaving) a) (sym (is_told.is_answer ∙ same)) is_told.answers)

-- and so it is of a stretch that no record leaves
pub answered_at_the_end : (session : Session) (stretch : List ShownRecord) (all : ℕ) (told : ToldValue) → IsStretchTold session stretch all None told
    → IsAnswerTo session told.records told.answer
answered_at_the_end session stretch all told is =
    subst (λ (rs : List ShownRecord). IsAnswerTo session rs told.answer) (sym is.are_records)
    (subst (λ (a : AnswerValue). IsAnswerTo session is.left.records a) (sym is.is_answer) is.answers)

-- ---- the records that are judged

pub with_last : (leaving : Option Record) (records all : List Record) (last : Record) → leaving ≡ Some last → all ≡ records ++ last ∷ []
    → map shown_of all ≡ with_leaving (map shown_of records) (option_map shown_of leaving)
with_last leaving records all last is pushed =
    subst (λ (o : Option Record). map shown_of all ≡ with_leaving (map shown_of records) (option_map shown_of o)) (sym is) (ap (map shown_of) pushed ∙ map-append shown_of records (last ∷ []))

-- ---- where they stand

pub passed_places : (shown : ShownRecord) (left : Left) → (one_passed shown left).places ≡ left.places
passed_places (Received t octets) left = refl
passed_places (Sent t octets) left = refl
passed_places (Changed t old new) left = refl

all_with : (P : ℕ → Type 0) (xs : List ℕ) (x : ℕ) → AllByRecursion P xs → P x → AllByRecursion P (xs ++ x ∷ [])
all_with P [] x all p = (p, tt)
all_with P (y ∷ xs) x all p = (all.0, all_with P xs x all.1 p)

module _ (P : ℕ → Type 0) where
  kept_few : (offers : RefreshOffers) (at : ℕ) (records : List ShownRecord) (old new : Left) → Keeps offers at records old new
      → ((place : ℕ) → at ≤ place → place + 1 ≤ at + length records → P place) → AllByRecursion P old.places → AllByRecursion P new.places
  kept_few offers at [] old new keeps few all = subst (λ (l : Left). AllByRecursion P l.places) (sym keeps) all
  kept_few offers at (shown ∷ records) old new keeps few all =
      kept_few offers (at + 1) records keeps.0 new keeps.2
      (λ place least most. few place (omega (arith, least)) (omega (arith, most))) (taken keeps.1) where
        taken : Takes offers at shown old keeps.0 → AllByRecursion P keeps.0.places
        taken (inl passed) = subst (AllByRecursion P) (sym (ap (λ (l : Left). l.places) passed.1 ∙ passed_places shown old)) all
        taken (inr kept) = subst (AllByRecursion P) (sym (ap (λ (l : Left). l.places) kept.1)) (all_with P old.places at all (few at (omega arith) (omega arith)))

  with_all : (places : List ℕ) (leaving : Option ShownRecord) (all : ℕ) → AllByRecursion P places → P all → AllByRecursion P (with_place places leaving all)
  with_all places None all each p = each
  with_all places (Some leaving) all each p = all_with P places all each p

  -- no more records of the stretch than it has stand before any
  pub few_places : (session : Session) (stretch : List ShownRecord) (leaving : Option ShownRecord) (told : ToldValue) → IsStretchTold session stretch (length stretch) leaving told
      → ((place : ℕ) → place ≤ length stretch → P place) → AllByRecursion P told.places
  few_places session stretch leaving told is few =
      subst (AllByRecursion P) (sym is.are_places)
      (with_all is.left.places leaving (length stretch)
      (kept_few _ 0 stretch nothing_left is.left is.keeps (λ place least most. few place (omega (arith, most))) tt)
      (few (length stretch) (omega arith)))
