-- What is judged of a stretch is one, too.
use Rattle.std.proofs.Common.{◌≡◌, ◌∙◌, ◌+◌, ◌++◌, ℕ, List, [], ◌∷◌, Option, None, Some, refl, sym, ap, subst, inl, inr, append_assoc, append-nil}
use Rattle.bgp_prefix.specs.Shown.{Changed, Received, Sent, ShownRecord}
use Rattle.bgp_open.specs.declared.config.Config.{Config}
use Rattle.bgp_machine.specs.Lists.{Each}
use Rattle.bgp_judge.specs.Verdict.{No, Unfinished, Yes}
use Rattle.bgp_check.specs.Answered.{AnswerValue, IsAnswerTo, JudgedAs, NoConfigurationExplains, Unjudged}
use Rattle.bgp_check.specs.Cut.{IsWholeStretch}
use Rattle.bgp_check.specs.Stretch.{AtMostTheLastLeaves, IsStretch, LeavesIdle}
use Rattle.bgp_check.specs.declared.peer_as.PeerAs.{PeerAs}
use Rattle.bgp_check.specs.declared.passing.RefreshOffers.{RefreshOffers}
use Rattle.bgp_check.specs.Passed.{IsPassedOver, Keeps, Left, Takes, nothing_left, one_passed}
use Rattle.bgp_check.specs.StretchLaws.{JudgedAreStretches, NoConfigurationHasARun}
use Rattle.bgp_check.specs.StretchTold.{answer_by, left_answer, with_leaving}

abbrev Stays : ShownRecord → Type 0
Stays shown = ¬ LeavesIdle shown

pub passed_same : (shown : ShownRecord) (left : Left) → (one_passed shown left).records ≡ left.records
passed_same (Received t octets) left = refl
passed_same (Sent t octets) left = refl
passed_same (Changed t old new) left = refl

-- what is left is among the records, in their order
record Adds (P : ShownRecord → Type 0) (old new : Left) : Type 0 where
  pub more : List ShownRecord
  pub is : new.records ≡ old.records ++ more
  pub each : Each P more

adds : (offers : RefreshOffers) (at : ℕ) (records : List ShownRecord) (old new : Left) → Keeps offers at records old new → Each Stays records → Adds Stays old new
adds offers at [] old new keeps each = record { more = []; is = ap (λ (l : Left). l.records) keeps ∙ sym (append-nil old.records); each = tt }
adds offers at (first ∷ records) old new keeps each = by keeps.1 (adds offers (at + 1) records keeps.0 new keeps.2 each.1) where
  by : Takes offers at first old keeps.0 → Adds Stays keeps.0 new → Adds Stays old new
  by (inl passed) a = record {
    more = a.more;
    is = a.is ∙ ap (λ (rs : List ShownRecord). rs ++ a.more) (ap (λ (l : Left). l.records) passed.1 ∙ passed_same first old);
    each = a.each;
  }
  by (inr kept) a = record {
    more = first ∷ a.more;
    is = a.is ∙ ap (λ (rs : List ShownRecord). rs ++ a.more) (ap (λ (l : Left). l.records) kept.1) ∙ append_assoc old.records (first ∷ []) a.more;
    each = (each.0, a.each);
  }

last_alone : (records : List ShownRecord) → Each Stays records → AtMostTheLastLeaves records
last_alone [] each = tt
last_alone (shown ∷ []) each = tt
last_alone (shown ∷ next ∷ records) each = (each.0, last_alone (next ∷ records) each.1)

last_with : (records : List ShownRecord) (x : ShownRecord) → Each Stays records → AtMostTheLastLeaves (records ++ x ∷ [])
last_with [] x each = tt
last_with (shown ∷ []) x each = (each.0, tt)
last_with (shown ∷ next ∷ records) x each = (each.0, last_with (next ∷ records) x each.1)

-- the first one, which leaves Idle, isn't passed over
not_passed : (offers : RefreshOffers) (shown : ShownRecord) → LeavesIdle shown → IsPassedOver offers shown → ⊥
not_passed offers (Received t octets) leaves passed = leaves
not_passed offers (Sent t octets) leaves passed = leaves
not_passed offers (Changed t old new) leaves passed = passed

first_kept : (offers : RefreshOffers) (first : ShownRecord) (next : Left) → LeavesIdle first → Takes offers 0 first nothing_left next → next.records ≡ first ∷ []
first_kept offers first next leaves (inl passed) = absurd (not_passed offers first leaves passed.0)
first_kept offers first next leaves (inr kept) = ap (λ (l : Left). l.records) kept.1

stretched : (offers : RefreshOffers) (stretch : List ShownRecord) (left : Left) (leaving : Option ShownRecord) → IsWholeStretch stretch
    → Keeps offers 0 stretch nothing_left left → IsStretch (with_leaving left.records leaving)
stretched offers [] left leaving whole keeps = absurd whole
stretched offers (first ∷ records) left leaving whole keeps = by leaving where
  a : Adds Stays keeps.0 left
  a = adds offers 1 records keeps.0 left keeps.2 whole.1

  is : left.records ≡ first ∷ a.more
  is = a.is ∙ ap (λ (rs : List ShownRecord). rs ++ a.more) (first_kept offers first keeps.0 whole.0 keeps.1)

  by : (l : Option ShownRecord) → IsStretch (with_leaving left.records l)
  by None = subst IsStretch (sym is) (whole.0, last_alone a.more a.each)
  by (Some x) = subst (λ (rs : List ShownRecord). IsStretch (rs ++ x ∷ [])) (sym is) (whole.0, last_with a.more x a.each)

pub judged_are_stretches : JudgedAreStretches
judged_are_stretches session stretch all leaving told is whole so = stretched _ stretch is.left leaving whole is.keeps

-- ---- a no

no_before : (answer : AnswerValue) (number : Option ℕ) (peer : PeerAs) (under : Config) (count : ℕ) → left_answer answer ≡ JudgedAs number peer under (No count) → answer ≡ JudgedAs number peer under (No count)
no_before (Unjudged why) number peer under count e = absurd cc
no_before (JudgedAs n p c (Yes ends)) number peer under count e = absurd cc
no_before (JudgedAs n p c (No m)) number peer under count e = e
no_before (JudgedAs n p c Unfinished) number peer under count e = absurd cc

pub no_by : (leaving : Option ShownRecord) (answer : AnswerValue) (number : Option ℕ) (peer : PeerAs) (under : Config) (count : ℕ) → answer_by leaving answer ≡ JudgedAs number peer under (No count)
    → answer ≡ JudgedAs number peer under (No count)
no_by None answer number peer under count e = e
no_by (Some leaving) answer number peer under count e = no_before answer number peer under count e

pub no_configuration : NoConfigurationExplains → NoConfigurationHasARun
no_configuration explains session stretch all leaving told number peer under count own config is whole so told_no has of =
    let answer = no_by leaving is.answer number peer under count (sym is.is_answer ∙ told_no) in
    (explains session (with_leaving is.left.records leaving) number peer under count own config (judged_are_stretches session stretch all leaving told is whole so)
    (subst (λ (a : AnswerValue). IsAnswerTo session (with_leaving is.left.records leaving) a) answer is.answers) has of).0
