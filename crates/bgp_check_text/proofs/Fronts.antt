-- The fronts of records, and where runs that show them end.
use Rattle.std.proofs.Common.{◌≡◌, ◌≢◌, ◌∙◌, ◌+◌, ◌-◌, ◌<◌, ◌≤◌, ◌⊎◌, Bool, true, false, IsTrue, ℕ, List, [], ◌∷◌, Option, None, Some, arith, inl, inr, length, refl, subst, suc, sym, take, zero}
use Rattle.std.proofs.lemmas.List.{length-append, length-take-le, take-append-le, take-take}
use Rattle.bgp_prefix.specs.Shown.{ShownRecord}
use Rattle.bgp_open.specs.declared.config.Config.{Config}
use Rattle.bgp_machine.specs.Run.{End}
use Rattle.bgp_machine.specs.declared.fsm.Fsm.TheVariants as fsms
use Rattle.bgp_judge.specs.Ends.{ListsEnds}
use Rattle.bgp_judge.specs.Told.{EachRunIsAsTold}
use Rattle.bgp_judge.specs.Verdict.{HasVerdict, No, Unfinished, VerdictValue, Yes}
use Rattle.bgp_watch.specs.Front.{EndsEstablished, FrontValue, IsLongestFront}
use Rattle.bgp_watch.specs.LastTold.{IsLastTold, TellsEstablished}
use Rattle.bgp_watch.proofs.Fronts.{all_so, not_told}
use Rattle.bgp_check.specs.Answered.{AnswerValue, JudgedAs, Unjudged}
use Rattle.bgp_check.specs.StretchTold.{with_leaving}
use Rattle.bgp_check.proofs.Over.{complete_begins, front_begins}
use Rattle.bgp_check_text.specs.Reached.{AreBefore, AreBeforeIf, AreBeforeTo, AreOfLongestFront, IsLowerTo, IsNoYes, NoFrontEndsEstablished, has_lower}

-- ---- where a run ends

pub none_without_yes : (config : Config) (records : List ShownRecord) (v : VerdictValue) → IsNoYes v → HasVerdict config records v → ¬ EndsEstablished config records
none_without_yes config records (Yes ends) other v has = other
none_without_yes config records (No count) other v has = v.2 (front_begins config records (count + 1) (complete_begins config records has.0 has.1))
none_without_yes config records Unfinished other v has = v.1 has.0 has.1

-- ---- from the longest front to shorter ones

-- no longer front than that of this length has an end in Established
pub record NoneLonger (config : Config) (records : List ShownRecord) (left : ℕ) : Type 0 where
  pub is_front : left ≤ length records
  pub tells : (left ≡ 0) ⊎ TellsEstablished (take left records)
  pub none : (n : ℕ) → left < n → n ≤ length records → ¬ EndsEstablished config (take n records)

pub at_first : EachRunIsAsTold → (config : Config) (records : List ShownRecord) (left : ℕ) → IsLastTold records left → NoneLonger config records left
at_first law config records left is = record {
  is_front = is.is_front;
  tells = is.tells;
  none = λ n above within. not_told law config (take n records) (is.is_last n above within);
}

pub found : EachRunIsAsTold → (config : Config) (records : List ShownRecord) (left : ℕ) (ends : List End) → 0 < left → NoneLonger config records left
    → HasVerdict config (take left records) (Yes ends) → AreBefore config records ends
found law config records left ends some so_far v = elim so_far.tells [
  | inl none ↦ absurd (let k : ⊥ = omega (arith, some, none) in k)
  | inr tells ↦ inl (record {
    count = left;
    is_front = so_far.is_front;
    has_some = v.0;
    lists = v.1;
    are_established = all_so law config (take left records) tells ends v.1.each;
    is_longest = so_far.none;
  })
]

three : (left n : ℕ) → (left < n) ⊎ ((n ≡ left) ⊎ (n < left))
three left n = grind arith

pub shorter : EachRunIsAsTold → (config : Config) (records : List ShownRecord) (left next : ℕ) → 0 < left → NoneLonger config records left
    → ¬ EndsEstablished config (take left records) → IsLastTold (take (left - 1) records) next → NoneLonger config records next
shorter law config records left next some so_far none is =
    let within : left - 1 ≤ length records = let front = so_far.is_front in omega (arith, front) in
    let len = length-take-le (left - 1) records within in
    let below : next ≤ left - 1 = let front = is.is_front in omega (arith, front, len) in
    record {
      is_front = omega (arith, below, within);
      tells = elim is.tells [
        | inl zero_left ↦ inl zero_left
        | inr tells ↦ inr (subst TellsEstablished (take-take next (left - 1) records below) tells)
      ];
      none = λ n above all. elim (three left n) [
        | inl longer ↦ so_far.none n longer all
        | inr rest ↦ elim rest [
          | inl same ↦ subst (λ (k : ℕ). ¬ EndsEstablished config (take k records)) (sym same) none
          | inr less ↦
              let front : n ≤ left - 1 = omega (arith, less) in
              let inside : n ≤ length (take (left - 1) records) = omega (arith, front, len) in
              not_told law config (take n records) (subst (λ (rs : List ShownRecord). ¬ TellsEstablished rs) (take-take n (left - 1) records front) (is.is_last n above inside))
        ]
      ];
    }

pub is_less : (records : List ShownRecord) (left next : ℕ) → 0 < left → left ≤ length records → IsLastTold (take (left - 1) records) next → next < left
is_less records left next some front is =
    let within : left - 1 ≤ length records = omega (arith, front) in
    let len = length-take-le (left - 1) records within in
    let below = is.is_front in
    omega (arith, below, len, some)

idle_not : fsms.Idle ≡ fsms.Established → ⊥
idle_not is = cc

pub none_at_all : EachRunIsAsTold → (config : Config) (records : List ShownRecord) (left : ℕ) → left ≡ 0 → NoneLonger config records left → NoFrontEndsEstablished config records
none_at_all law config records left is so_far zero within = not_told law config [] idle_not
none_at_all law config records left is so_far (suc n) within = so_far.none (suc n) (omega (arith, is)) within

-- ---- a front that is known

first_ones : (records : List ShownRecord) (leaving : Option ShownRecord) (n : ℕ) → n ≤ length records → take n (with_leaving records leaving) ≡ take n records
first_ones records None n within = refl
first_ones records (Some shown) n within = take-append-le n records (shown ∷ []) within

no_fewer : (records : List ShownRecord) (leaving : Option ShownRecord) → length records ≤ length (with_leaving records leaving)
no_fewer records None = omega arith
no_fewer records (Some shown) = let len = length-append records (shown ∷ []) in omega (arith, len)

-- of more records it is the longest, and so it is of the first of them
pub of_first : (config : Config) (records : List ShownRecord) (leaving : Option ShownRecord) (front : FrontValue) (most : ℕ)
    → IsLongestFront config (with_leaving records leaving) front → front.count ≤ most → most ≤ length records → AreOfLongestFront config (take most records) front.ends
of_first config records leaving front most is within inside =
    let len = length-take-le most records inside in
    record {
      count = front.count;
      is_front = omega (arith, within, len);
      has_some = is.has_some;
      lists = subst (λ (rs : List ShownRecord). ListsEnds config rs front.ends)
          (first_ones records leaving front.count (omega (arith, within, inside)) ∙ sym (take-take front.count most records within)) is.lists;
      are_established = is.are_established;
      is_longest = λ n above few.
          let front_n : n ≤ most = omega (arith, few, len) in
          let more = no_fewer records leaving in
          subst (λ (rs : List ShownRecord). ¬ EndsEstablished config rs)
          (first_ones records leaving n (omega (arith, front_n, inside)) ∙ sym (take-take n most records front_n))
          (is.is_longest n above (omega (arith, front_n, inside, more)));
    }

-- there are ends before: then an end may be in a lower state
lower_if : (lower : Bool) (config : Config) (records : List ShownRecord) (before : List End) → AreBeforeIf lower config records before → before ≢ [] → IsTrue lower
lower_if true config records before are some = refl
lower_if false config records before are some = absurd (some are)

pub is_lower : (records : List ShownRecord) (answer : AnswerValue) (before : List End) → AreBeforeTo records answer before → before ≢ [] → IsLowerTo answer
is_lower records (Unjudged why) before are some = absurd (some are)
is_lower records (JudgedAs number peer under (Yes ends)) before are some = lower_if (has_lower ends) under records before are some
is_lower records (JudgedAs number peer under (No count)) before are some = absurd (some are)
is_lower records (JudgedAs number peer under Unfinished) before are some = absurd (some are)
