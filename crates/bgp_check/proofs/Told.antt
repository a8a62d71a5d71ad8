-- What is told is the verdict over all configurations: those of the end, or where its OPEN has an own fault the widest ones.
use Rattle.std.proofs.Common.{◌≡◌, ◌<◌, ◌≤◌, ◌+◌, ◌⊎◌, Bool, true, false, IsTrue, ℕ, List, [], ◌∷◌, Option, None, Some, inl, inr, refl, sym, subst, take, max, nat_lt, arith}
use Rattle.std.proofs.lemmas.Bool.{cases_lt}
use Rattle.bgp_prefix.specs.Shown.{ShownRecord}
use Rattle.bgp_prefix.specs.declared.session.Session.{Session}
use Rattle.bgp_open.specs.Open.{open_of}
use Rattle.bgp_open.specs.declared.config.Config.{Config}
use Rattle.bgp_machine.specs.Lists.{Has}
use Rattle.bgp_machine.specs.Run.{Begins, End, IsComplete}
use Rattle.bgp_judge.specs.Verdict.{HasVerdict, No, Unfinished, VerdictValue, Yes}
use Rattle.bgp_check.specs.Answered.{FaultIsANo, IsAmong, IsNoByOpen}
use Rattle.bgp_check.specs.Checked.{IsTold, IsToldBy, IsToldUnder, ToldIsOverAll, tells_other}
use Rattle.bgp_check.specs.Configurations.{IsOf, own_faults}
use Rattle.bgp_parts.specs.Opens.{HasOwnOpen, HasPeersOpen}
use Rattle.bgp_check.specs.Over.{HasVerdictOver, VerdictOfBoth, VerdictOfOne, VerdictOfYes, verdict_of_both}
use Rattle.bgp_check.specs.OwnFaults.{SentOpenIsOwn}
use Rattle.bgp_check.specs.Stretch.{IsStretch}
use Rattle.bgp_check.specs.WidestMade.{both_of, configurations_of}
use Rattle.bgp_check.specs.Without.{AreWidest}
use Rattle.bgp_check.specs.declared.own_fault.OwnFault.{OwnFault}
use Rattle.bgp_check.specs.declared.widest.Widest.{Widest}
use Rattle.bgp_check.proofs.Over.{complete_begins, first_end, front_begins, of_both, of_one, shorter_begins}
use Rattle.bgp_check.proofs.OwnSettings.{none_if_own}

-- ---- what is told of both is what both make

max_first : (m n : ℕ) → nat_lt m n ≡ false → max m n ≡ m
max_first m n is = grind arith

max_other : (m n : ℕ) → nat_lt m n ≡ true → max m n ≡ n
max_other m n is = grind arith

no_by : (m n : ℕ) → m ≡ n → No m ≡ No n
no_by m n e = λ i. No (e i)

first_told : (one other : VerdictValue) → tells_other one other ≡ false → verdict_of_both one other ≡ one
first_told (Yes ends) other is = refl
first_told (No count) (Yes ends) is = absurd (let k : ⊥ = cc in k)
first_told Unfinished (Yes ends) is = absurd (let k : ⊥ = cc in k)
first_told Unfinished (No count) is = refl
first_told Unfinished Unfinished is = refl
first_told (No count) Unfinished is = absurd (let k : ⊥ = cc in k)
first_told (No m) (No n) is = no_by (max m n) m (max_first m n is)

other_told : (one other : VerdictValue) → tells_other one other ≡ true → verdict_of_both one other ≡ other
other_told (Yes ends) other is = absurd (let k : ⊥ = cc in k)
other_told (No count) (Yes ends) is = refl
other_told Unfinished (Yes ends) is = refl
other_told Unfinished (No count) is = absurd (let k : ⊥ = cc in k)
other_told Unfinished Unfinished is = absurd (let k : ⊥ = cc in k)
other_told (No count) Unfinished is = refl
other_told (No m) (No n) is = no_by (max m n) n (max_other m n is)

module _ (Is : Config → Type 0) (records : List ShownRecord) where
  under_first : (a b : Config)
      → ((one other : VerdictValue) → HasVerdict a records one → HasVerdict b records other → HasVerdictOver Is records (verdict_of_both one other))
      → (verdict other : VerdictValue) → HasVerdict a records verdict → HasVerdict b records other → tells_other verdict other ≡ false
      → HasVerdictOver Is records verdict
  under_first a b both verdict other v w is =
      subst (λ (x : VerdictValue). HasVerdictOver Is records x) (first_told verdict other is) (both verdict other v w)

  over_first : (a b : Config) → ((ends : List End) → HasVerdict a records (Yes ends) → HasVerdictOver Is records (Yes ends))
      → ((one other : VerdictValue) → HasVerdict a records one → HasVerdict b records other → HasVerdictOver Is records (verdict_of_both one other))
      → (verdict : VerdictValue) → IsToldUnder a b records verdict → HasVerdictOver Is records verdict
  over_first a b alone both (Yes ends) v = alone ends v
  over_first a b alone both (No count) v = under_first a b both (No count) v.1.0 v.0 v.1.1 v.1.2
  over_first a b alone both Unfinished v = under_first a b both Unfinished v.1.0 v.0 v.1.1 v.1.2

  over_other : (a b : Config)
      → ((one other : VerdictValue) → HasVerdict a records one → HasVerdict b records other → HasVerdictOver Is records (verdict_of_both one other))
      → (one verdict : VerdictValue) → HasVerdict a records one → HasVerdict b records verdict → tells_other one verdict ≡ true
      → HasVerdictOver Is records verdict
  over_other a b both one verdict v w is =
      subst (λ (x : VerdictValue). HasVerdictOver Is records x) (other_told one verdict is) (both one verdict v w)

-- ---- over the configurations of the end

module _ (of_one_widest : VerdictOfOne) (of_yes : VerdictOfYes) (of_both_widest : VerdictOfBoth) (session : Session) (own peers : Option (List ℕ))
    (records : List ShownRecord) (stretch : IsStretch records) (has : HasOwnOpen records own) (first : HasPeersOpen records peers) where
  told_by : (wanting : Option Config) (another : Config) (wants : Bool) (verdict : VerdictValue) → AreWidest session own peers (both_of wanting another)
      → IsToldBy wanting another records wants verdict → HasVerdictOver (IsOf session own) records verdict
  told_by (Some a) b true verdict are v =
      over_first (IsOf session own) records a b (λ ends x. of_yes session own peers a b records ends are stretch has first (inl x))
      (λ one other. of_both_widest session own peers a b records one other are stretch has first) verdict v
  told_by None b true verdict are v = absurd v
  told_by (Some a) b false verdict are v =
      over_other (IsOf session own) records a b (λ one other. of_both_widest session own peers a b records one other are stretch has first)
      v.1.0 verdict v.1.1 v.0 v.1.2
  told_by None b false verdict are v = of_one_widest session own peers b records verdict are stretch has first v

pub told : VerdictOfOne → VerdictOfYes → VerdictOfBoth → ToldIsOverAll
told of_one_widest of_yes of_both_widest session own peers widest records wants verdict are stretch has first v =
    told_by of_one_widest of_yes of_both_widest session own peers records stretch has first widest.wanting widest.another wants verdict are v

-- ---- over the widest ones, where the OPEN has an own fault

module _ (sent : SentOpenIsOwn) (own : List ℕ) (fault : OwnFault) (records : List ShownRecord) (is_fault : own_faults (open_of own) fault)
    (has : HasOwnOpen records (Some own)) where
  never_begins : (config : Config) → ¬ Begins config records
  never_begins config b = none_if_own config own (sent config records own b has) fault is_fault

  never_complete : (config : Config) (e : End) → ¬ IsComplete config records e
  never_complete config e c = never_begins config (complete_begins config records e c)

  never_yes : (config : Config) (ends : List End) → ¬ HasVerdict config records (Yes ends)
  never_yes config ends v = let e = first_end config records ends v.0 v.1.each in never_complete config e.0 e.1

  among_one : (b : Config) (verdict : VerdictValue) → HasVerdict b records verdict
      → HasVerdictOver (λ c. Has (λ (x : Config). x ≡ c) (b ∷ [])) records verdict
  among_one b verdict v =
      of_one (λ c. Has (λ (x : Config). x ≡ c) (b ∷ [])) records b (inl refl)
      (λ config n is x. elim is [
        | inl e ↦ subst (λ (c : Config). Begins c (take (n + 1) records)) (sym e) x
        | inr never ↦ absurd never
      ])
      (λ config e is c. absurd (never_complete config e c)) verdict v

  among_two : (a b : Config) (one other : VerdictValue) → HasVerdict a records one → HasVerdict b records other
      → HasVerdictOver (λ c. Has (λ (x : Config). x ≡ c) (a ∷ b ∷ [])) records (verdict_of_both one other)
  among_two a b one other v w =
      of_both (λ c. Has (λ (x : Config). x ≡ c) (a ∷ b ∷ [])) records a b (inl refl) (inr (inl refl))
      (λ config n is x. elim is [
        | inl e ↦ inl (subst (λ (c : Config). Begins c (take (n + 1) records)) (sym e) x)
        | inr k ↦ elim k [
          | inl e ↦ inr (subst (λ (c : Config). Begins c (take (n + 1) records)) (sym e) x)
          | inr never ↦ absurd never
        ]
      ])
      (λ config e is c. absurd (never_complete config e c))
      (λ e z c d. absurd (never_complete a e c)) one other v w

  among_by : (wanting : Option Config) (another : Config) (wants : Bool) (verdict : VerdictValue) → IsToldBy wanting another records wants verdict
      → HasVerdictOver (λ c. Has (λ (x : Config). x ≡ c) (both_of wanting another)) records verdict
  among_by (Some a) b true verdict v =
      over_first (λ c. Has (λ (x : Config). x ≡ c) (a ∷ b ∷ [])) records a b (λ ends x. absurd (never_yes a ends x)) (among_two a b) verdict v
  among_by None b true verdict v = absurd v
  among_by (Some a) b false verdict v =
      over_other (λ c. Has (λ (x : Config). x ≡ c) (a ∷ b ∷ [])) records a b (among_two a b) v.1.0 verdict v.1.1 v.0 v.1.2
  among_by None b false verdict v = among_one b verdict v

  -- a no, at the OPEN at the latest
  by_count : (config : Config) (count n : ℕ) → Begins config (take count records) → HasOwnOpen (take n records) (Some own) → count < n
  by_count config count n b front = elim (cases_lt count n) [
    | inl below ↦ below
    | inr above ↦ absurd (none_if_own config own (sent config (take n records) own (shorter_begins config records n count (omega arith) b) front) fault is_fault)
  ]

  no_by_open : (Is : Config → Type 0) (verdict : VerdictValue) → HasVerdictOver Is records verdict → IsNoByOpen (Some own) records verdict
  no_by_open Is (Yes []) v = v.0 refl
  no_by_open Is (Yes (e ∷ ends)) v = let x = v.1.each.0 in never_complete x.0 e x.2
  no_by_open Is (No count) v = λ n front. by_count v.1.0 count n v.1.2 front
  no_by_open Is Unfinished v = never_begins v.0.0 v.0.2

pub fault_is_a_no : SentOpenIsOwn → FaultIsANo
fault_is_a_no sent own fault widest records wants verdict is_fault has v =
    let over : HasVerdictOver (IsAmong widest) records verdict = among_by sent own fault records is_fault has widest.wanting widest.another wants verdict v in
    (over, no_by_open sent own fault records is_fault has (IsAmong widest) verdict over)

-- ---- the first is told where the other isn't

pub first_is_told : (a b : Config) (records : List ShownRecord) (verdict other : VerdictValue) → HasVerdict a records verdict → HasVerdict b records other
    → tells_other verdict other ≡ false → IsToldUnder a b records verdict
first_is_told a b records (Yes ends) other v w is = v
first_is_told a b records (No count) other v w is = (v, (other, w, is))
first_is_told a b records Unfinished other v w is = (v, (other, w, is))
