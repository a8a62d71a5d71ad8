-- The verdict over configurations, from those under the widest ones.
use Rattle.std.proofs.Common.{◌≡◌, ◌≢◌, ◌≤◌, ◌+◌, ◌⊎◌, IsTrue, ℕ, zero, suc, List, [], ◌∷◌, ◌++◌, Option, None, Some, inl, inr, refl, sym, ap, subst, ◌∙◌, append_assoc, append-nil, add-one, max, take, drop, arith}
use Rattle.std.proofs.lemmas.Bool.{cases_lt}
use Rattle.std.proofs.lemmas.List.{take-append-drop, take-take}
use Rattle.bgp_prefix.specs.Shown.{ShownRecord, Received, Sent, Changed}
use Rattle.bgp_prefix.specs.declared.session.Session.{Session}
use Rattle.bgp_open.specs.Config.{is_internal}
use Rattle.bgp_open.specs.declared.config.Config.{Config}
use Rattle.bgp_machine.specs.Lists.{Each, Has}
use Rattle.bgp_machine.specs.Run.{Begins, End, IsComplete, Run}
use Rattle.bgp_machine.specs.State.{fresh_state}
use Rattle.bgp_judge.specs.Verdict.{HasVerdict, No, Unfinished, VerdictValue, Yes}
use Rattle.bgp_check.specs.Another.{CanBeTold, WantsAnother}
use Rattle.bgp_check.specs.Ends.{SameEnds, SameEndsWithout}
use Rattle.bgp_check.specs.Configurations.{IsOf}
use Rattle.bgp_parts.specs.Opens.{HasOwnOpen, HasPeersOpen, SendsNoOpen}
use Rattle.bgp_check.specs.Over.{HasVerdictOver, VerdictOfBoth, VerdictOfOne, VerdictOfYes, verdict_of_both}
use Rattle.bgp_check.specs.Stretch.{AtMostTheLastLeaves, IsStretch}
use Rattle.bgp_check.specs.Widest.{AreWidestWith, IsItsOwn, IsWidest, WidestBegins, WidestIsComplete}
use Rattle.bgp_check.specs.Without.{AreWidest, AreWidestWithout, FaultsIt, WithoutBegins, WithoutIsComplete}

-- ---- fronts of records

pub front_begins : (config : Config) (records : List ShownRecord) (n : ℕ) → Begins config records → Begins config (take n records)
front_begins config records n b = (
  drop n records ++ b.0,
  b.1,
  subst (λ (v : List ShownRecord). Run config fresh_state v b.1)
      (sym (sym (append_assoc (take n records) (drop n records) b.0) ∙ ap (λ (v : List ShownRecord). v ++ b.0) (take-append-drop n records))) b.2,
)

pub shorter_begins : (config : Config) (records : List ShownRecord) (m n : ℕ) → m ≤ n → Begins config (take n records) → Begins config (take m records)
shorter_begins config records m n le b =
    subst (λ (v : List ShownRecord). Begins config v) (take-take m n records le) (front_begins config (take n records) m b)

pub complete_begins : (config : Config) (records : List ShownRecord) (e : End) → IsComplete config records e → Begins config records
complete_begins config records e c =
    ([], c.0, subst (λ (v : List ShownRecord). Run config fresh_state v c.0) (sym (append-nil records)) c.1)

front_stays : (n : ℕ) (records : List ShownRecord) → AtMostTheLastLeaves records → AtMostTheLastLeaves (take n records)
front_stays zero records stay = tt
front_stays (suc n) [] stay = tt
front_stays (suc zero) (x ∷ []) stay = tt
front_stays (suc (suc n)) (x ∷ []) stay = tt
front_stays (suc zero) (x ∷ y ∷ records) stay = tt
front_stays (suc (suc n)) (x ∷ y ∷ records) stay = (stay.0, front_stays (suc n) (y ∷ records) stay.1)

front_stretch : (n : ℕ) (records : List ShownRecord) → IsStretch records → IsStretch (take (n + 1) records)
front_stretch n [] stretch = absurd stretch
front_stretch n (first ∷ records) stretch =
    subst (λ (v : ℕ). IsStretch (take v (first ∷ records))) (sym (add-one n)) (stretch.0, front_stays n records stretch.1)

front_each : {X : Type 0} (P : X → Type 0) (n : ℕ) (xs : List X) → Each P xs → Each P (take n xs)
front_each P zero xs each = tt
front_each P (suc n) [] each = tt
front_each P (suc n) (x ∷ xs) each = (each.0, front_each P n xs each.1)

-- the first OPEN of a front is that of all, or there is none
front_first : (peers : Option (List ℕ)) (n : ℕ) (records : List ShownRecord) → HasPeersOpen records peers
    → HasPeersOpen (take n records) peers ⊎ HasPeersOpen (take n records) None
front_first peers zero records first = inr refl
front_first peers (suc n) [] first = inr refl
front_first peers (suc n) (Received t octets ∷ records) first = elim first [
  | inl is ↦ inl (inl is)
  | inr later ↦ elim (front_first peers n records later.1) [ inl x ↦ inl (inr (later.0, x)) | inr y ↦ inr (inr (later.0, y)) ]
]
front_first peers (suc n) (Sent t octets ∷ records) first = front_first peers n records first
front_first peers (suc n) (Changed t old new ∷ records) first = front_first peers n records first

-- ---- lists

has_also : {X : Type 0} (P Q : X → Type 0) → ((x : X) → P x → Q x) → (xs : List X) → Has P xs → Has Q xs
has_also P Q f [] h = absurd h
has_also P Q f (x ∷ xs) h = elim h [ inl p ↦ inl (f x p) | inr k ↦ inr (has_also P Q f xs k) ]

each_also : {X : Type 0} (P Q : X → Type 0) → ((x : X) → P x → Q x) → (xs : List X) → Each P xs → Each Q xs
each_also P Q f [] each = tt
each_also P Q f (x ∷ xs) each = (f x each.0, each_also P Q f xs each.1)

pub first_end : (config : Config) (records : List ShownRecord) (ends : List End) → ends ≢ [] → Each (IsComplete config records) ends
    → (e : End) × IsComplete config records e
first_end config records [] some each = absurd (some refl)
first_end config records (e ∷ ends) some each = (e, each.0)

either_max : (m n : ℕ) → (max m n ≡ m) ⊎ (max m n ≡ n)
either_max m n = elim (cases_lt m n) [ inl below ↦ inr (omega arith) | inr above ↦ inl (omega arith) ]

-- ---- one verdict, or two

module _ (Is : Config → Type 0) (records : List ShownRecord) where
  pub of_one : (a : Config) → Is a
      → ((config : Config) (n : ℕ) → Is config → Begins config (take (n + 1) records) → Begins a (take (n + 1) records))
      → ((config : Config) (e : End) → Is config → IsComplete config records e → IsComplete a records e)
      → (one : VerdictValue) → HasVerdict a records one → HasVerdictOver Is records one
  of_one a is begins complete (Yes ends) v = (
    v.0,
    record {
      each = each_also (IsComplete a records) (λ (e : End). (config : Config) × Is config × IsComplete config records e) (λ e c. (a, is, c)) ends v.1.each;
      every = λ config e of c. v.1.every e (complete config e of c);
      none_twice = v.1.none_twice;
      in_order = v.1.in_order;
    },
  )
  of_one a is begins complete (No count) v = (v.0, (a, is, v.1), λ config of b. v.2 (begins config count of b))
  of_one a is begins complete Unfinished v = ((a, is, v.0), λ config e of c. v.1 e (complete config e of c))

  not_complete : (config : Config) (count : ℕ) (e : End) → ¬ Begins config (take (count + 1) records) → ¬ IsComplete config records e
  not_complete config count e never c = never (front_begins config records (count + 1) (complete_begins config records e c))

  yes_of : (a : Config) → Is a → (ends : List End) → HasVerdict a records (Yes ends)
      → ((config : Config) (e : End) → Is config → IsComplete config records e → IsComplete a records e) → HasVerdictOver Is records (Yes ends)
  yes_of a is ends v complete = (
    v.0,
    record {
      each = each_also (IsComplete a records) (λ (e : End). (config : Config) × Is config × IsComplete config records e) (λ e c. (a, is, c)) ends v.1.each;
      every = λ config e of c. v.1.every e (complete config e of c);
      none_twice = v.1.none_twice;
      in_order = v.1.in_order;
    },
  )

  pub yes_of_first : (a b : Config) → Is a
      → ((config : Config) (e : End) → Is config → IsComplete config records e → IsComplete a records e ⊎ IsComplete b records e)
      → ((e other : End) → IsComplete a records e → IsComplete b records other → IsComplete a records other)
      → (ends : List End) → HasVerdict a records (Yes ends) → HasVerdictOver Is records (Yes ends)
  yes_of_first a b is complete same ends v =
      let e = first_end a records ends v.0 v.1.each in
      yes_of a is ends v (λ config x of c. elim (complete config x of c) [ inl p ↦ p | inr q ↦ same e.0 x e.1 q ])

  pub of_both : (a b : Config) → Is a → Is b
      → ((config : Config) (n : ℕ) → Is config → Begins config (take (n + 1) records)
      → Begins a (take (n + 1) records) ⊎ Begins b (take (n + 1) records))
      → ((config : Config) (e : End) → Is config → IsComplete config records e → IsComplete a records e ⊎ IsComplete b records e)
      → ((e other : End) → IsComplete a records e → IsComplete b records other → IsComplete a records other)
      → (one other : VerdictValue) → HasVerdict a records one → HasVerdict b records other → HasVerdictOver Is records (verdict_of_both one other)
  of_both a b is is_b begins complete same (Yes ends) other v w = yes_of_first a b is complete same ends v
  of_both a b is is_b begins complete same (No count) (Yes ends) v w =
      yes_of b is_b ends w (λ config x of c. elim (complete config x of c) [ inl p ↦ absurd (not_complete a count x v.2 p) | inr q ↦ q ])
  of_both a b is is_b begins complete same Unfinished (Yes ends) v w =
      yes_of b is_b ends w (λ config x of c. elim (complete config x of c) [ inl p ↦ absurd (v.1 x p) | inr q ↦ q ])
  of_both a b is is_b begins complete same Unfinished (No count) v w =
      ((a, is, v.0), λ config x of c. elim (complete config x of c) [ inl p ↦ v.1 x p | inr q ↦ not_complete b count x w.2 q ])
  of_both a b is is_b begins complete same Unfinished Unfinished v w =
      ((a, is, v.0), λ config x of c. elim (complete config x of c) [ inl p ↦ v.1 x p | inr q ↦ w.1 x q ])
  of_both a b is is_b begins complete same (No count) Unfinished v w =
      ((b, is_b, w.0), λ config x of c. elim (complete config x of c) [ inl p ↦ not_complete a count x v.2 p | inr q ↦ w.1 x q ])
  of_both a b is is_b begins complete same (No m) (No n) v w =
      let mine = v.0 in
      let its = w.0 in (
        omega arith,
        elim (either_max m n) [
          | inl first ↦ (a, is, subst (λ (k : ℕ). Begins a (take k records)) (sym first) v.1)
          | inr second ↦ (b, is_b, subst (λ (k : ℕ). Begins b (take k records)) (sym second) w.1)
        ],
        λ config of x. elim (begins config (max m n) of x) [
          | inl p ↦ v.2 (shorter_begins a records (m + 1) (max m n + 1) (omega arith) p)
          | inr q ↦ w.2 (shorter_begins b records (n + 1) (max m n + 1) (omega arith) q)
        ],
      )

-- ---- fronts of a stretch

none_widest : (session : Session) (own : List ℕ) (peers : Option (List ℕ)) (widest : List Config) → AreWidestWith session own peers widest
    → AreWidestWith session own None widest
none_widest session own peers widest are = record {
  each = are.each;
  first = λ config of wants. absurd wants;
  another = has_also (λ (c : Config). WantsAnother c peers × (CanBeTold peers → IsTrue (is_internal c.parts) ⊎ IsItsOwn c peers))
      (λ (c : Config). WantsAnother c None × (CanBeTold None → IsTrue (is_internal c.parts) ⊎ IsItsOwn c None)) (λ b x. (tt, λ told. absurd told)) widest are.another;
}

own_begins : WidestBegins → (session : Session) (own : List ℕ) (peers : Option (List ℕ)) (widest : List Config) (records : List ShownRecord)
    → AreWidestWith session own peers widest → IsStretch records → HasPeersOpen records peers
    → (config : Config) (n : ℕ) → IsOf session (Some own) config → Begins config (take (n + 1) records) → Has (λ c. Begins c (take (n + 1) records)) widest
own_begins law session own peers widest records are stretch first config n of b =
    let short = front_stretch n records stretch in
    elim (front_first peers (n + 1) records first) [
      | inl same ↦ (law session own peers widest (take (n + 1) records) are short same).0 (config, of, b)
      | inr none ↦ (law session own None widest (take (n + 1) records) (none_widest session own peers widest are) short none).0 (config, of, b)
    ]

none_without : (session : Session) (peers : Option (List ℕ)) (widest : List Config) → AreWidestWithout session peers widest
    → AreWidestWithout session None widest
none_without session peers widest are = record {
  each = are.each;
  takes = λ config is takes. absurd takes;
  faults = has_also (λ (c : Config). FaultsIt c peers) (λ (c : Config). FaultsIt c None) (λ b x. tt) widest are.faults;
}

without_begins : WithoutBegins → (session : Session) (peers : Option (List ℕ)) (widest : List Config) (records : List ShownRecord)
    → AreWidestWithout session peers widest → IsStretch records → Each SendsNoOpen records → HasPeersOpen records peers
    → (config : Config) (n : ℕ) → IsOf session None config → Begins config (take (n + 1) records)
    → Has (λ c. Begins c (take (n + 1) records)) widest
without_begins law session peers widest records are stretch none first config n is b =
    let short = front_stretch n records stretch in
    let sends = front_each SendsNoOpen (n + 1) records none in
    elim (front_first peers (n + 1) records first) [
      | inl same ↦ (law session peers widest (take (n + 1) records) are short sends same).0 (config, is, b)
      | inr never ↦ (law session None widest (take (n + 1) records) (none_without session peers widest are) short sends never).0 (config, is, b)
    ]

-- where there is no own OPEN, none is sent
none_own : (own : Option (List ℕ)) (octets : List ℕ) → own ≡ None → ¬ (own ≡ Some octets)
none_own own octets is some = let k : ⊥ = cc in k

pub sends_none : (records : List ShownRecord) (own : Option (List ℕ)) → own ≡ None → HasOwnOpen records own → Each SendsNoOpen records
sends_none [] own is has = tt
sends_none (Sent t octets ∷ records) own is has = elim has [
  | inl this ↦ absurd (none_own own octets is this.1)
  | inr later ↦ (later.0, sends_none records own is later.1)
]
sends_none (Received t octets ∷ records) own is has = (tt, sends_none records own is has)
sends_none (Changed t old new ∷ records) own is has = (tt, sends_none records own is has)

-- ---- of an OPEN, and of an end that sends none

-- all that the widest configurations have to do with
record Laws : Type 0 where
  pub begins : WidestBegins
  pub complete : WidestIsComplete
  pub without_begins : WithoutBegins
  pub without_complete : WithoutIsComplete

each_widest : (session : Session) (own peers : Option (List ℕ)) (widest : List Config) → AreWidest session own peers widest
    → Each (λ c. IsOf session own c × IsWidest c) widest
each_widest session (Some own) peers widest are = are.each
each_widest session None peers widest are = are.each

front_begins_one : Laws → (session : Session) (own peers : Option (List ℕ)) (widest : List Config) (records : List ShownRecord)
    → AreWidest session own peers widest → IsStretch records → HasOwnOpen records own → HasPeersOpen records peers
    → (config : Config) (n : ℕ) → IsOf session own config → Begins config (take (n + 1) records) → Has (λ c. Begins c (take (n + 1) records)) widest
front_begins_one laws session (Some own) peers widest records are stretch has first =
    own_begins laws.begins session own peers widest records are stretch first
front_begins_one laws session None peers widest records are stretch has first =
    without_begins laws.without_begins session peers widest records are stretch (sends_none records None refl has) first

complete_one : Laws → (session : Session) (own peers : Option (List ℕ)) (widest : List Config) (records : List ShownRecord)
    → AreWidest session own peers widest → IsStretch records → HasOwnOpen records own → HasPeersOpen records peers
    → (config : Config) (e : End) → IsOf session own config → IsComplete config records e → Has (λ c. IsComplete c records e) widest
complete_one laws session (Some own) peers widest records are stretch has first config e is c =
    (laws.complete session own peers widest records e are stretch first).0 (config, is, c)
complete_one laws session None peers widest records are stretch has first config e is c =
    (laws.without_complete session peers widest records e are stretch (sends_none records None refl has) first).0 (config, is, c)

of_list : {X : Type 0} (P : X → Type 0) (a : X) → Has P (a ∷ []) → P a
of_list P a h = elim h [ inl p ↦ p | inr never ↦ absurd never ]

of_two : {X : Type 0} (P : X → Type 0) (a b : X) → Has P (a ∷ b ∷ []) → P a ⊎ P b
of_two P a b h = elim h [ inl p ↦ inl p | inr k ↦ elim k [ inl q ↦ inr q | inr never ↦ absurd never ] ]

-- where both can end, they end alike
same_of_both : SameEnds → SameEndsWithout → (session : Session) (own peers : Option (List ℕ)) (a b : Config) (records : List ShownRecord)
    → AreWidest session own peers (a ∷ b ∷ []) → IsStretch records → HasOwnOpen records own → HasPeersOpen records peers
    → (e other : End) → IsComplete a records e → IsComplete b records other → IsComplete a records other
same_of_both ends without session (Some own) peers a b records are stretch has first e z c d =
    let x = are.each.0 in
    let y = are.each.1.0 in
    elim (of_two (λ (c : Config). WantsAnother c peers × (CanBeTold peers → IsTrue (is_internal c.parts) ⊎ IsItsOwn c peers)) a b are.another) [
      | inl refuses ↦ (ends session own peers b a records z e z y.0 x.0 y.1 x.1 refuses.0 stretch first d c).0 d
      | inr refuses ↦ (ends session own peers a b records e z z x.0 y.0 x.1 y.1 refuses.0 stretch first c d).1 d
    ]
same_of_both ends without session None peers a b records are stretch has first e z c d =
    let x = are.each.0 in
    let y = are.each.1.0 in
    let none = sends_none records None refl has in
    elim (of_two (λ (c : Config). FaultsIt c peers) a b are.faults) [
      | inl refuses ↦ (without session peers b a records z e z y.0 x.0 y.1 x.1 refuses stretch none first d c).0 d
      | inr refuses ↦ (without session peers a b records e z z x.0 y.0 x.1 y.1 refuses stretch none first c d).1 d
    ]

pub one : WidestBegins → WidestIsComplete → WithoutBegins → WithoutIsComplete → VerdictOfOne
one begins complete without_b without_c session own peers a records v are stretch has first holds =
    let laws : Laws = record { begins = begins; complete = complete; without_begins = without_b; without_complete = without_c } in
    of_one (IsOf session own) records a (each_widest session own peers (a ∷ []) are).0.0
    (λ config n is b. of_list (λ (c : Config). Begins c (take (n + 1) records)) a (front_begins_one laws session own peers (a ∷ []) records are stretch has first config n is b))
    (λ config e is c. of_list (λ (x : Config). IsComplete x records e) a (complete_one laws session own peers (a ∷ []) records are stretch has first config e is c))
    v holds

-- the same with both exchanged
same_other_way : SameEnds → SameEndsWithout → (session : Session) (own peers : Option (List ℕ)) (a b : Config) (records : List ShownRecord)
    → AreWidest session own peers (a ∷ b ∷ []) → IsStretch records → HasOwnOpen records own → HasPeersOpen records peers
    → (e other : End) → IsComplete b records e → IsComplete a records other → IsComplete b records other
same_other_way ends without session (Some own) peers a b records are stretch has first e z d c =
    let x = are.each.0 in
    let y = are.each.1.0 in
    elim (of_two (λ (c : Config). WantsAnother c peers × (CanBeTold peers → IsTrue (is_internal c.parts) ⊎ IsItsOwn c peers)) a b are.another) [
      | inl refuses ↦ (ends session own peers b a records e z z y.0 x.0 y.1 x.1 refuses.0 stretch first d c).1 c
      | inr refuses ↦ (ends session own peers a b records z e z x.0 y.0 x.1 y.1 refuses.0 stretch first c d).0 c
    ]
same_other_way ends without session None peers a b records are stretch has first e z d c =
    let x = are.each.0 in
    let y = are.each.1.0 in
    let none = sends_none records None refl has in
    elim (of_two (λ (c : Config). FaultsIt c peers) a b are.faults) [
      | inl refuses ↦ (without session peers b a records e z z y.0 x.0 y.1 x.1 refuses stretch none first d c).1 c
      | inr refuses ↦ (without session peers a b records z e z x.0 y.0 x.1 y.1 refuses stretch none first c d).0 c
    ]

swap : {P Q : Type 0} → P ⊎ Q → Q ⊎ P
swap h = elim h [ inl p ↦ inr p | inr q ↦ inl q ]

pub yes : WidestBegins → WidestIsComplete → WithoutBegins → WithoutIsComplete → SameEnds → SameEndsWithout → VerdictOfYes
yes begins complete without_b without_c ends without session own peers a b records list are stretch has first holds =
    let laws : Laws = record { begins = begins; complete = complete; without_begins = without_b; without_complete = without_c } in
    let each = each_widest session own peers (a ∷ b ∷ []) are in
    let some = λ (config : Config) (e : End) (is : IsOf session own config) (c : IsComplete config records e).
    of_two (λ (x : Config). IsComplete x records e) a b (complete_one laws session own peers (a ∷ b ∷ []) records are stretch has first config e is c) in
    elim holds [
      | inl v ↦ yes_of_first (IsOf session own) records a b each.0.0 some
          (same_of_both ends without session own peers a b records are stretch has first) list v
      | inr w ↦ yes_of_first (IsOf session own) records b a each.1.0.0 (λ config e is c. swap (some config e is c))
          (same_other_way ends without session own peers a b records are stretch has first) list w
    ]

pub both : WidestBegins → WidestIsComplete → WithoutBegins → WithoutIsComplete → SameEnds → SameEndsWithout → VerdictOfBoth
both begins complete without_b without_c ends without session own peers a b records v w are stretch has first holds others =
    let laws : Laws = record { begins = begins; complete = complete; without_begins = without_b; without_complete = without_c } in
    let each = each_widest session own peers (a ∷ b ∷ []) are in
    of_both (IsOf session own) records a b each.0.0 each.1.0.0
    (λ config n is t. of_two (λ (c : Config). Begins c (take (n + 1) records)) a b (front_begins_one laws session own peers (a ∷ b ∷ []) records are stretch has first config n is t))
    (λ config e is c. of_two (λ (x : Config). IsComplete x records e) a b (complete_one laws session own peers (a ∷ b ∷ []) records are stretch has first config e is c))
    (same_of_both ends without session own peers a b records are stretch has first) v w holds others
