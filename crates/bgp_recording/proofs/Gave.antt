-- Who gave an octet, run by run.
use Rattle.std.proofs.Common.{◌≡◌, ◌∙◌, ◌<◌, ◌≤◌, ◌+◌, ◌-◌, ◌⊎◌, cond, ltb, ℕ, Bool, true, false, List, [], ◌∷◌, ◌++◌, drop, reverse, length, Option, None, Some, IfSome, IsSome, is_some, ap, subst, sym, refl, inl, inr, arith, append_assoc, append-nil}
use Rattle.std.proofs.lemmas.Bool.{cases_lt, lt-ltb, le-ltb}
use Rattle.std.proofs.lemmas.List.{drop_all, reverse-append}
use Rattle.std.proofs.lemmas.List.Sums.{sum_by-cons}
use Rattle.std.specs.List.{AllByRecursion}
use Rattle.streams.specs.declared.connection.Run.{Run}
use Rattle.bgp_recording.specs.declared.pending.Moment.{Moment}
use Rattle.bgp_recording.specs.First.{IsFirst}
use Rattle.bgp_recording.specs.Givers.{IsNotEmpty, giver, given_by, IsMade, IsLatest, AreLatest, IsEarliest, AreEarliest, later_of, earlier_of}
use Rattle.bgp_recording.specs.Moments.{moment_of}
use Rattle.bgp_recording.proofs.Lists.{first_is}

pub giver_here : (run : Run) (later : List Run) (place : ℕ) → place < run.count → giver (run ∷ later) place ≡ Some (moment_of run)
giver_here run later place h = ap (λ b. cond b (Some (moment_of run)) (giver later (place - run.count))) (lt-ltb place run.count h)

pub giver_there : (run : Run) (later : List Run) (place : ℕ) → run.count ≤ place → giver (run ∷ later) place ≡ giver later (place - run.count)
giver_there run later place h = ap (λ b. cond b (Some (moment_of run)) (giver later (place - run.count))) (le-ltb place run.count h)

-- the octet so many places after the run's last
giver_after : (run : Run) (later : List Run) (place : ℕ) → giver (run ∷ later) (place + run.count) ≡ giver later place
giver_after run later place =
    let same : place + run.count - run.count ≡ place = omega arith in
    giver_there run later (place + run.count) (omega arith) ∙ ap (λ p. giver later p) same

-- the same octets, by another packet
abbrev pub by_moment : Run → Moment → Run
by_moment run moment = record { count = run.count; packet = moment.packet; second = moment.second; micro = moment.micro }

-- what holds of a run's giver holds of that of its first places
held_here : (P : Moment → Type 0) (run : Run) (later : List Run) (place : ℕ) → place < run.count → P (moment_of run) → IfSome (giver (run ∷ later) place) P
held_here P run later place h p = subst (λ (o : Option Moment). IfSome o P) (sym (giver_here run later place h)) p

held_there : (P : Moment → Type 0) (run : Run) (later : List Run) (place : ℕ) → run.count ≤ place → IfSome (giver later (place - run.count)) P → IfSome (giver (run ∷ later) place) P
held_there P run later place h p = subst (λ (o : Option Moment). IfSome o P) (sym (giver_there run later place h)) p

if_weaker : (P Q : Moment → Type 0) (o : Option Moment) → ((m : Moment) → P m → Q m) → IfSome o P → IfSome o Q
if_weaker P Q None f h = tt
if_weaker P Q (Some m) f h = f m h

-- ---- the latest so far

-- each run with it
abbrev pub latest_from : Option Moment → List Run → List Run
latest_from best [] = []
latest_from best (run ∷ later) = by_moment run (later_of best run) ∷ latest_from (Some (later_of best run)) later

-- The moment is the best, or gave an octet up to a place; and no octet up to there was given by a
-- later one, nor is the best later.
record IsLatestFrom (best : Option Moment) (runs : List Run) (place : ℕ) (moment : Moment) : Type 0 where
  shows : ((at : ℕ) × (at ≤ place) × (giver runs at ≡ Some moment)) ⊎ (best ≡ Some moment)
  greatest : (other : ℕ) → other ≤ place → IfSome (giver runs other) (λ m. m.packet ≤ moment.packet)
  not_before : IfSome best (λ m. m.packet ≤ moment.packet)

abbrev IsLatestIn : Option Moment → List Run → ℕ → Option Moment → Type 0
IsLatestIn best runs place None = giver runs place ≡ None
IsLatestIn best runs place (Some moment) = IsLatestFrom best runs place moment

later_by : (best run : Moment) (b : Bool) → (cond b best run ≡ run) ⊎ (Some best ≡ Some (cond b best run))
later_by best run true = inr refl
later_by best run false = inl refl

later_is : (best : Option Moment) (run : Run) → (later_of best run ≡ moment_of run) ⊎ (best ≡ Some (later_of best run))
later_is None run = inl refl
later_is (Some best) run = later_by best (moment_of run) (ltb run.packet best.packet)

chosen : (a b : ℕ) (best run : Moment) → best.packet ≡ b → run.packet ≡ a → (a ≤ (cond (ltb a b) best run).packet) × (b ≤ (cond (ltb a b) best run).packet)
chosen a b best run p q =
    elim (cases_lt a b) [
      | inl l ↦ subst (λ (t : Bool). (a ≤ (cond t best run).packet) × (b ≤ (cond t best run).packet)) (sym (lt-ltb a b l)) (omega (arith, p, l), omega (arith, p))
      | inr g ↦ subst (λ (t : Bool). (a ≤ (cond t best run).packet) × (b ≤ (cond t best run).packet)) (sym (le-ltb a b g)) (omega (arith, q), omega (arith, q, g))
    ]

later_run : (best : Option Moment) (run : Run) → run.packet ≤ (later_of best run).packet
later_run None run = omega arith
later_run (Some best) run = (chosen run.packet best.packet best (moment_of run) refl refl).0

later_best : (best : Option Moment) (run : Run) → IfSome best (λ m. m.packet ≤ (later_of best run).packet)
later_best None run = tt
later_best (Some best) run = (chosen run.packet best.packet best (moment_of run) refl refl).1

latest_here : (best : Option Moment) (run : Run) (later : List Run) (place : ℕ) → place < run.count → IsLatestFrom best (run ∷ later) place (later_of best run)
latest_here best run later place h = record {
  shows = elim (later_is best run) [
    | inl e ↦ inl (place, omega arith, giver_here run later place h ∙ ap (λ (m : Moment). Some m) (sym e))
    | inr e ↦ inr e
  ];
  greatest = λ other le. held_here (λ m. m.packet ≤ (later_of best run).packet) run later other (omega (arith, h, le)) (later_run best run);
  not_before = later_best best run;
}

latest_shows : (best : Option Moment) (run : Run) (later : List Run) (place : ℕ) (moment : Moment) → 1 ≤ run.count → run.count ≤ place
    → ((at : ℕ) × (at ≤ place - run.count) × (giver later at ≡ Some moment)) ⊎ (Some (later_of best run) ≡ Some moment)
    → ((at : ℕ) × (at ≤ place) × (giver (run ∷ later) at ≡ Some moment)) ⊎ (best ≡ Some moment)
latest_shows best run later place moment some le h =
    elim h [
      | inl g ↦ inl (g.0 + run.count, omega (arith, g.1, le), giver_after run later g.0 ∙ g.2)
      | inr e ↦ elim (later_is best run) [
        | inl is ↦ inl (0, omega arith, giver_here run later 0 (omega (arith, some)) ∙ ap (λ (m : Moment). Some m) (sym is) ∙ e)
        | inr is ↦ inr (is ∙ e)
      ]
    ]

latest_lift : (best : Option Moment) (run : Run) (later : List Run) (place : ℕ) (o : Option Moment) → 1 ≤ run.count → run.count ≤ place
    → IsLatestIn (Some (later_of best run)) later (place - run.count) o → IsLatestIn best (run ∷ later) place o
latest_lift best run later place None some le h = giver_there run later place le ∙ h
latest_lift best run later place (Some moment) some le h = record {
  shows = latest_shows best run later place moment some le h.shows;
  greatest = λ other below. elim (cases_lt other run.count) [
    | inl here ↦ held_here (λ m. m.packet ≤ moment.packet) run later other here (omega (arith, later_run best run, h.not_before))
    | inr there ↦ held_there (λ m. m.packet ≤ moment.packet) run later other there (h.greatest (other - run.count) (omega (arith, below)))
  ];
  not_before = if_weaker _ _ best (λ m k. omega (arith, k, h.not_before)) (later_best best run);
}

latest_in : (best : Option Moment) (runs : List Run) (place : ℕ) → AllByRecursion IsNotEmpty runs → IsLatestIn best runs place (giver (latest_from best runs) place)
latest_in best [] place some = refl
latest_in best (run ∷ later) place some =
    elim (cases_lt place run.count) [
      | inl here ↦ subst (λ (o : Option Moment). IsLatestIn best (run ∷ later) place o)
          (sym (giver_here (by_moment run (later_of best run)) (latest_from (Some (later_of best run)) later) place here)) (latest_here best run later place here)
      | inr there ↦ subst (λ (o : Option Moment). IsLatestIn best (run ∷ later) place o)
          (sym (giver_there (by_moment run (later_of best run)) (latest_from (Some (later_of best run)) later) place there))
          (latest_lift best run later place _ some.0 there (latest_in (Some (later_of best run)) later (place - run.count) some.1))
    ]

by_none : (runs : List Run) (place : ℕ) (moment : Moment) → ((at : ℕ) × (at ≤ place) × (giver runs at ≡ Some moment)) ⊎ (None ≡ Some moment) → (at : ℕ) × (at ≤ place) × (giver runs at ≡ Some moment)
by_none runs place moment h = elim h [ inl g ↦ g | inr e ↦ cc ]

came_by : (runs : List Run) (place : ℕ) (o : Option Moment) → IsLatestIn None runs place o → IsLatest runs place o
came_by runs place None h = h
came_by runs place (Some moment) h =
    let g = by_none runs place moment h.shows in
    record { place = g.0; below = omega (arith, g.1); gave = g.2; greatest = λ other le. h.greatest other (omega (arith, le)) }

pub are_latest : (runs : List Run) → AllByRecursion IsNotEmpty runs → AreLatest runs (latest_from None runs)
are_latest runs some = λ place. came_by runs place _ (latest_in None runs place some)

-- ---- the earliest from here on

-- of the end and the runs
abbrev pub least_in : Option Moment → List Run → Option Moment
least_in end [] = end
least_in end (run ∷ later) = Some (earlier_of (least_in end later) run)

-- each run with it
abbrev pub earliest_onto : Option Moment → List Run → List Run
earliest_onto end [] = []
earliest_onto end (run ∷ later) = by_moment run (earlier_of (least_in end later) run) ∷ earliest_onto end later

least_push : (end : Option Moment) (before : List Run) (run : Run) → least_in end (before ++ run ∷ []) ≡ least_in (Some (earlier_of end run)) before
least_push end [] run = refl
least_push end (x ∷ xs) run = ap (λ (o : Option Moment). Some (earlier_of o x)) (least_push end xs run)

earliest_push : (end : Option Moment) (before : List Run) (run : Run)
    → earliest_onto end (before ++ run ∷ []) ≡ earliest_onto (Some (earlier_of end run)) before ++ by_moment run (earlier_of end run) ∷ []
earliest_push end [] run = refl
earliest_push end (x ∷ xs) run =
    ap (λ (o : Option Moment). by_moment x (earlier_of o x) ∷ earliest_onto end (xs ++ run ∷ [])) (least_push end xs run)
    ∙ ap (λ (rs : List Run). by_moment x (earlier_of (least_in (Some (earlier_of end run)) xs) x) ∷ rs) (earliest_push end xs run)

earlier_is : (best : Option Moment) (run : Run) → (earlier_of best run ≡ moment_of run) ⊎ (best ≡ Some (earlier_of best run))
earlier_is None run = inl refl
earlier_is (Some best) run = later_by best (moment_of run) (ltb best.packet run.packet)

chosen_first : (a b : ℕ) (best run : Moment) → best.packet ≡ b → run.packet ≡ a → ((cond (ltb b a) best run).packet ≤ a) × ((cond (ltb b a) best run).packet ≤ b)
chosen_first a b best run p q =
    elim (cases_lt b a) [
      | inl l ↦ subst (λ (t : Bool). ((cond t best run).packet ≤ a) × ((cond t best run).packet ≤ b)) (sym (lt-ltb b a l)) (omega (arith, p, l), omega (arith, p))
      | inr g ↦ subst (λ (t : Bool). ((cond t best run).packet ≤ a) × ((cond t best run).packet ≤ b)) (sym (le-ltb b a g)) (omega (arith, q), omega (arith, q, g))
    ]

earlier_run : (best : Option Moment) (run : Run) → (earlier_of best run).packet ≤ run.packet
earlier_run None run = omega arith
earlier_run (Some best) run = (chosen_first run.packet best.packet best (moment_of run) refl refl).0

earlier_best : (best : Option Moment) (run : Run) → IfSome best (λ m. (earlier_of best run).packet ≤ m.packet)
earlier_best None run = tt
earlier_best (Some best) run = (chosen_first run.packet best.packet best (moment_of run) refl refl).1

-- the least of the end and of all givers
abbrev IsLeast : Option Moment → List Run → Option Moment → Type 0
IsLeast end runs None = (end ≡ None) × ((place : ℕ) → giver runs place ≡ None)
IsLeast end runs (Some moment) = IsMade runs end 0 moment

head_shows : (end : Option Moment) (run : Run) (later : List Run) (best : Option Moment) (place : ℕ) (moment : Moment) → IsLeast end later best → place < run.count
    → (moment ≡ moment_of run) ⊎ (best ≡ Some moment) → ((at : ℕ) × (place ≤ at) × (giver (run ∷ later) at ≡ Some moment)) ⊎ (end ≡ Some moment)
head_shows end run later None place moment least h (inl e) = inl (place, omega arith, giver_here run later place h ∙ ap (λ (m : Moment). Some m) (sym e))
head_shows end run later None place moment least h (inr e) = cc
head_shows end run later (Some best) place moment least h (inl e) = inl (place, omega arith, giver_here run later place h ∙ ap (λ (m : Moment). Some m) (sym e))
head_shows end run later (Some best) place moment least h (inr e) =
    elim least.shows [
      | inl g ↦ inl (g.0 + run.count, omega (arith, h), giver_after run later g.0 ∙ g.2 ∙ e)
      | inr is ↦ inr (is ∙ e)
    ]

best_least : (end : Option Moment) (later : List Run) (best : Option Moment) (packet : ℕ) → IsLeast end later best → IfSome best (λ m. packet ≤ m.packet)
    → (((other : ℕ) → IfSome (giver later other) (λ m. packet ≤ m.packet)) × IfSome end (λ m. packet ≤ m.packet))
best_least end later None packet least h = (
  λ other. subst (λ (o : Option Moment). IfSome o (λ m. packet ≤ m.packet)) (sym (least.1 other)) tt,
  subst (λ (o : Option Moment). IfSome o (λ m. packet ≤ m.packet)) (sym least.0) tt,
)
best_least end later (Some best) packet least h = (
  λ other. if_weaker _ _ (giver later other) (λ m k. omega (arith, k, h)) (least.least other (omega arith)),
  if_weaker _ _ end (λ m k. omega (arith, k, h)) least.not_after,
)

made_head : (end : Option Moment) (run : Run) (later : List Run) (best : Option Moment) (place : ℕ) → IsLeast end later best → place < run.count
    → IsMade (run ∷ later) end place (earlier_of best run)
made_head end run later best place least h =
    let rest = best_least end later best (earlier_of best run).packet least (earlier_best best run) in
    record {
      shows = head_shows end run later best place (earlier_of best run) least h (earlier_is best run);
      least = λ other le. elim (cases_lt other run.count) [
        | inl here ↦ held_here (λ m. (earlier_of best run).packet ≤ m.packet) run later other here (earlier_run best run)
        | inr there ↦ held_there (λ m. (earlier_of best run).packet ≤ m.packet) run later other there (rest.0 (other - run.count))
      ];
      not_after = rest.1;
    }

least_end : (end o : Option Moment) → end ≡ o → IsLeast end [] o
least_end end None e = (e, λ place. refl)
least_end end (Some moment) e = record {
  shows = inr e;
  least = λ other le. tt;
  not_after = subst (λ (o : Option Moment). IfSome o (λ m. moment.packet ≤ m.packet)) (sym e) (omega arith);
}

least_is : (end : Option Moment) (runs : List Run) → AllByRecursion IsNotEmpty runs → IsLeast end runs (least_in end runs)
least_is end [] some = least_end end end refl
least_is end (run ∷ later) some = made_head end run later (least_in end later) 0 (least_is end later some.1) (omega (arith, some.0))

earliest_lift : (end : Option Moment) (run : Run) (later : List Run) (place : ℕ) (o : Option Moment) → run.count ≤ place → IsEarliest later end (place - run.count) o
    → IsEarliest (run ∷ later) end place o
earliest_lift end run later place None le h = giver_there run later place le ∙ h
earliest_lift end run later place (Some moment) le h = record {
  shows = elim h.shows [ inl g ↦ inl (g.0 + run.count, omega (arith, g.1, le), giver_after run later g.0 ∙ g.2) | inr e ↦ inr e ];
  least = λ other from. held_there (λ m. moment.packet ≤ m.packet) run later other (omega (arith, from, le)) (h.least (other - run.count) (omega (arith, from)));
  not_after = h.not_after;
}

earliest_in : (end : Option Moment) (runs : List Run) (place : ℕ) → AllByRecursion IsNotEmpty runs → IsEarliest runs end place (giver (earliest_onto end runs) place)
earliest_in end [] place some = refl
earliest_in end (run ∷ later) place some =
    let moment = earlier_of (least_in end later) run in
    elim (cases_lt place run.count) [
      | inl here ↦ subst (λ (o : Option Moment). IsEarliest (run ∷ later) end place o)
          (sym (giver_here (by_moment run (earlier_of (least_in end later) run)) (earliest_onto end later) place here))
          (made_head end run later (least_in end later) place (least_is end later some.1) here)
      | inr there ↦ subst (λ (o : Option Moment). IsEarliest (run ∷ later) end place o)
          (sym (giver_there (by_moment run (earlier_of (least_in end later) run)) (earliest_onto end later) place there))
          (earliest_lift end run later place _ there (earliest_in end later (place - run.count) some.1))
    ]

pub are_earliest : (end : Option Moment) (runs : List Run) → AllByRecursion IsNotEmpty runs → AreEarliest runs end (earliest_onto end runs)
are_earliest end runs some = λ place. earliest_in end runs place some

given_cons : (run : Run) (later : List Run) → given_by (run ∷ later) ≡ run.count + given_by later
given_cons run later = sum_by-cons (λ (r : Run). r.count) run later

-- ---- where there is an octet, it was given

pub is_given : (runs : List Run) (place : ℕ) → place < given_by runs → (moment : Moment) × (giver runs place ≡ Some moment)
is_given [] place h = absurd (omega (arith, h))
is_given (run ∷ later) place h =
    elim (cases_lt place run.count) [
      | inl here ↦ (moment_of run, giver_here run later place here)
      | inr there ↦ let g = is_given later (place - run.count) (omega (arith, h, there, given_cons run later)) in (g.0, giver_there run later place there ∙ g.1)
    ]

given_latest : (best : Option Moment) (runs : List Run) → given_by (latest_from best runs) ≡ given_by runs
given_latest best [] = refl
given_latest best (run ∷ later) =
    given_cons (by_moment run (later_of best run)) (latest_from (Some (later_of best run)) later) ∙ ap (λ n. run.count + n) (given_latest (Some (later_of best run)) later)
    ∙ sym (given_cons run later)

given_earliest : (end : Option Moment) (runs : List Run) → given_by (earliest_onto end runs) ≡ given_by runs
given_earliest end [] = refl
given_earliest end (run ∷ later) =
    given_cons (by_moment run (earlier_of (least_in end later) run)) (earliest_onto end later) ∙ ap (λ n. run.count + n) (given_earliest end later) ∙ sym (given_cons run later)

-- ---- at the ends of the loops

latest_all : (runs out : List Run) (best : Option Moment) (k : ℕ) → length runs ≤ k → out ++ latest_from best (drop k runs) ≡ latest_from None runs → out ≡ latest_from None runs
latest_all runs out best k le h = sym (append-nil out) ∙ ap (λ (rs : List Run). out ++ latest_from best rs) (sym (drop_all k runs le)) ∙ h

pub latest_done : (runs out : List Run) (best : Option Moment) (k : ℕ) → length runs ≤ k → out ++ latest_from best (drop k runs) ≡ latest_from None runs → AllByRecursion IsNotEmpty runs
    → AreLatest runs out
latest_done runs out best k le h some = subst (λ (rs : List Run). AreLatest runs rs) (sym (latest_all runs out best k le h)) (are_latest runs some)

pub latest_count : (runs out : List Run) (best : Option Moment) (k : ℕ) → length runs ≤ k → out ++ latest_from best (drop k runs) ≡ latest_from None runs → given_by out ≡ given_by runs
latest_count runs out best k le h = ap (λ (rs : List Run). given_by rs) (latest_all runs out best k le h) ∙ given_latest None runs

earliest_step : (end best : Option Moment) (runs left before out : List Run) (run : Run) → left ≡ before ++ run ∷ [] → earliest_onto best left ++ reverse out ≡ earliest_onto end runs
    → earliest_onto (Some (earlier_of best run)) before ++ reverse (out ++ by_moment run (earlier_of best run) ∷ []) ≡ earliest_onto end runs
earliest_step end best runs left before out run e h =
    let r = by_moment run (earlier_of best run) in
    ap (λ (rs : List Run). earliest_onto (Some (earlier_of best run)) before ++ rs) (reverse-append out (r ∷ []))
    ∙ sym (append_assoc (earliest_onto (Some (earlier_of best run)) before) (r ∷ []) (reverse out))
    ∙ ap (λ (rs : List Run). rs ++ reverse out) (sym (earliest_push best before run))
    ∙ ap (λ (rs : List Run). earliest_onto best rs ++ reverse out) (sym e)
    ∙ h

pub earliest_done : (end best : Option Moment) (runs left out all : List Run) → length left ≡ 0 → earliest_onto best left ++ reverse out ≡ earliest_onto end runs → all ≡ reverse out
    → AllByRecursion IsNotEmpty runs → AreEarliest runs end all
earliest_done end best runs [] out all none h e some = subst (λ (rs : List Run). AreEarliest runs end rs) (sym (e ∙ h)) (are_earliest end runs some)
earliest_done end best runs (x ∷ xs) out all none h e some = absurd (omega (arith, none))

pub earliest_count : (end best : Option Moment) (runs left out all : List Run) → length left ≡ 0 → earliest_onto best left ++ reverse out ≡ earliest_onto end runs → all ≡ reverse out
    → given_by all ≡ given_by runs
earliest_count end best runs [] out all none h e = ap (λ (rs : List Run). given_by rs) (e ∙ h) ∙ given_earliest end runs
earliest_count end best runs (x ∷ xs) out all none h e = absurd (omega (arith, none))

pub earliest_on : (end best : Option Moment) (runs left before out pushed : List Run) (run : Run) (moment : Moment) → left ≡ before ++ run ∷ [] → moment ≡ earlier_of best run
    → pushed ≡ out ++ by_moment run moment ∷ [] → earliest_onto best left ++ reverse out ≡ earliest_onto end runs → earliest_onto (Some moment) before ++ reverse pushed ≡ earliest_onto end runs
earliest_on end best runs left before out pushed run moment e is put h =
    subst (λ (ps : List Run). earliest_onto (Some moment) before ++ reverse ps ≡ earliest_onto end runs) (sym put)
    (subst (λ (m : Moment). earliest_onto (Some m) before ++ reverse (out ++ by_moment run m ∷ []) ≡ earliest_onto end runs) (sym is)
    (earliest_step end best runs left before out run e h))

-- ---- a place that goes on

abbrev pub StandsAt : List Run → ℕ → ℕ → Type 0
StandsAt runs index base = (place : ℕ) → base ≤ place → giver (drop index runs) (place - base) ≡ giver runs place

stands_next : (runs : List Run) (index base : ℕ) (run : Run) → drop index runs ≡ run ∷ drop (index + 1) runs → StandsAt runs index base → StandsAt runs (index + 1) (base + run.count)
stands_next runs index base run e h = λ place le.
    let same : place - base - run.count ≡ place - (base + run.count) = omega (arith, le) in
    ap (λ p. giver (drop (index + 1) runs) p) (sym same)
    ∙ sym (giver_there run (drop (index + 1) runs) (place - base) (omega (arith, le)))
    ∙ ap (λ (rs : List Run). giver rs (place - base)) (sym e)
    ∙ h place (omega (arith, le))

pub stands_on : (mine runs : List Run) (index base : ℕ) (run : Run) → mine ≡ runs → IsFirst (drop index mine) run → StandsAt runs index base → StandsAt runs (index + 1) (base + run.count)
stands_on mine runs index base run same first h =
    stands_next runs index base run (first_is runs index run (subst (λ (rs : List Run). IsFirst (drop index rs) run) same first)) h

pub gives_here : (runs : List Run) (index base place : ℕ) (run : Run) → drop index runs ≡ run ∷ drop (index + 1) runs → StandsAt runs index base → base ≤ place → place - base < run.count
    → Some (moment_of run) ≡ giver runs place
gives_here runs index base place run e h le here =
    sym (giver_here run (drop (index + 1) runs) (place - base) here) ∙ ap (λ (rs : List Run). giver rs (place - base)) (sym e) ∙ h place le

pub gives_none : (runs : List Run) (index base place : ℕ) → drop index runs ≡ [] → StandsAt runs index base → base ≤ place → None ≡ giver runs place
gives_none runs index base place none h le = ap (λ (rs : List Run). giver rs (place - base)) (sym none) ∙ h place le

some_same : (o q : Option Moment) (m : Moment) → o ≡ q → q ≡ Some m → IsSome o
some_same o q m e is = ap (λ (x : Option Moment). is_some x) (e ∙ is)

pub some_given : (runs : List Run) (place : ℕ) (o : Option Moment) → o ≡ giver runs place → place < given_by runs → IsSome o
some_given runs place o e h = let g = is_given runs place h in some_same o (giver runs place) g.0 e g.1
