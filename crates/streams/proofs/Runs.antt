-- One run more.
use Rattle.std.proofs.Common.{◌≡◌, ◌≤◌, ◌+◌, ◌-◌, ◌∙◌, ℕ, Some, None, Option, cond, nat_lt, List, [], ◌∷◌, ◌++◌, refl, sym, ap, arith, Bool, true, false, inl, inr}
use Rattle.std.specs.Option.{option_or}
use Rattle.std.proofs.lemmas.Bool.{cases_lt, lt-ltb, le-ltb}
use Rattle.std.proofs.lemmas.Bool.Decides.{nat_tests}
use Rattle.std.proofs.lemmas.List.Sums.{sum_by_push, sum_by-cons}
use Rattle.streams.specs.declared.connection.Run.{Run}
use Rattle.streams.specs.declared.gathered.Giver.{Giver}
use Rattle.streams.specs.Given.{total, giver_at, run_giver}

-- the giver, at places below the limit
abbrev pub below : ℕ → Giver → ℕ → Option Giver
below limit giver place = cond (nat_lt place limit) (Some giver) None

below_same : (a b : ℕ) (giver : Giver) (p q : ℕ) → nat_lt p a ≡ nat_lt q b → below a giver p ≡ below b giver q
below_same a b giver p q e = ap (λ (t : Bool). cond t (Some giver) None) e

pub total-push : (runs : List Run) (run : Run) → total (runs ++ run ∷ []) ≡ total runs + run.count
total-push runs run = sum_by_push (λ (r : Run). r.count) runs run

pub total-cons : (run : Run) (runs : List Run) → total (run ∷ runs) ≡ run.count + total runs
total-cons run runs = sum_by-cons (λ (r : Run). r.count) run runs

one : (giver : Option Giver) (more : Option Giver) (t : Bool) → t ≡ true → cond t giver more ≡ giver
one giver more t e = rw e

other : (giver : Option Giver) (more : Option Giver) (t : Bool) → t ≡ false → cond t giver more ≡ more
other giver more t e = rw e

shifted : (place n a b c : ℕ) → n ≤ place → c ≡ n + a → nat_lt (place - n) (a + b) ≡ nat_lt place (c + b)
shifted place n a b c ge e = grind (arith, nat_tests)

pub giver-push : (runs : List Run) (run : Run) (place : ℕ) → giver_at (runs ++ run ∷ []) place ≡ option_or (giver_at runs place) (below (total runs + run.count) (run_giver run) place)
giver-push [] run place = below_same run.count (0 + run.count) (run_giver run) place place (grind (arith, nat_tests))
giver-push (r ∷ rs) run place =
    elim (cases_lt place r.count) [
      | inl lt ↦
          let t : nat_lt place r.count ≡ true = lt-ltb place r.count lt in
          one (Some (run_giver r)) (giver_at (rs ++ run ∷ []) (place - r.count)) (nat_lt place r.count) t
          ∙ sym (ap (λ (o : Option Giver). option_or o (below (total (r ∷ rs) + run.count) (run_giver run) place)) (one (Some (run_giver r)) (giver_at rs (place - r.count)) (nat_lt place r.count) t))
      | inr ge ↦
          let f : nat_lt place r.count ≡ false = le-ltb place r.count ge in
          other (Some (run_giver r)) (giver_at (rs ++ run ∷ []) (place - r.count)) (nat_lt place r.count) f
          ∙ giver-push rs run (place - r.count)
          ∙ ap (λ (o : Option Giver). option_or (giver_at rs (place - r.count)) o) (below_same (total rs + run.count) (total (r ∷ rs) + run.count) (run_giver run) (place - r.count) place (shifted place r.count (total rs) run.count (total (r ∷ rs)) ge (total-cons r rs)))
          ∙ sym (ap (λ (o : Option Giver). option_or o (below (total (r ∷ rs) + run.count) (run_giver run) place)) (other (Some (run_giver r)) (giver_at rs (place - r.count)) (nat_lt place r.count) f))
    ]

pub giver_merged : (before : Option Giver) (giver : Giver) (place a b c : ℕ) → option_or before (below (a + (c + b)) giver place) ≡ option_or (option_or before (below (a + b) giver place)) (below (a + b + c) giver place)
giver_merged (Some x) giver place a b c = refl
giver_merged None giver place a b c =
    elim (cases_lt place (a + b)) [
      | inl lt ↦ grind (arith, nat_tests)
      | inr ge ↦ grind (arith, nat_tests)
    ]
