use Rattle.std.proofs.Common.{◌≡◌, ◌≤◌, ◌+◌, ◌∙◌, ℕ, Some, None, Option, List, ◌∷◌, [], ◌++◌, sym, ap, arith}
use Rattle.std.proofs.lemmas.List.{append-nil}
use Rattle.std.specs.Option.{option_or, option_to_list}
use Rattle.std.proofs.lemmas.List.Elements.{All-pop, All-push, All-same}
use Rattle.streams.specs.Given.{AreCounted, total, giver_at, run_giver}
use Rattle.streams.specs.declared.connection.Run.{Run}
use Rattle.streams.specs.declared.gathered.Giver.{Giver}
use Rattle.streams.proofs.Runs.{giver-push, giver_merged, total-push, below}
use Rattle.streams.proofs.Nothing.{nothing_more}
use Rattle.streams.proofs.stretch.add_run.Goals as goal
use Rattle.streams.proofs.stretch.add_run.Goals.{in-Some+then-is_of, in-Some+else-is_of+in_ok-push, in_default}

-- the run stands alone after the others
alone : (runs before : List Run) (run : Run) (place count : ℕ) (giver : Giver) → before ≡ runs → run.count ≡ count → run_giver run ≡ giver
    → giver_at (before ++ run ∷ []) place ≡ option_or (giver_at runs place) (below (total runs + count) giver place)
alone runs before run place count giver e n w = rw (e, ← n, ← w) (giver-push runs run place)

-- the run takes the last one in
merged : (runs front : List Run) (last run : Run) (place count : ℕ) (giver : Giver) → runs ≡ front ++ last ∷ [] → run_giver last ≡ giver → run_giver run ≡ giver → run.count ≡ count + last.count
    → giver_at (front ++ run ∷ []) place ≡ option_or (giver_at runs place) (below (total runs + count) giver place)
merged runs front last run place count giver e l w n =
    let a : giver_at (front ++ run ∷ []) place ≡ option_or (giver_at front place) (below (total front + (count + last.count)) giver place) = rw (← n, ← w) (giver-push front run place) in
    let b : giver_at (front ++ last ∷ []) place ≡ option_or (giver_at front place) (below (total front + last.count) giver place) = rw (← l) (giver-push front last place) in
    a ∙ giver_merged (giver_at front place) giver place (total front) last.count count
    ∙ ap (λ (o : Option Giver). option_or o (below (total front + last.count + count) giver place)) (sym b)
    ∙ ap (λ (t : ℕ). option_or (giver_at (front ++ last ∷ []) place) (below (t + count) giver place)) (sym (total-push front last))
    ∙ ap (λ (rs : List Run). option_or (giver_at rs place) (below (total rs + count) giver place)) (sym e)

pub returns-then-count-eq0-clause-givers : goal.returns-then-count-eq0-clause-givers
returns-then-count-eq0-clause-givers g c = λ place. nothing_more c.args.runs.now.items c.args.giver place c.args.count c.if-count-eq0.true

pub returns-clause-givers : goal.returns-clause-givers
returns-clause-givers g c = λ place.
    let added : c.push-2.new.self.items ≡ c.match-pop.runs.items ++ c.run_of.result ∷ [] = c.in_ok-push-2.ensures.items in
    let step : giver_at c.push-2.new.self.items place ≡ giver_at (c.match-pop.runs.items ++ c.run_of.result ∷ []) place = ap (λ (rs : List Run). giver_at rs place) added in
    let whose : run_giver c.run_of.result ≡ c.args.giver = ap run_giver c.run_of.ensures in
    let size : c.run_of.result.count ≡ c.match-pop.count = ap (λ (r : Run). r.count) c.run_of.ensures in
    step ∙ elim c.match-pop.branch [
      | in-Some+then-is_of w ↦
          let last : run_giver w.in-Some.last ≡ c.args.giver = w.is_of.ensures.0 w.if-is_of.true in
          ap (λ (rs : List Run). giver_at (rs ++ c.run_of.result ∷ []) place) (ap (λ v. v.items) w.runs-is)
          ∙ merged c.args.runs.now.items c.pop.new.self.items w.in-Some.last c.run_of.result place c.args.count c.args.giver w.in-Some.ensures.items last whose (size ∙ w.count-is)
      | in-Some+else-is_of+in_ok-push w ↦
          alone c.args.runs.now.items c.match-pop.runs.items c.run_of.result place c.args.count c.args.giver (ap (λ v. v.items) w.runs-is ∙ w.in_ok-push.ensures.items ∙ sym w.in-Some.ensures.items) (size ∙ w.count-is) whose
      | in_default w ↦
          alone c.args.runs.now.items c.match-pop.runs.items c.run_of.result place c.args.count c.args.giver (ap (λ v. v.items) w.runs-is ∙ sym (w.in_default.ensures.items ∙ append-nil _)) (size ∙ w.count-is) whose
    ]

-- what stays of the runs, and one that isn't empty
counted : (runs rest : List Run) (last : Option Run) (after : List Run) (run : Run) → runs ≡ rest ++ option_to_list last → after ≡ rest ++ run ∷ [] → 1 ≤ run.count → AreCounted runs → AreCounted after
counted runs rest last after run is now more h =
    All-same (λ (r : Run). 1 ≤ r.count) after (rest ++ run ∷ []) now (All-push (λ (r : Run). 1 ≤ r.count) rest run (All-pop (λ (r : Run). 1 ≤ r.count) runs rest last is h).0 more)

pub returns-clause-counted : goal.returns-clause-counted
returns-clause-counted g c = λ was.
    let added : c.push-2.new.self.items ≡ c.match-pop.runs.items ++ c.run_of.result ∷ [] = c.in_ok-push-2.ensures.items in
    let size : c.run_of.result.count ≡ c.match-pop.count = ap (λ (r : Run). r.count) c.run_of.ensures in
    elim c.match-pop.branch [
      | in-Some+then-is_of w ↦
          counted c.args.runs.now.items c.pop.new.self.items (Some w.in-Some.last) c.push-2.new.self.items c.run_of.result w.in-Some.ensures.items
          (added ∙ ap (λ v. v.items ++ c.run_of.result ∷ []) w.runs-is) (omega (arith, size, w.count-is)) was
      | in-Some+else-is_of+in_ok-push w ↦
          counted c.args.runs.now.items c.args.runs.now.items None c.push-2.new.self.items c.run_of.result (sym (append-nil _))
          (added ∙ ap (λ (rs : List Run). rs ++ c.run_of.result ∷ []) (ap (λ v. v.items) w.runs-is ∙ w.in_ok-push.ensures.items ∙ sym w.in-Some.ensures.items)) (omega (arith, size, w.count-is)) was
      | in_default w ↦
          counted c.args.runs.now.items c.pop.new.self.items None c.push-2.new.self.items c.run_of.result w.in_default.ensures.items
          (added ∙ ap (λ v. v.items ++ c.run_of.result ∷ []) w.runs-is) (omega (arith, size, w.count-is)) was
    ]
