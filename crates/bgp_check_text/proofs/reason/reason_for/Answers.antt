use Rattle.std.proofs.Common.{◌<◌, ℕ, refl, subst}
use Rattle.std.proofs.lemmas.List.{length-map}
use Rattle.std.proofs.lemmas.Result.{IfOk-weaker}
use Rattle.bgp_judge.specs.Verdict.{No, Unfinished}
use Rattle.mrt.specs.Reader.{shown_of}
use Rattle.bgp_check_text.proofs.reason.reason_for.Goals as goal

pub own_faults_at-faults-requires-clause-within : goal.own_faults_at-faults-requires-clause-within
own_faults_at-faults-requires-clause-within g c =
    let is = rw c.in-No.is at c.requires.holds in
    subst (λ (n : ℕ). c.in-No.count < n) (length-map c.args.records.now shown_of) is.0

pub returns-in-No : goal.returns-in-No
returns-in-No g c = λ session widest.
    let is = rw c.in-No.is at c.requires.holds in
    rw c.in-No.is (IfOk-weaker c.explained.result _ _ (λ reason told. told (No c.in-No.count) widest is c.own_faults_at-faults.ensures) (c.explained.ensures session))

pub returns-in-Unfinished : goal.returns-in-Unfinished
returns-in-Unfinished g c = λ session widest.
    let is = rw c.in-Unfinished.is at c.requires.holds in
    rw c.in-Unfinished.is (IfOk-weaker c.explained-in-Unfinished.result _ _ (λ reason told. told Unfinished widest is refl) (c.explained-in-Unfinished.ensures session))
