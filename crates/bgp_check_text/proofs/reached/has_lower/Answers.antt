use Rattle.std.proofs.Common.{◌≡◌, ◌∙◌, ◌==◌, false, not, ℕ, ap, subst, sym}
use Rattle.std.proofs.lemmas.Bool.{ne_eqb}
use Rattle.bgp_machine.specs.Run.{End}
use Rattle.bgp_machine.specs.State.{number_of}
use Rattle.bgp_judge.specs.Ends.{end_value}
use Rattle.bgp_check_text.proofs.SomeEnd.{any_here}
use Rattle.bgp_check_text.proofs.reached.has_lower.Goals as goal

pub returns-then-number-ne-ESTABLISHED : goal.returns-then-number-ne-ESTABLISHED
returns-then-number-ne-ESTABLISHED g c =
    let e = c.ending-item.result in
    let other : (number_of e.fsm == 6) ≡ false = ne_eqb (number_of e.fsm) 6 (subst (λ (n : ℕ). ¬ (n ≡ 6)) c.number.ensures c.if-number-ne-ESTABLISHED.true) in
    any_here (λ (x : End). not (number_of x.fsm == 6)) end_value c.args.endings.now c.loop-ending.ending-index e _ c.loop-ending-test.true
    (ap (λ x. not (number_of (end_value x).fsm == 6)) (sym c.ending-item.is) ∙ ap not other) c.loop-ending.invariant
