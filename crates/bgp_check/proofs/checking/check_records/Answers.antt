use Rattle.std.proofs.Common.{◌∙◌, IsTrue, true, inr, map, Option, subst, sym}
use Rattle.mrt.specs.Reader.{shown_of}
use Rattle.bgp_open.specs.declared.config.Config.{Config}
use Rattle.bgp_judge.specs.Verdict.{verdict_value}
use Rattle.bgp_judge.proofs.Lacking.{on_err}
use Rattle.bgp_check.specs.Checked.{IsToldBy, IsYes}
use Rattle.bgp_check.specs.Memory.{LacksMemoryOver, LacksMemoryUnder}
use Rattle.bgp_check.proofs.Told.{first_is_told}
use Rattle.bgp_check.proofs.checking.check_records.Goals as goal

pub returns-else-tells_other-clause-told : goal.returns-else-tells_other-clause-told
returns-else-tells_other-clause-told g c =
    let records = map shown_of c.args.records.now in
    let another = c.args.widest.now.another in
    let first = verdict_value c.in_ok-first.first.verdict in
    subst (λ (wanting : Option Config). IsToldBy wanting another records true first) (sym c.in-Some.is)
    (first_is_told c.in-Some.wanting another records first (verdict_value c.in_ok-second.second.verdict) c.in_ok-first.ensures.verdict c.in_ok-second.ensures.verdict
    (sym c.tells_other.ensures ∙ c.if-tells_other.false))

pub returns-in_err-second-clause-memory : goal.returns-in_err-second-clause-memory
returns-in_err-second-clause-memory g c =
    let lacks_at_start = g.T.Tracker.may_lack_at_start in
    let lacks = g.T.Tracker.may_lack in
    let widest = c.args.widest.now in
    let records = map shown_of c.args.records.now in
    let first = verdict_value c.in_ok-first.first.verdict in
    let no_yes : ¬ IsYes first = λ yes. let is_so : IsTrue c.is_yes.result = c.is_yes.ensures.1 yes in let is_not = c.if-is_yes.false in cc in
    on_err (LacksMemoryOver lacks_at_start lacks widest records) c.from_residual-in_err-second.result
    (subst (λ (wanting : Option Config). LacksMemoryUnder lacks_at_start lacks wanting widest.another records) (sym c.in-Some.is)
    (inr ((first, c.in_ok-first.ensures.verdict, no_yes), c.in_err-second.ensures.memory)))
