use Rattle.std.proofs.Common.{◌≡◌, ◌-◌, ℕ, arith, drop, map, subst, suc, sym}
use Rattle.std.specs.List.{AllByRecursion}
use Rattle.mrt.specs.Reader.{shown_of}
use Rattle.bgp_check_text.specs.Refused.{HearsNothing}
use Rattle.bgp_check_text.proofs.Refusals.{heard_at}
use Rattle.bgp_check_text.proofs.refused.last_heard.Goals as goal

pub returns-then-hears_message-clause-some : goal.returns-then-hears_message-clause-some
returns-then-hears_message-clause-some c =
    let records = c.args.records.now in
    let left = c.loop-left.left in
    let some = c.loop-left-test.true in
    let within = c.loop-left.invariant.within in
    let same : suc (left - 1) ≡ left = omega (arith, some) in
    heard_at records (left - 1) _ (omega (arith, some, within)) (c.hears_message.ensures.0 c.if-hears_message.true)
    (subst (λ (n : ℕ). AllByRecursion HearsNothing (map shown_of (drop n records))) (sym same) c.loop-left.invariant.none)
