use Rattle.std.proofs.Common.{◌↔◌, ℕ, IsTrue, subst}
use Rattle.bgp_open.specs.Family.{Family}
use Rattle.bgp_open.specs.Families.{contains}
use Rattle.bgp_update.specs.Disabled.{IsCertain}
use Rattle.bgp_update.specs.Fields.{sections_of}
use Rattle.bgp_update.specs.Found.{Found, found}
use Rattle.bgp_update.specs.ResetFaults.{IsResetSubcode}
use Rattle.bgp_update.specs.Subcodes.{HasSubcode}
use Rattle.bgp_update.specs.WithdrawFaults.{HasWithdrawFault}
use Rattle.bgp_update.proofs.Exits.{has_reset, no_reset, some_reset, some_malformed, some_applied}
use Rattle.bgp_update.proofs.laws.some_outcome.Goals as goal

pub returns-in_default : goal.returns-in_default
returns-in_default c = record { some = some_malformed c.args.link.now c.args.octets.now c.in_default.ensures.none }

pub returns-then-not-is_empty : goal.returns-then-not-is_empty
returns-then-not-is_empty c =
    let s = sections_of c.in-Some.fields in
    let e = c.survey_of-found.ensures.found in
    let r = subst (λ (x : Found). (n : ℕ) → HasSubcode c.reset_subcodes.result n ↔ IsResetSubcode x n) e c.reset_subcodes.ensures in
    record { some = some_reset c.args.link.now c.args.octets.now s c.in-Some.ensures.some (has_reset (found c.args.link.now s) c.reset_subcodes.result r (rw c.if-not-is_empty.true at c.is_empty.ensures)) }

pub returns : goal.returns
returns c =
    let s = sections_of c.in-Some.fields in
    let e = c.survey_of-found.ensures.found in
    let r = subst (λ (x : Found). (n : ℕ) → HasSubcode c.reset_subcodes.result n ↔ IsResetSubcode x n) e c.reset_subcodes.ensures in
    let fault = subst (λ (x : Found). IsTrue c.has_withdraw_fault-is_faulty.result ↔ HasWithdrawFault x) e c.has_withdraw_fault-is_faulty.ensures in
    let certain = subst (λ (x : Found). (f : Family) → IsTrue (contains c.certain_families-disabled.result f) ↔ IsCertain x f) e c.certain_families-disabled.ensures in
    record {
      some = some_applied c.args.link.now c.args.octets.now s c.has_withdraw_fault-is_faulty.result c.certain_families-disabled.result c.in-Some.ensures.some
          (no_reset (found c.args.link.now s) c.reset_subcodes.result r (rw c.if-not-is_empty.false at c.is_empty.ensures)) fault certain;
    }
