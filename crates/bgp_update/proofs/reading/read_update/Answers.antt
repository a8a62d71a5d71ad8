use Rattle.std.proofs.Common.{◌↔◌, ℕ, IsTrue, Some, refl, subst}
use Rattle.bgp_open.specs.Family.{Family}
use Rattle.bgp_open.specs.Families.{contains}
use Rattle.bgp_attr.specs.Split.{attributes_of}
use Rattle.bgp_update.specs.Allowed.{changes_value}
use Rattle.bgp_update.specs.Changes.{AreChanges, withdrawals, announcements}
use Rattle.bgp_update.specs.Disabled.{IsCertain, IsOptional}
use Rattle.bgp_update.specs.Fields.{sections_of}
use Rattle.bgp_update.specs.Found.{Found, found}
use Rattle.bgp_update.specs.ResetFaults.{IsResetSubcode, IsMereSubcode}
use Rattle.bgp_update.specs.Subcodes.{HasSubcode}
use Rattle.bgp_update.proofs.Exits.{only_reset, applied, not_only, has_reset, no_reset, both_sets}
use Rattle.bgp_update.proofs.reading.read_update.Goals as goal

pub returns-then-not-is_empty-clause-exact : goal.returns-then-not-is_empty-clause-exact
returns-then-not-is_empty-clause-exact g c =
    let s = sections_of c.in-Some.fields in
    let e = c.survey_of-found.ensures.found in
    let r = subst (λ (x : Found). (n : ℕ) → HasSubcode c.reset_subcodes-resets.result n ↔ IsResetSubcode x n) e c.reset_subcodes-resets.ensures in
    let m = subst (λ (x : Found). (n : ℕ) → HasSubcode c.mere_subcodes-mere.result n ↔ IsMereSubcode x n) e c.mere_subcodes-mere.ensures in
    only_reset c.args.link.now c.args.octets.now s c.in-Some.ensures.some c.only_reset-then-not-is_empty.result
    (has_reset (found c.args.link.now s) c.reset_subcodes-resets.result r (rw c.if-not-is_empty.true at c.is_empty.ensures))
    (c.only_reset-then-not-is_empty.ensures.changes, both_sets (found c.args.link.now s) c.reset_subcodes-resets.result c.mere_subcodes-mere.result c.union.result _ r m c.union.ensures c.only_reset-then-not-is_empty.ensures.reset)

pub returns-in_err-changes-clause-memory : goal.returns-in_err-changes-clause-memory
returns-in_err-changes-clause-memory g c only =
    let s = sections_of c.in-Some.fields in
    let e = c.survey_of-found.ensures.found in
    let r = subst (λ (x : Found). (n : ℕ) → HasSubcode c.reset_subcodes-resets.result n ↔ IsResetSubcode x n) e c.reset_subcodes-resets.ensures in
    absurd (not_only c.args.link.now c.args.octets.now s c.in-Some.ensures.some (no_reset (found c.args.link.now s) c.reset_subcodes-resets.result r (rw c.if-not-is_empty.false at c.is_empty.ensures)) only)

pub returns-clause-exact : goal.returns-clause-exact
returns-clause-exact g c =
    let s = sections_of c.in-Some.fields in
    let e = c.survey_of-found.ensures.found in
    let r = subst (λ (x : Found). (n : ℕ) → HasSubcode c.reset_subcodes-resets.result n ↔ IsResetSubcode x n) e c.reset_subcodes-resets.ensures in
    let m = subst (λ (x : Found). (n : ℕ) → HasSubcode c.mere_subcodes-mere.result n ↔ IsMereSubcode x n) e c.mere_subcodes-mere.ensures in
    let certain = subst (λ (x : Found). (f : Family) → IsTrue (contains c.certain_families.result f) ↔ IsCertain x f) e c.certain_families.ensures in
    let optional = subst (λ (x : Found). (f : Family) → IsTrue (contains c.optional_families.result f) ↔ (IsOptional x f × ¬ IsCertain x f)) e c.optional_families.ensures in
    let are = subst (λ (x : Found). AreChanges x (withdrawals c.args.link.now x) (announcements c.args.link.now x (attributes_of s.attributes)) (changes_value c.in_ok-changes.changes)) e (c.in_ok-changes.ensures.are (attributes_of s.attributes) c.survey_of-found.ensures.first) in
    applied c.args.link.now c.args.octets.now s c.in-Some.ensures.some
    (record { changes = Some c.in_ok-changes.changes; certain = c.certain_families.result; optional = c.optional_families.result; reset = c.mere_subcodes-mere.result })
    c.in_ok-changes.changes
    (no_reset (found c.args.link.now s) c.reset_subcodes-resets.result r (rw c.if-not-is_empty.false at c.is_empty.ensures))
    refl are certain optional m
