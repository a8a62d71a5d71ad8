use Rattle.std.proofs.Common.{◌++◌, refl, ap, ◌∙◌}
use Rattle.bgp_attr.specs.First.{first_by_type}
use Rattle.bgp_update.specs.Allowed.{group_routes}
use Rattle.bgp_update.specs.Changes.{withdrawals, announcements}
use Rattle.bgp_update.specs.Surveyed.{found_by}
use Rattle.bgp_update.proofs.Routes.{withdrawn_changes, sound_changes, from_nothing, appended, never, base_by, mp_by}
use Rattle.bgp_update.proofs.changes.changes_of.Goals as goal

pub returns-then-has_withdraw_fault-clause-are : goal.returns-then-has_withdraw_fault-clause-are
returns-then-has_withdraw_fault-clause-are g c = λ attributes e.
    let x = found_by c.args.found.now in
    withdrawn_changes x (withdrawals c.args.link.now x) (announcements c.args.link.now x attributes) c.push_withdrawn.new.out.items c.push_announced.new.out.items _
    (c.has_withdraw_fault.ensures.0 c.if-has_withdraw_fault.true)
    (from_nothing _ _ _ _ c.in_ok-push_withdrawn.ensures c.new-remove.ensures.items refl)
    (c.in_ok-push_announced.ensures attributes)
    refl

pub returns-clause-are : goal.returns-clause-are
returns-clause-are g c = λ attributes e.
    let x = found_by c.args.found.now in
    let link = c.args.link.now in
    sound_changes x (withdrawals link x) (base_by link x (first_by_type attributes)) (mp_by link x (first_by_type attributes)) c.push_withdrawn.new.out.items (group_routes c.in_ok-nlri.nlri) (group_routes c.in_ok-nlri.nlri ++ group_routes c.in_ok-mp_reach_nlri.mp_reach_nlri)
    (λ fault. absurd (never (c.has_withdraw_fault.ensures.1 fault) c.if-has_withdraw_fault.false))
    (from_nothing _ _ _ _ c.in_ok-push_withdrawn.ensures c.new-remove.ensures.items refl)
    (c.in_ok-nlri.ensures.routes ∙ ap (base_by link x) e)
    (appended (group_routes c.in_ok-nlri.nlri) _ (group_routes c.in_ok-mp_reach_nlri.mp_reach_nlri) _ refl (c.in_ok-mp_reach_nlri.ensures.routes ∙ ap (mp_by link x) e))
