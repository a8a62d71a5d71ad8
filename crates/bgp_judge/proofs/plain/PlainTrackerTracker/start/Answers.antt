use Rattle.std.proofs.Common.{[], ◌∷◌, ◌++◌, refl, ap, ◌∙◌}
use Rattle.bgp_judge.proofs.PlainStanding.{fresh_list, one_apart}
use Rattle.bgp_judge.proofs.plain.PlainTrackerTracker.start.Goals as goal

pub returns-clause-start : goal.returns-clause-start
returns-clause-start g c = (
  refl,
  fresh_list c.args.config.now c.push.new.self.items c.fresh.result
      (c.in_ok-push.ensures.items ∙ ap (λ v. v ++ c.fresh.result ∷ []) c.new-members.ensures.items) c.fresh.ensures,
  one_apart c.push.new.self.items c.fresh.result
      (c.in_ok-push.ensures.items ∙ ap (λ v. v ++ c.fresh.result ∷ []) c.new-members.ensures.items),
)
