use Rattle.std.proofs.Common.{◌⊎◌}
use Rattle.bgp_update.specs.Disabled.{IsCertain, IsOptional}
use Rattle.bgp_update.specs.Surveyed.{found_by}
use Rattle.bgp_update.proofs.CleanWords.{no_family}
use Rattle.bgp_update.proofs.survey.Survey.disables_nothing.Goals as goal

pub returns : goal.returns
returns c =
    no_family (λ f. IsCertain (found_by c.args.self.now) f ⊎ IsOptional (found_by c.args.self.now) f) c.may_disable.result c.may_disable-2.result c.may_disable.ensures c.may_disable-2.ensures
