use Rattle.bgp_check.proofs.Told.{told}
use Rattle.bgp_check.proofs.laws.what_is_told_holds_over_all.Goals as goal

pub returns : goal.returns
returns c =
    told c.widest_configurations_make_the_verdict.ensures.one c.widest_configurations_make_the_verdict.ensures.yes
    c.widest_configurations_make_the_verdict.ensures.both
