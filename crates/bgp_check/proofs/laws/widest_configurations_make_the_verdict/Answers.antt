use Rattle.bgp_check.proofs.Over.{both, one, yes}
use Rattle.bgp_check.proofs.laws.widest_configurations_make_the_verdict.Goals as goal

pub returns-clause-one : goal.returns-clause-one
returns-clause-one c =
    one c.widest_configurations_are_enough.ensures.begins c.widest_configurations_are_enough.ensures.complete
    c.widest_configurations_without_open_are_enough.ensures.begins c.widest_configurations_without_open_are_enough.ensures.complete

pub returns-clause-both : goal.returns-clause-both
returns-clause-both c =
    both c.widest_configurations_are_enough.ensures.begins c.widest_configurations_are_enough.ensures.complete
    c.widest_configurations_without_open_are_enough.ensures.begins c.widest_configurations_without_open_are_enough.ensures.complete
    c.widest_configurations_have_the_same_ends.ensures.own c.widest_configurations_have_the_same_ends.ensures.without

pub returns-clause-yes : goal.returns-clause-yes
returns-clause-yes c =
    yes c.widest_configurations_are_enough.ensures.begins c.widest_configurations_are_enough.ensures.complete
    c.widest_configurations_without_open_are_enough.ensures.begins c.widest_configurations_without_open_are_enough.ensures.complete
    c.widest_configurations_have_the_same_ends.ensures.own c.widest_configurations_have_the_same_ends.ensures.without
