use Rattle.bgp_check_tool.proofs.NoOrder.{unexplained_by_all}
use Rattle.bgp_check_tool.proofs.Verdicts.{no_order}
use Rattle.bgp_check_tool.proofs.laws.no_order_has_a_run.Goals as goal

pub returns-clause-found : goal.returns-clause-found
returns-clause-found c =
    unexplained_by_all c.widest_configurations_are_enough.ensures.begins c.widest_configurations_without_open_are_enough.ensures.begins c.widest_settings_are_widest.ensures
    c.own_faults_are_all.ensures.sent

pub returns-clause-end : goal.returns-clause-end
returns-clause-end c =
    no_order
    (unexplained_by_all c.widest_configurations_are_enough.ensures.begins c.widest_configurations_without_open_are_enough.ensures.begins c.widest_settings_are_widest.ensures
    c.own_faults_are_all.ensures.sent)
