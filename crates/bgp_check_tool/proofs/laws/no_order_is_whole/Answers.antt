use Rattle.bgp_check_tool.proofs.NoOrder.{unfinished_by_all}
use Rattle.bgp_check_tool.proofs.Verdicts.{none_whole}
use Rattle.bgp_check_tool.proofs.laws.no_order_is_whole.Goals as goal

pub returns-clause-found : goal.returns-clause-found
returns-clause-found c =
    unfinished_by_all c.widest_configurations_are_enough.ensures.complete c.widest_configurations_without_open_are_enough.ensures.complete c.widest_settings_are_widest.ensures
    c.own_faults_are_all.ensures.sent

pub returns-clause-end : goal.returns-clause-end
returns-clause-end c =
    none_whole
    (unfinished_by_all c.widest_configurations_are_enough.ensures.complete c.widest_configurations_without_open_are_enough.ensures.complete c.widest_settings_are_widest.ensures
    c.own_faults_are_all.ensures.sent)
