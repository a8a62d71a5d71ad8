use Rattle.std.proofs.Common.{◌∙◌}
use Rattle.bgp_ladder.proofs.NoOpen.{no_open_came}
use Rattle.bgp_ladder.proofs.rows.take_message.Goals as goal

pub returns-else-type_of-eq-OPEN : goal.returns-else-type_of-eq-OPEN
returns-else-type_of-eq-OPEN c = λ received sent are.
    no_open_came c.args.direction c.args.octets.now received sent c.args.opens.now (λ e. c.if-type_of-eq-OPEN.false (c.type_of.ensures ∙ e)) are
