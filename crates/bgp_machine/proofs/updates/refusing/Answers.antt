use Rattle.bgp_machine.proofs.UpdateRows.{if_true, if_false, refused, without_subcodes}
use Rattle.bgp_machine.proofs.updates.refusing.Goals as goal

pub returns-then-is_empty : goal.returns-then-is_empty
returns-then-is_empty g c octets t are =
    without_subcodes c.args.own c.args.timer t octets c.args.outcomes.now are
    (if_true c.is_empty.result _ _ c.if-is_empty.true c.is_empty.ensures)

pub returns : goal.returns
returns g c octets t are =
    refused c.args.own c.args.timer t octets c.args.outcomes.now c.naming.result are c.subcodes_are_sets.ensures
    (if_false c.is_empty.result _ _ c.if-is_empty.false c.is_empty.ensures) c.naming.ensures
