use Rattle.bgp_machine.specs.Listed.{changes_of}
use Rattle.bgp_machine.specs.Rows.{UpdateShown}
use Rattle.bgp_machine.proofs.RowByRow.{skips, adds}
use Rattle.bgp_machine.proofs.updates.add_update.Goals as goal

pub returns-in_default-clause-listed : goal.returns-in_default-clause-listed
returns-in_default-clause-listed g c =
    λ octets rows are l. skips (UpdateShown c.args.own c.args.timer c.args.t octets) (changes_of c.args.outcomes.now.changes) c.args.row rows _ (c.in_default.ensures octets are) l

pub returns-clause-listed : goal.returns-clause-listed
returns-clause-listed g c =
    λ octets rows are l. adds (UpdateShown c.args.own c.args.timer c.args.t octets) (changes_of c.args.outcomes.now.changes) c.args.row rows c.in-Some.step _ _ (c.in-Some.ensures octets are) c.add.ensures.added l
