use Rattle.bgp_machine.specs.Listed.{no_changes}
use Rattle.bgp_machine.specs.Rows.{HiddenShown}
use Rattle.bgp_machine.proofs.RowByRow.{skips, adds}
use Rattle.bgp_machine.proofs.hidden.add_row.Goals as goal

pub returns-in_default-clause-listed : goal.returns-in_default-clause-listed
returns-in_default-clause-listed c =
    λ rows l. skips (HiddenShown c.args.config.now c.args.head c.args.t) no_changes c.args.row rows _ c.in_default.ensures l

pub returns-clause-listed : goal.returns-clause-listed
returns-clause-listed c =
    λ rows l. adds (HiddenShown c.args.config.now c.args.head c.args.t) no_changes c.args.row rows c.in-Some.step _ _ c.in-Some.ensures c.add.ensures.added l
