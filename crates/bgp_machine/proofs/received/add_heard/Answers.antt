use Rattle.bgp_machine.specs.Listed.{no_changes}
use Rattle.bgp_machine.specs.Rows.{HeardShown}
use Rattle.bgp_machine.proofs.RowByRow.{skips, adds}
use Rattle.bgp_machine.proofs.received.add_heard.Goals as goal

pub returns-in_default-clause-listed : goal.returns-in_default-clause-listed
returns-in_default-clause-listed c =
    λ octets rows l. skips (HeardShown c.args.head c.args.t octets c.args.message) no_changes c.args.row rows _ (c.in_default.ensures octets) l

pub returns-clause-listed : goal.returns-clause-listed
returns-clause-listed c =
    λ octets rows l. adds (HeardShown c.args.head c.args.t octets c.args.message) no_changes c.args.row rows c.in-Some.step _ _ (c.in-Some.ensures octets) c.add.ensures.added l
