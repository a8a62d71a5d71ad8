use Rattle.std.proofs.Common.{subst, sym}
use Rattle.bgp_machine.specs.declared.rows.ReceivedRow.{ReceivedRow}
use Rattle.bgp_machine.specs.Rows.{MakesUpdate}
use Rattle.bgp_machine.proofs.updates.update_step.Goals as goal

pub returns-in-NamesFault : goal.returns-in-NamesFault
returns-in-NamesFault g c octets are =
    subst (λ (row : ReceivedRow). MakesUpdate c.args.own c.args.timer c.args.t octets c.args.outcomes.now row c.refusing.result) (sym c.in-NamesFault.is) (c.refusing.ensures octets c.args.t are)

pub returns-in-Applies : goal.returns-in-Applies
returns-in-Applies g c octets are =
    subst (λ (row : ReceivedRow). MakesUpdate c.args.own c.args.timer c.args.t octets c.args.outcomes.now row c.applying.result) (sym c.in-Applies.is) (c.applying.ensures octets are)
