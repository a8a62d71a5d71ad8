use Rattle.std.proofs.Common.{ap, sym, subst}
use Rattle.bgp_machine.specs.declared.state.Head.{Head}
use Rattle.bgp_machine.specs.Rows.{MakesHeard}
use Rattle.bgp_machine.specs.State.{fsm_of}
use Rattle.bgp_machine.proofs.received.heard_step.Goals as goal

pub established_on-requires : goal.established_on-requires
established_on-requires c = λ e. c.requires (ap fsm_of c.in-Established.is, e)

pub returns-in-Idle : goal.returns-in-Idle
returns-in-Idle c octets =
    subst (λ (head : Head). MakesHeard head c.args.t octets c.args.message c.args.row c.idle_on.result) (sym c.in-Idle.is) (c.idle_on.ensures c.args.t octets c.args.message)

pub returns-in-Connect : goal.returns-in-Connect
returns-in-Connect c octets =
    subst (λ (head : Head). MakesHeard head c.args.t octets c.args.message c.args.row c.unopened_on.result) (sym c.in-Connect.is) (c.unopened_on.ensures octets)

pub returns-in-Active : goal.returns-in-Active
returns-in-Active c octets =
    subst (λ (head : Head). MakesHeard head c.args.t octets c.args.message c.args.row c.unopened_on-in-Active.result) (sym c.in-Active.is) (c.unopened_on-in-Active.ensures octets)

pub returns-in-OpenSent : goal.returns-in-OpenSent
returns-in-OpenSent c octets =
    subst (λ (head : Head). MakesHeard head c.args.t octets c.args.message c.args.row c.open_sent_on.result) (sym c.in-OpenSent.is) (c.open_sent_on.ensures octets)

pub returns-in-OpenConfirm : goal.returns-in-OpenConfirm
returns-in-OpenConfirm c octets =
    subst (λ (head : Head). MakesHeard head c.args.t octets c.args.message c.args.row c.open_confirm_on.result) (sym c.in-OpenConfirm.is) (c.open_confirm_on.ensures octets)

pub returns-in-Established : goal.returns-in-Established
returns-in-Established c octets =
    subst (λ (head : Head). MakesHeard head c.args.t octets c.args.message c.args.row c.established_on.result) (sym c.in-Established.is) (c.established_on.ensures octets)
