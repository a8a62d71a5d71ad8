use Rattle.std.proofs.Common.{refl}
use Rattle.bgp_machine.specs.declared.rows.HiddenRow.TheVariants as rows
use Rattle.bgp_machine.specs.declared.state.Head.TheVariants.{Idle, Connect, Active, OpenSent, OpenConfirm, Established}
use Rattle.bgp_speaker.proofs.MayBeTaken.{can_at, may_own}
use Rattle.bgp_speaker.proofs.picking.picked.Goals as goal

pub returns-in-Start-clause-may : goal.returns-in-Start-clause-may
returns-in-Start-clause-may c config =
    may_own config c.args.head Idle c.args.t rows.Starts _ _ c.in-Idle.is (refl, refl) tt

pub returns-in-Passive-clause-may : goal.returns-in-Passive-clause-may
returns-in-Passive-clause-may c config =
    may_own config c.args.head Idle c.args.t rows.Listens _ _ c.in-Idle.is (refl, refl) tt

pub returns-in-Connect-clause-may : goal.returns-in-Connect-clause-may
returns-in-Connect-clause-may c config =
    can_at config c.args.head (Connect c.in-Connect.field-0) c.args.t _ c.in-Connect.is (c.picked_unconnected.ensures.may_connect config c.in-Connect.field-0 c.args.t)

pub returns-in-Active-clause-may : goal.returns-in-Active-clause-may
returns-in-Active-clause-may c config =
    can_at config c.args.head (Active c.in-Active.field-0) c.args.t _ c.in-Active.is (c.picked_unconnected-in-Active.ensures.may_active config c.in-Active.field-0 c.args.t)

pub returns-in-OpenSent-clause-may : goal.returns-in-OpenSent-clause-may
returns-in-OpenSent-clause-may c config =
    can_at config c.args.head (OpenSent c.in-OpenSent.timer) c.args.t _ c.in-OpenSent.is (c.picked_in_open_sent.ensures.may config)

pub returns-in-OpenConfirm-clause-may : goal.returns-in-OpenConfirm-clause-may
returns-in-OpenConfirm-clause-may c config =
    can_at config c.args.head (OpenConfirm c.in-OpenConfirm.field-0 c.in-OpenConfirm.timer) c.args.t _ c.in-OpenConfirm.is (c.picked_with_link.ensures.may_confirm config c.in-OpenConfirm.field-0)

pub returns-in-Established-clause-may : goal.returns-in-Established-clause-may
returns-in-Established-clause-may c config =
    can_at config c.args.head (Established c.in-Established.field-0 c.in-Established.timer) c.args.t _ c.in-Established.is (c.picked_with_link-in-Established.ensures.may_established config c.in-Established.field-0)
