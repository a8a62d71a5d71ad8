use Rattle.std.proofs.Common.{refl}
use Rattle.bgp_machine.specs.declared.rows.HiddenRow.TheVariants as rows
use Rattle.bgp_machine.specs.declared.state.Head.TheVariants.{OpenConfirm, Established}
use Rattle.bgp_speaker.proofs.MayBeTaken.{may_own}
use Rattle.bgp_speaker.proofs.picking.picked_with_link.Goals as goal

pub returns-in-Stop-clause-may_confirm : goal.returns-in-Stop-clause-may_confirm
returns-in-Stop-clause-may_confirm c config link =
    may_own config (OpenConfirm link c.args.timer) (OpenConfirm link c.args.timer) c.args.t rows.Ceases _ _ refl (refl, refl) tt

pub returns-in-Stop-clause-may_established : goal.returns-in-Stop-clause-may_established
returns-in-Stop-clause-may_established c config link =
    may_own config (Established link c.args.timer) (Established link c.args.timer) c.args.t rows.Ceases _ _ refl (refl, refl) tt

pub returns-in-Failed-clause-may_confirm : goal.returns-in-Failed-clause-may_confirm
returns-in-Failed-clause-may_confirm c config link =
    may_own config (OpenConfirm link c.args.timer) (OpenConfirm link c.args.timer) c.args.t rows.ConnectionFails _ _ refl (refl, refl) tt

pub returns-in-Failed-clause-may_established : goal.returns-in-Failed-clause-may_established
returns-in-Failed-clause-may_established c config link =
    may_own config (Established link c.args.timer) (Established link c.args.timer) c.args.t rows.ConnectionFails _ _ refl (refl, refl) tt
