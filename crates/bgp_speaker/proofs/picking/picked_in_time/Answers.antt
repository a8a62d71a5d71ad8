use Rattle.std.proofs.Common.{refl}
use Rattle.bgp_machine.specs.declared.rows.HiddenRow.TheVariants as rows
use Rattle.bgp_machine.specs.declared.state.Head.TheVariants.{OpenConfirm, Established}
use Rattle.bgp_speaker.proofs.MayBeTaken.{may_own}
use Rattle.bgp_speaker.proofs.picking.picked_in_time.Goals as goal

pub returns-then-is_expired-clause-may_confirm : goal.returns-then-is_expired-clause-may_confirm
returns-then-is_expired-clause-may_confirm c config link =
    may_own config (OpenConfirm link c.args.timer) (OpenConfirm link c.args.timer) c.args.t rows.HoldExpires _ _ refl (c.is_expired.ensures.0 c.if-is_expired.true, refl, refl) tt

pub returns-then-is_keepalive_due-clause-may_confirm : goal.returns-then-is_keepalive_due-clause-may_confirm
returns-then-is_keepalive_due-clause-may_confirm c config link =
    may_own config (OpenConfirm link c.args.timer) (OpenConfirm link c.args.timer) c.args.t rows.KeepaliveExpires _ _ refl ((c.is_keepalive_due.ensures.0 c.if-is_keepalive_due.true).0, refl, refl) tt

pub returns-then-is_expired-clause-may_established : goal.returns-then-is_expired-clause-may_established
returns-then-is_expired-clause-may_established c config link =
    may_own config (Established link c.args.timer) (Established link c.args.timer) c.args.t rows.HoldExpires _ _ refl (c.is_expired.ensures.0 c.if-is_expired.true, refl, refl) tt

pub returns-then-is_keepalive_due-clause-may_established : goal.returns-then-is_keepalive_due-clause-may_established
returns-then-is_keepalive_due-clause-may_established c config link =
    may_own config (Established link c.args.timer) (Established link c.args.timer) c.args.t rows.KeepaliveExpires _ _ refl ((c.is_keepalive_due.ensures.0 c.if-is_keepalive_due.true).0, refl, refl) tt
