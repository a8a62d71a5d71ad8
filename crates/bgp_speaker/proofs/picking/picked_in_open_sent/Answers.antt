use Rattle.std.proofs.Common.{refl}
use Rattle.bgp_machine.specs.declared.rows.HiddenRow.TheVariants as rows
use Rattle.bgp_machine.specs.declared.state.Head.TheVariants.{OpenSent}
use Rattle.bgp_speaker.proofs.MayBeTaken.{may_own}
use Rattle.bgp_speaker.proofs.picking.picked_in_open_sent.Goals as goal

pub returns-in-Stop-clause-may : goal.returns-in-Stop-clause-may
returns-in-Stop-clause-may c config =
    may_own config (OpenSent c.args.timer) (OpenSent c.args.timer) c.args.t rows.Ceases _ _ refl (refl, refl) tt

pub returns-in-Failed-clause-may : goal.returns-in-Failed-clause-may
returns-in-Failed-clause-may c config =
    may_own config (OpenSent c.args.timer) (OpenSent c.args.timer) c.args.t rows.ConnectionFails _ _ refl (refl, refl) tt

pub returns-in-Tick-clause-may : goal.returns-in-Tick-clause-may
returns-in-Tick-clause-may c config =
    may_own config (OpenSent c.args.timer) (OpenSent c.args.timer) c.args.t rows.HoldExpires _ _ refl (c.is_expired.ensures.0 c.if-is_expired.true, refl, refl) tt
