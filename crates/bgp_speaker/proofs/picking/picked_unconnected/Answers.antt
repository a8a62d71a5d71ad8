use Rattle.std.proofs.Common.{refl}
use Rattle.bgp_machine.specs.declared.rows.HiddenRow.TheVariants as rows
use Rattle.bgp_machine.specs.declared.state.Head.TheVariants.{Connect, Active}
use Rattle.bgp_speaker.proofs.MayBeTaken.{may_fail, may_own}
use Rattle.bgp_speaker.proofs.picking.picked_unconnected.Goals as goal

pub returns-in-Stop-clause-may_connect : goal.returns-in-Stop-clause-may_connect
returns-in-Stop-clause-may_connect c config delay t =
    may_own config (Connect delay) (Connect delay) t rows.Stops _ _ refl (refl, refl) tt

pub returns-in-Stop-clause-may_active : goal.returns-in-Stop-clause-may_active
returns-in-Stop-clause-may_active c config delay t =
    may_own config (Active delay) (Active delay) t rows.Stops _ _ refl (refl, refl) tt

pub returns-in-Connected-clause-may_connect : goal.returns-in-Connected-clause-may_connect
returns-in-Connected-clause-may_connect c config delay t =
    may_own config (Connect delay) (Connect delay) t rows.ConnectionOpens _ _ refl (refl, refl) tt

pub returns-in-Connected-clause-may_active : goal.returns-in-Connected-clause-may_active
returns-in-Connected-clause-may_active c config delay t =
    may_own config (Active delay) (Active delay) t rows.ConnectionOpens _ _ refl (refl, refl) tt

pub returns-in-Failed-clause-may_connect : goal.returns-in-Failed-clause-may_connect
returns-in-Failed-clause-may_connect c config delay t = may_fail config delay t

pub returns-in-Failed-clause-may_active : goal.returns-in-Failed-clause-may_active
returns-in-Failed-clause-may_active c config delay t =
    may_own config (Active delay) (Active delay) t rows.ConnectionFails _ _ refl (refl, refl) tt
