use Rattle.std.proofs.Common.{refl, [], ◌∷◌}
use Rattle.bgp_machine.specs.declared.rows.HiddenRow.TheVariants.{Ceases, HoldExpires, SendHoldExpires, KeepaliveExpires, ConnectionFails, Notes}
use Rattle.bgp_machine.specs.declared.state.Head.TheVariants.{Established}
use Rattle.bgp_machine.specs.declared.want.Want.TheVariants as wants
use Rattle.bgp_machine.specs.State.{enters, falls}
use Rattle.bgp_machine.specs.Step.{IsExpired, IsRunning}
use Rattle.bgp_machine.proofs.OneStep.{one_step, guarded_step, no_step}
use Rattle.bgp_machine.proofs.hidden.established_step.Goals as goal

pub returns-in-Ceases : goal.returns-in-Ceases
returns-in-Ceases c config =
    one_step config (Established c.args.link c.args.timer) c.args.t c.args.row Ceases _ (wants.Cease ∷ []) falls
    c.in-Ceases.is (refl, refl) (λ w v h. h) tt c.falling.ensures

pub returns-in-HoldExpires : goal.returns-in-HoldExpires
returns-in-HoldExpires c config =
    guarded_step config (Established c.args.link c.args.timer) c.args.t c.args.row HoldExpires (IsExpired c.args.timer c.args.t) _ _ _ (wants.HoldExpired ∷ []) falls
    c.in-HoldExpires.is c.is_expired.ensures c.only_if.ensures (λ p. (p, refl, refl)) (λ w v h. h) tt c.falling-expired.ensures

pub returns-in-SendHoldExpires : goal.returns-in-SendHoldExpires
returns-in-SendHoldExpires c config =
    guarded_step config (Established c.args.link c.args.timer) c.args.t c.args.row SendHoldExpires (IsRunning c.args.timer) _ _ _ (wants.SendHoldExpired ∷ []) falls
    c.in-SendHoldExpires.is c.is_running.ensures c.only_if-in-SendHoldExpires.ensures (λ p. (p, refl, refl)) (λ w v h. h) tt c.falling-send_expired.ensures

pub returns-in-KeepaliveExpires : goal.returns-in-KeepaliveExpires
returns-in-KeepaliveExpires c config =
    guarded_step config (Established c.args.link c.args.timer) c.args.t c.args.row KeepaliveExpires (IsRunning c.args.timer) _ _ _ (wants.KeepAlive ∷ []) (enters (Established c.args.link c.args.timer))
    c.in-KeepaliveExpires.is c.is_running-in-KeepaliveExpires.ensures c.only_if-in-KeepaliveExpires.ensures (λ p. (p, refl, refl)) (λ w v h. h) tt c.entering-alive.ensures

pub returns-in-ConnectionFails : goal.returns-in-ConnectionFails
returns-in-ConnectionFails c config =
    one_step config (Established c.args.link c.args.timer) c.args.t c.args.row ConnectionFails _ [] falls
    c.in-ConnectionFails.is (refl, refl) (λ w v h. h) tt c.falling-in-ConnectionFails.ensures

pub returns-in-Notes : goal.returns-in-Notes
returns-in-Notes c config =
    one_step config (Established c.args.link c.args.timer) c.args.t c.args.row Notes _ [] (enters (Established c.args.link c.args.timer))
    c.in-Notes.is (refl, refl) (λ w v h. h) tt c.noting.ensures

pub returns-in_default : goal.returns-in_default
returns-in_default c config =
    no_step config (Established c.args.link c.args.timer) c.args.t c.args.row
    (c.in_default.not-Ceases, (c.in_default.not-HoldExpires, (c.in_default.not-SendHoldExpires, (c.in_default.not-KeepaliveExpires, (c.in_default.not-ConnectionFails, (c.in_default.not-Announces, (c.in_default.not-Notes, tt)))))))
