use Rattle.std.proofs.Common.{false, refl, [], ◌∷◌}
use Rattle.bgp_machine.specs.declared.rows.HiddenRow.TheVariants.{Ceases, HoldExpires, ConnectionFails, Notes}
use Rattle.bgp_machine.specs.declared.state.Head.TheVariants.{OpenSent, Active}
use Rattle.bgp_machine.specs.declared.want.Want.TheVariants as wants
use Rattle.bgp_machine.specs.State.{enters, falls}
use Rattle.bgp_machine.specs.Step.{IsExpired}
use Rattle.bgp_machine.proofs.OneStep.{one_step, guarded_step, no_step}
use Rattle.bgp_machine.proofs.hidden.open_sent_step.Goals as goal

pub returns-in-Ceases : goal.returns-in-Ceases
returns-in-Ceases c config =
    one_step config (OpenSent c.args.timer) c.args.t c.args.row Ceases _ (wants.Cease ∷ []) falls
    c.in-Ceases.is (refl, refl) (λ w v h. h) tt c.falling.ensures

pub returns-in-HoldExpires : goal.returns-in-HoldExpires
returns-in-HoldExpires c config =
    guarded_step config (OpenSent c.args.timer) c.args.t c.args.row HoldExpires (IsExpired c.args.timer c.args.t) _ _ _ (wants.HoldExpired ∷ []) falls
    c.in-HoldExpires.is c.is_expired.ensures c.only_if.ensures (λ p. (p, refl, refl)) (λ w v h. h) tt c.falling-expired.ensures

pub returns-in-ConnectionFails : goal.returns-in-ConnectionFails
returns-in-ConnectionFails c config =
    one_step config (OpenSent c.args.timer) c.args.t c.args.row ConnectionFails _ [] (enters (Active false))
    c.in-ConnectionFails.is (refl, refl) (λ w v h. h) tt c.entering.ensures

pub returns-in-Notes : goal.returns-in-Notes
returns-in-Notes c config =
    one_step config (OpenSent c.args.timer) c.args.t c.args.row Notes _ [] (enters (OpenSent c.args.timer))
    c.in-Notes.is (refl, refl) (λ w v h. h) tt c.noting.ensures

pub returns-in_default : goal.returns-in_default
returns-in_default c config =
    no_step config (OpenSent c.args.timer) c.args.t c.args.row
    (c.in_default.not-Ceases, (c.in_default.not-HoldExpires, (c.in_default.not-ConnectionFails, (c.in_default.not-Notes, tt))))
