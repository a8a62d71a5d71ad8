use Rattle.std.proofs.Common.{IsTrue, refl, [], ◌∷◌}
use Rattle.bgp_machine.specs.declared.rows.HiddenRow.TheVariants.{DelayExpires, ConnectionOpens, ConnectionFails, Notes}
use Rattle.bgp_machine.specs.declared.state.Head.TheVariants.{Connect}
use Rattle.bgp_machine.specs.declared.want.Want.TheVariants as wants
use Rattle.bgp_machine.specs.State.{enters, waiting}
use Rattle.bgp_machine.specs.Step.{failed}
use Rattle.bgp_machine.proofs.OneStep.{one_step, guarded_step, no_step, entered, shows_failed}
use Rattle.bgp_machine.proofs.hidden.connect_step.Goals as goal

pub returns-in-DelayExpires : goal.returns-in-DelayExpires
returns-in-DelayExpires c =
    guarded_step c.args.config.now (Connect c.args.delay) c.args.t c.args.row DelayExpires (IsTrue c.args.delay) _ _ _ (wants.OwnOpen ∷ []) (enters (waiting c.args.config.now c.args.t))
    c.in-DelayExpires.is (λ p. p, λ p. p) c.only_if.ensures (λ p. (p, refl, refl)) (λ w v h. h) tt (entered _ _ (Connect c.args.delay) _ (waiting c.args.config.now c.args.t) c.waiting.ensures c.entering-opened.ensures)

pub returns-in-ConnectionOpens : goal.returns-in-ConnectionOpens
returns-in-ConnectionOpens c =
    one_step c.args.config.now (Connect c.args.delay) c.args.t c.args.row ConnectionOpens _ (wants.OwnOpen ∷ []) (enters (waiting c.args.config.now c.args.t))
    c.in-ConnectionOpens.is (refl, refl) (λ w v h. h) tt (entered _ _ (Connect c.args.delay) _ (waiting c.args.config.now c.args.t) c.waiting.ensures c.entering-opened.ensures)

pub returns-in-ConnectionFails : goal.returns-in-ConnectionFails
returns-in-ConnectionFails c =
    one_step c.args.config.now (Connect c.args.delay) c.args.t c.args.row ConnectionFails _ [] (failed c.args.delay)
    c.in-ConnectionFails.is (refl, refl) (λ w v h. h) (shows_failed c.args.delay) c.failing.ensures

pub returns-in-Notes : goal.returns-in-Notes
returns-in-Notes c =
    one_step c.args.config.now (Connect c.args.delay) c.args.t c.args.row Notes _ [] (enters (Connect c.args.delay))
    c.in-Notes.is (refl, refl) (λ w v h. h) tt c.noting.ensures

pub returns-in_default : goal.returns-in_default
returns-in_default c =
    no_step c.args.config.now (Connect c.args.delay) c.args.t c.args.row
    (c.in_default.not-Stops, (c.in_default.not-DelayExpires, (c.in_default.not-ConnectionOpens, (c.in_default.not-ConnectionFails, (c.in_default.not-Notes, tt)))))
