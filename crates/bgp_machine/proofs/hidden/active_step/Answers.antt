use Rattle.std.proofs.Common.{IsTrue, false, refl, [], ◌∷◌}
use Rattle.bgp_machine.specs.declared.rows.HiddenRow.TheVariants.{Stops, Ceases, RetryExpires, DelayExpires, ConnectionOpens, ConnectionFails, Notes}
use Rattle.bgp_machine.specs.declared.state.Head.TheVariants.{Active, Connect}
use Rattle.bgp_machine.specs.declared.want.Want.TheVariants as wants
use Rattle.bgp_machine.specs.State.{enters, falls, waiting}
use Rattle.bgp_machine.proofs.OneStep.{one_step, guarded_step, no_step, entered}
use Rattle.bgp_machine.proofs.hidden.active_step.Goals as goal

pub returns-in-Stops : goal.returns-in-Stops
returns-in-Stops c =
    one_step c.args.config.now (Active c.args.delay) c.args.t c.args.row Stops _ [] falls
    c.in-Stops.is (refl, refl) (λ w v h. h) tt c.falling.ensures

pub returns-in-Ceases : goal.returns-in-Ceases
returns-in-Ceases c =
    guarded_step c.args.config.now (Active c.args.delay) c.args.t c.args.row Ceases (IsTrue c.args.delay) _ _ _ (wants.Cease ∷ []) falls
    c.in-Ceases.is (λ p. p, λ p. p) c.only_if.ensures (λ p. (p, refl, refl)) (λ w v h. h) tt c.falling-in-Ceases.ensures

pub returns-in-RetryExpires : goal.returns-in-RetryExpires
returns-in-RetryExpires c =
    one_step c.args.config.now (Active c.args.delay) c.args.t c.args.row RetryExpires _ [] (enters (Connect false))
    c.in-RetryExpires.is (refl, refl) (λ w v h. h) tt c.entering.ensures

pub returns-in-DelayExpires : goal.returns-in-DelayExpires
returns-in-DelayExpires c =
    guarded_step c.args.config.now (Active c.args.delay) c.args.t c.args.row DelayExpires (IsTrue c.args.delay) _ _ _ (wants.OwnOpen ∷ []) (enters (waiting c.args.config.now c.args.t))
    c.in-DelayExpires.is (λ p. p, λ p. p) c.only_if-in-DelayExpires.ensures (λ p. (p, refl, refl)) (λ w v h. h) tt (entered _ _ (Active c.args.delay) _ (waiting c.args.config.now c.args.t) c.waiting.ensures c.entering-opened.ensures)

pub returns-in-ConnectionOpens : goal.returns-in-ConnectionOpens
returns-in-ConnectionOpens c =
    one_step c.args.config.now (Active c.args.delay) c.args.t c.args.row ConnectionOpens _ (wants.OwnOpen ∷ []) (enters (waiting c.args.config.now c.args.t))
    c.in-ConnectionOpens.is (refl, refl) (λ w v h. h) tt (entered _ _ (Active c.args.delay) _ (waiting c.args.config.now c.args.t) c.waiting.ensures c.entering-opened.ensures)

pub returns-in-ConnectionFails : goal.returns-in-ConnectionFails
returns-in-ConnectionFails c =
    one_step c.args.config.now (Active c.args.delay) c.args.t c.args.row ConnectionFails _ [] falls
    c.in-ConnectionFails.is (refl, refl) (λ w v h. h) tt c.falling-in-ConnectionFails.ensures

pub returns-in-Notes : goal.returns-in-Notes
returns-in-Notes c =
    one_step c.args.config.now (Active c.args.delay) c.args.t c.args.row Notes _ [] (enters (Active c.args.delay))
    c.in-Notes.is (refl, refl) (λ w v h. h) tt c.noting.ensures

pub returns-in_default : goal.returns-in_default
returns-in_default c =
    no_step c.args.config.now (Active c.args.delay) c.args.t c.args.row
    (c.in_default.not-Stops, (c.in_default.not-Ceases, (c.in_default.not-RetryExpires, (c.in_default.not-DelayExpires, (c.in_default.not-ConnectionOpens, (c.in_default.not-ConnectionFails, (c.in_default.not-Notes, tt)))))))
