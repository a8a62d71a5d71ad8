use Rattle.std.proofs.Common.{◌↔◌, IsTrue, subst}
use Rattle.bgp_prefix.specs.Shown.{Changed}
use Rattle.bgp_machine.specs.declared.fsm.Fsm.{Fsm}
use Rattle.bgp_machine.specs.declared.fsm.Fsm.TheVariants as fsms
use Rattle.bgp_machine.specs.State.{number_of}
use Rattle.bgp_judge.specs.Told.{told}
use Rattle.bgp_reason.specs.Following.{MayFollow}
use Rattle.bgp_reason.proofs.Asks.{each_state}
use Rattle.bgp_reason.proofs.asking.changes.Goals as goal

pub returns : goal.returns
returns g c = λ config records stands same fsm.
    each_state (λ (to : Fsm). MayFollow config records (Changed 0 (number_of (told records).fsm) (number_of to))) _
    (subst (λ (v : Fsm). IsTrue c.in_ok-may_change.field-0 ↔ MayFollow config records (Changed 0 (number_of v) (number_of fsms.Idle))) same (c.in_ok-may_change.ensures config records stands))
    (subst (λ (v : Fsm). IsTrue c.in_ok-may_change-2.field-0 ↔ MayFollow config records (Changed 0 (number_of v) (number_of fsms.Connect))) same (c.in_ok-may_change-2.ensures config records stands))
    (subst (λ (v : Fsm). IsTrue c.in_ok-may_change-3.field-0 ↔ MayFollow config records (Changed 0 (number_of v) (number_of fsms.Active))) same (c.in_ok-may_change-3.ensures config records stands))
    (subst (λ (v : Fsm). IsTrue c.in_ok-may_change-4.field-0 ↔ MayFollow config records (Changed 0 (number_of v) (number_of fsms.OpenSent))) same (c.in_ok-may_change-4.ensures config records stands))
    (subst (λ (v : Fsm). IsTrue c.in_ok-may_change-5.field-0 ↔ MayFollow config records (Changed 0 (number_of v) (number_of fsms.OpenConfirm))) same (c.in_ok-may_change-5.ensures config records stands))
    (subst (λ (v : Fsm). IsTrue c.in_ok-may_change-6.field-0 ↔ MayFollow config records (Changed 0 (number_of v) (number_of fsms.Established))) same (c.in_ok-may_change-6.ensures config records stands))
    fsm
