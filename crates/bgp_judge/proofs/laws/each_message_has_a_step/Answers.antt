use Rattle.std.proofs.Common.{sym, subst}
use Rattle.bgp_machine.specs.declared.state.Head.{Head}
use Rattle.bgp_machine.specs.declared.state.Head.TheVariants.{Established}
use Rattle.bgp_judge.specs.Receiving.{HasAStep}
use Rattle.bgp_judge.proofs.Receiving.{has_step, settled_down}
use Rattle.bgp_judge.proofs.laws.each_message_has_a_step.Goals as goal

pub returns-in-Established : goal.returns-in-Established
returns-in-Established g c = λ whole t none. c.settle.ensures (λ settled. none (
    subst (λ (v : Head). HasAStep c.args.config.now v t c.args.octets.now) (sym c.in-Established.is)
    (has_step (Established c.in-Established.link c.in-Established.field-1) c.args.config.now t c.args.octets.now c.hear-heard.result c.hear-heard.ensures whole settled)))

pub returns-in_default : goal.returns-in_default
returns-in_default g c = λ whole t none. none (
    has_step c.args.head c.args.config.now t c.args.octets.now c.hear-heard.result c.hear-heard.ensures whole
    (settled_down c.args.head c.args.octets.now c.in_default.not-Established))
