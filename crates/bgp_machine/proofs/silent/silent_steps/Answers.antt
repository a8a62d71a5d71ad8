use Rattle.std.proofs.Common.{sym, subst, List}
use Rattle.bgp_machine.specs.declared.state.Head.{Head}
use Rattle.bgp_machine.specs.Run.{ListsSilent}
use Rattle.bgp_machine.proofs.Quiet.{lists_silent}
use Rattle.bgp_machine.proofs.silent.silent_steps.Goals as goal

pub returns : goal.returns
returns c = λ routes.
    subst (λ (heads : List Head). ListsSilent c.args.config.now (record { head = c.args.head; routes = routes }) heads) (sym c.heads_after.ensures)
    (lists_silent c.args.config.now c.args.head routes)
