use Rattle.bgp_machine.proofs.messages.steps_on_update.Goals as goal

pub returns-in_default-clause-exact : goal.returns-in_default-clause-exact
returns-in_default-clause-exact g c = λ config hears. c.plain_steps.ensures.exact config c.args.octets.now hears
