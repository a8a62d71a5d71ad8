use Rattle.bgp_machine.proofs.messages.list_message_steps.Goals as goal

pub returns-in_default-clause-exact : goal.returns-in_default-clause-exact
returns-in_default-clause-exact g c =
    c.plain_steps.ensures.exact c.args.config.now c.args.octets.now c.hear.ensures
