use Rattle.bgp_machine.proofs.hidden.hidden_steps.Goals as goal

pub returns : goal.returns
returns c =
    c.shown_rows_are_all.ensures c.args.config.now c.args.head c.args.t c.rows_at.result.now c.steps_of.result.items c.steps_of.ensures
    c.rows_at.ensures.rows
