use Rattle.bgp_why.proofs.refusal.open_reasons.Goals as goal

pub returns-in-None : goal.returns-in-None
returns-in-None c = c.unreadable.ensures c.args.config.now
