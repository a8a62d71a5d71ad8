use Rattle.bgp_check_tool.proofs.headline.check_recording.Goals as goal

pub returns-clause-all : goal.returns-clause-all
returns-clause-all g c = c.check_marking.ensures.all.checks
