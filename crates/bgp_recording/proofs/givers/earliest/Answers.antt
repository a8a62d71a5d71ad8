use Rattle.bgp_recording.proofs.Gave.{earliest_on, earliest_done, earliest_count}
use Rattle.bgp_recording.proofs.givers.earliest.Goals as goal

pub loop-run-preserved : goal.loop-run-preserved
loop-run-preserved g c =
    earliest_on c.args.end c.loop-run.best c.args.runs.now c.loop-run.left.now c.in-Some.before.now c.loop-run.out.items c.push.new.self.items c.in-Some.run'.now c.earlier-moment.result
    c.in-Some.ensures.cases.0 c.earlier-moment.ensures c.in_ok-push.ensures.items c.loop-run.invariant

pub returns-clause-earliest : goal.returns-clause-earliest
returns-clause-earliest g c =
    earliest_done c.args.end c.loop-run.best c.args.runs.now c.loop-run.left.now c.loop-run.out.items c.reverse.new.self.items c.in_default.ensures.cases c.loop-run.invariant c.reverse.ensures.items c.requires

pub returns-clause-count : goal.returns-clause-count
returns-clause-count g c =
    earliest_count c.args.end c.loop-run.best c.args.runs.now c.loop-run.left.now c.loop-run.out.items c.reverse.new.self.items c.in_default.ensures.cases c.loop-run.invariant c.reverse.ensures.items
