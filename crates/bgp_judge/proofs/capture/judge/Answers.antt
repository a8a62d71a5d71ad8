use Rattle.bgp_judge.proofs.CaptureEnds.{judges_read}
use Rattle.bgp_judge.proofs.capture.judge.Goals as goal

pub returns-clause-judged : goal.returns-clause-judged
returns-clause-judged g c =
    judges_read g.S.Source.gives g.S.Source.has_ended c.args.config.now c.args.source.now c.judge_with.new.source g.T.Tracker.may_lack c.judge_with.new.reader c.judge_with.result
    c.judge_with.ensures.judged
