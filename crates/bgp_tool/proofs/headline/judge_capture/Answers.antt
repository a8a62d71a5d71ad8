use Rattle.bgp_tool.proofs.CaptureJudged.{judges_capture}
use Rattle.bgp_tool.proofs.headline.judge_capture.Goals as goal

pub returns : goal.returns
returns g c =
    judges_capture g.W.Sink.takes g.W.Sink.failures g.R.Source.gives g.R.Source.has_ended g.R.Source.failures c.args.config.now c.args.source.now c.judge-answer.new.source g.T.Tracker.may_lack
    c.args.sink.now c.write_answer.new.sink c.judge-answer.result c.write_answer.result c.judge-answer.ensures.judged c.judge-answer.ensures.failures
    c.write_answer.ensures.writes
