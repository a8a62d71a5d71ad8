use Rattle.bgp_speak_tool.proofs.PairJudged.{judges_pair}
use Rattle.bgp_speak_tool.proofs.pair_judging.judge_pair.Goals as goal

pub returns-clause-judges : goal.returns-clause-judges
returns-clause-judges g c =
    judges_pair g.L.Source.gives g.L.Source.has_ended g.L.Source.failures c.args.left_config.now c.args.left.now c.judge-one.new.source
    g.R.Source.gives g.R.Source.has_ended g.R.Source.failures c.args.right_config.now c.args.right.now c.judge-other.new.source g.T.Tracker.may_lack
    g.W.Sink.takes g.W.Sink.failures c.args.sink.now c.write_answers.new.sink c.judge-one.result c.judge-other.result c.write_answers.result
    c.judge-one.ensures.judged c.judge-one.ensures.failures c.judge-other.ensures.judged c.judge-other.ensures.failures c.write_answers.ensures.writes
