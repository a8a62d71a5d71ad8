use Rattle.bgp_explain.proofs.Telling.{can_be_put, explains_capture}
use Rattle.bgp_explain.proofs.headline.explain_capture.Goals as goal

pub write_explained-requires-clause-can : goal.write_explained-requires-clause-can
write_explained-requires-clause-can g c =
    can_be_put g.R.Source.gives g.R.Source.has_ended c.args.config.now c.args.source.now c.explain_with-explained.new.source g.T.Tracker.may_lack c.explain_with-explained.new.reader
    c.explain_with-explained.result c.explain_with-explained.ensures.explained

pub returns : goal.returns
returns g c =
    explains_capture c.args.form g.W.Sink.takes g.W.Sink.failures g.R.Source.gives g.R.Source.has_ended g.R.Source.failures c.args.config.now c.args.source.now
    c.explain_with-explained.new.source g.T.Tracker.may_lack c.args.sink.now c.write_explained.new.sink c.explain_with-explained.new.reader c.explain_with-explained.result
    c.write_explained.result c.explain_with-explained.ensures.explained c.explain_with-explained.ensures.failures c.write_explained.ensures.writes
