use Rattle.bgp_explain.proofs.Keeping.{judges_without}
use Rattle.bgp_explain.proofs.records.concluded.Goals as goal

pub returns-clause-explained : goal.returns-clause-explained
returns-clause-explained g c = λ records at.
    let (is, has, sums) = c.in_ok-verdict.ensures.is records at in record {
      verdict = is;
      reason = has;
      summed = sums;
      left_out = judges_without (g.T.Tracker.stands_for c.args.tracker.now) c.args.config.now records c.args.progress c.left_out-left_out.result at c.left_out-left_out.ensures;
    }
