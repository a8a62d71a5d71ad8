use Rattle.std.proofs.Common.{IfSome, subst}
use Rattle.bgp_explain.specs.Progress.{IsFound, IsLast}
use Rattle.bgp_explain.proofs.progress.stopped.Goals as goal

pub returns-clause-is : goal.returns-clause-is
returns-clause-is g c = λ before shown said found.
    let last = subst (λ o. IsLast before o) c.in-Some.is said.last_message in
    let is = subst (λ o. IfSome o (IsFound c.args.config.now before shown)) c.in-Some-found.is found in (
      record {
        told = said.told;
        moments = said.moments;
        link = said.sending.link;
        left_out = c.left_out.ensures before said.sending.offers;
        last_message = last;
        possible = is.possible;
        asked = is.asked;
        timely = is.timely;
      },
      (is.number, is.kept),
    )
