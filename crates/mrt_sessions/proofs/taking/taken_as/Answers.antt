use Rattle.mrt_sessions.proofs.Judged.{judged_of, shows_here}
use Rattle.mrt_sessions.proofs.taking.taken_as.Goals as goal

pub returns-in-OfSession : goal.returns-in-OfSession
returns-in-OfSession c = (
  judged_of c.args.session.now c.args.last c.args.named.now.octets.now _ _ _ c.header-header.ensures c.body-body.ensures c.in-OfSession.ensures.0,
  shows_here c.args.named.now.octets.now _ _ c.in-OfSession.found _ c.header-header.ensures c.body-body.ensures c.in-OfSession.ensures.1 c.record_of.ensures,
)

pub returns-in-Skipped : goal.returns-in-Skipped
returns-in-Skipped c =
    judged_of c.args.session.now c.args.last c.args.named.now.octets.now _ _ _ c.header-header.ensures c.body-body.ensures c.in-Skipped.ensures.0

pub returns-in-Refused : goal.returns-in-Refused
returns-in-Refused c =
    judged_of c.args.session.now c.args.last c.args.named.now.octets.now _ _ _ c.header-header.ensures c.body-body.ensures c.in-Refused.ensures
