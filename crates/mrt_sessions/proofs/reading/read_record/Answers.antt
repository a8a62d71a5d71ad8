use Rattle.std.proofs.Common.{refl}
use Rattle.mrt_sessions.proofs.Judged.{judged_here, session_with}
use Rattle.mrt_sessions.proofs.Skipping.{never_skipped}
use Rattle.mrt_sessions.proofs.reading.read_record.Goals as goal

pub returns-in-Shown-clause-ok : goal.returns-in-Shown-clause-ok
returns-in-Shown-clause-ok c = (
  judged_here c.args.addresses c.args.extended c.args.last c.args.named.now.octets.now _ _ c.may_be_extended.result c.header.ensures c.may_be_extended.ensures c.in-Shown.ensures.0,
  c.in-Shown.ensures.1,
)

pub returns-in-Refused-clause-err : goal.returns-in-Refused-clause-err
returns-in-Refused-clause-err c =
    judged_here c.args.addresses c.args.extended c.args.last c.args.named.now.octets.now _ _ c.may_be_extended.result c.header.ensures c.may_be_extended.ensures c.in-Refused.ensures

pub unreachable-requires : goal.unreachable-requires
unreachable-requires c =
    never_skipped (session_with c.args.addresses c.may_be_extended.result) c.args.last c.args.named.now.octets.now c.args.named.now.named c.requires refl c.in-Skipped.field-0 c.in-Skipped.ensures
