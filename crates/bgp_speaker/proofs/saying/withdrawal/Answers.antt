use Rattle.bgp_speaker.proofs.ToldPrefix.{withdrawn_sendable, withdrawn_short}
use Rattle.bgp_speaker.proofs.saying.withdrawal.Goals as goal

pub written-requires-clause-sendable : goal.written-requires-clause-sendable
written-requires-clause-sendable g c = withdrawn_sendable c.args.link.now c.args.prefix c.family.result c.requires.plain c.family.ensures

pub written-requires-clause-fits : goal.written-requires-clause-fits
written-requires-clause-fits g c =
    (c.one_prefix_can_be_written.ensures c.args.link.now c.family.result c.args.prefix c.prefix_is_fit.ensures).1

pub written-requires-clause-short : goal.written-requires-clause-short
written-requires-clause-short g c =
    withdrawn_short c.one_prefix_can_be_written.ensures c.args.link.now c.family.result c.args.prefix c.prefix_is_fit.ensures
