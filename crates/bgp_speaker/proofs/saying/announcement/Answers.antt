use Rattle.std.proofs.Common.{Some, IfOk, subst}
use Rattle.bgp_update.specs.Changes.{RouteChanges}
use Rattle.bgp_speaker.specs.Said.{SaysChanges}
use Rattle.bgp_speaker.proofs.ToldPrefix.{announced_short, changes_announced, sendable, short}
use Rattle.bgp_speaker.proofs.saying.announcement.Goals as goal

pub written-requires-clause-fits : goal.written-requires-clause-fits
written-requires-clause-fits g c =
    (c.one_prefix_can_be_written.ensures c.args.link.now c.family-family.result c.args.prefix c.prefix_is_fit.ensures).0 c.in_ok-path.path
    (short c.args.speaker.now c.args.link.now c.family-family.result c.in_ok-path.path c.in_ok-path.ensures)

pub written-requires-clause-short : goal.written-requires-clause-short
written-requires-clause-short g c =
    announced_short c.one_prefix_can_be_written.ensures c.args.link.now c.family-family.result c.args.prefix c.prefix_is_fit.ensures c.in_ok-path.path
    (short c.args.speaker.now c.args.link.now c.family-family.result c.in_ok-path.path c.in_ok-path.ensures)

pub written-requires-clause-sendable : goal.written-requires-clause-sendable
written-requires-clause-sendable g c =
    sendable c.args.speaker.now c.args.link.now c.args.prefix c.family-family.result c.in_ok-path.path c.requires.plain c.family-family.ensures c.in_ok-path.ensures

pub returns : goal.returns
returns g c =
    subst (λ (changes : RouteChanges). IfOk c.written.result (λ m. SaysChanges (Some c.args.link.now) changes m.items))
    (changes_announced c.args.speaker.now c.args.link.now c.args.prefix c.family-family.result c.in_ok-path.path c.family-family.ensures c.in_ok-path.ensures)
    c.written.ensures
